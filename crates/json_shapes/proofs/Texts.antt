-- What a text reads as, and what it doesn't.
use Rattle.std.proofs.Common.{◌≡◌, ℕ, Bool, true, false, cond, List, Option, Some, None, refl}
use Rattle.std.proofs.lemmas.Str.{IsUtf8-from_is_utf8, is_utf8-from_IsUtf8}
use Rattle.std.specs.Bool.{IsTrue}
use Rattle.std.specs.Str.{IsUtf8, is_utf8}
use Rattle.serde_json.specs.Data.{Data}
use Rattle.serde_json.specs.Read.{read}
use Rattle.json_shapes.specs.Answers.{ReadsJson}
use Rattle.json_shapes.specs.Json.{json_of}
use Rattle.json_shapes.specs.declared.stop.JsonStop.{JsonStop}
use Rattle.json_shapes.specs.declared.stop.JsonStop.TheVariants.{NoReading, NoMemory}
use Rattle.std.proofs.Common.{Err}

utf8_cases : (b : Bool) (r : Option Data) → (b ≡ true → r ≡ None) → cond b r None ≡ None
utf8_cases true r none = none refl
utf8_cases false r none = refl

-- a text that is not UTF-8, or reads as nothing
json_none : (text : List ℕ) → (IsUtf8 text → read text ≡ None) → json_of text ≡ None
unfolding json_of
json_none text none = utf8_cases (is_utf8 text) (read text) (λ h. none (IsUtf8-from_is_utf8 text h))

pub json_some : (text : List ℕ) (d : Data) → IsUtf8 text → read text ≡ Some d → json_of text ≡ Some d
unfolding json_of
json_some text d utf8 is = rw (is_utf8-from_IsUtf8 text utf8) is

not_true : (b : Bool) → b ≡ false → IsTrue b → ⊥
not_true b is holds = cc

pub json_stopped : (text : List ℕ) (is_memory : Bool) (stop : JsonStop) → stop ≡ cond is_memory NoMemory NoReading → ((IsTrue is_memory → ⊥) → IsUtf8 text → read text ≡ None) → ReadsJson (Err stop) text
json_stopped text true stop is none = rw is tt
json_stopped text false stop is none = rw is (json_none text (none (not_true false refl)))
