-- What `check` answers to the first line of its input: whether the gate takes the code that the line has in base64.
use Rattle.std.specs.Prelude.{ℕ, nat_lt, length, if◌then◌else◌, List, [], ◌∷◌, Option, Some, None, Result, Ok, Err, IfSome, codes, ⊤}
use Rattle.std.specs.Io.KnownBytes.{Appends}
use Rattle.outside_io.specs.Pieces.{AppendsFront}
use Rattle.base64.specs.Engines.{standard}
use Rattle.base64.specs.GeneralPurpose.{decode_of}
use Rattle.wasm_types.specs.Plain.{PlainRefusal}
use Rattle.wasm_types.specs.Gate.{gate}
use Rattle.gatekeeper.specs.Texts.{refusal_text}
use Rattle.line_protocol.specs.declared.kind.BadKind.{BadKind}
use Rattle.line_protocol.specs.declared.kind.BadKind.TheVariants.{Long, Base64}
use Rattle.line_protocol.specs.Lines.{Raw, raws_of, max_line}
use Rattle.line_protocol.specs.Texts.{line_text, check_data, bad_data}

abbrev pub first_text : List Raw → List ℕ
first_text [] = []
first_text (raw ∷ raws) = raw.text

-- no line at all counts as a line of no bytes
abbrev pub first_line : List ℕ → List ℕ
first_line input = first_text (raws_of input)

-- what the gate says of a code, or why the line isn't one
pub data Checked : Type 0 where
  judged : Option PlainRefusal → Checked
  unread : BadKind → Checked

abbrev pub decoded : {E : Type 0} → List (List ℕ) → Result (List ℕ) E → Checked
decoded caps (Ok code) = judged (gate code caps)
decoded caps (Err why) = unread Base64

-- a line, on a chain with these capabilities
abbrev pub checked : List (List ℕ) → List ℕ → Checked
checked caps line = if nat_lt max_line (length line) then unread Long else decoded caps (decode_of standard line)

abbrev pub judgement : Option PlainRefusal → List ℕ
judgement None = codes "Ok"
judgement (Some refusal) = refusal_text refusal

abbrev pub check_answer : Checked → List ℕ
check_answer (judged refusal) = line_text (check_data (judgement refusal))
check_answer (unread kind) = line_text (bad_data kind 1)

abbrev pub IsJudged : Checked → Type 0
IsJudged (judged refusal) = ⊤
IsJudged (unread kind) = ⊥

abbrev pub IsUnread : Checked → Type 0
IsUnread (judged refusal) = ⊥
IsUnread (unread kind) = ⊤

-- Of an input that a source told to have left, and what a sink had before and has now: what is said of the first line is
-- this, and the answer to it was added.
abbrev pub Checks : List (List ℕ) → Option (List ℕ) → Option (List ℕ) → Option (List ℕ) → (Checked → Type 0) → Type 0
Checks caps left old new P = IfSome left (λ input. P (checked caps (first_line input)) × Appends old new (check_answer (checked caps (first_line input))))

-- no more was added than a front of the answer
abbrev pub ChecksFront : List (List ℕ) → Option (List ℕ) → Option (List ℕ) → Option (List ℕ) → Type 0
ChecksFront caps left old new = IfSome left (λ input. AppendsFront old new (check_answer (checked caps (first_line input))))
