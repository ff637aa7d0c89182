-- What a line says: nothing, or what its JSON says; or the first way in which it is bad.
use Rattle.std.specs.Prelude.{ℕ, ◌||◌, ◌==◌, Bool, List, Option, None, Some, ok_or, Result, Ok, Err, if◌then◌else◌}
use Rattle.std.specs.List.{list_all}
use Rattle.std.specs.Result.{result_ok}
use Rattle.serde_json.specs.Data.{Data}
use Rattle.json_shapes.specs.Json.{json_of, whole_numbered}
use Rattle.line_protocol.specs.declared.kind.BadKind.{BadKind}
use Rattle.line_protocol.specs.declared.kind.BadKind.TheVariants.{Json, Number, Shape}
use Rattle.line_protocol.specs.Parts.{value_line}
pub use Rattle.line_protocol.specs.Parts.{is_lower, is_prefix, Question, Line, empty_line, genesis_line, block_line, query_line}

-- a space, a tab or a carriage return
abbrev pub is_blank : ℕ → Bool
is_blank b = b == 32 || b == 9 || b == 13

infixl 10 ◌>>=◌
abbrev pub ◌>>=◌ : {A B : Type 0} → Result A BadKind → (A → Result B BadKind) → Result B BadKind
Ok x >>= f = f x
Err kind >>= f = Err kind

-- Bytes that are no JSON text of nesting at most 127 come before a number that is no integer of 64 bits, and this before another
-- shape than a genesis', a block's or a query's.
abbrev pub spoken_line : ℕ → List ℕ → Result Line BadKind
spoken_line number bytes = do
  any ← ok_or (json_of bytes) Json
  d ← ok_or (whole_numbered any) Number
  ok_or (result_ok (value_line number d)) Shape

-- the line of this number
unfoldable pub line_of : ℕ → List ℕ → Result Line BadKind
line_of number bytes = if list_all is_blank bytes then Ok empty_line else spoken_line number bytes
