-- How far the lines of a source were handed out.
use Rattle.std.specs.Prelude.{◌≡◌, ◌⊎◌, ℕ, ◌+◌, ◌-◌, Bool, true, List, [], drop, length, Option}
use Rattle.std.specs.Io.KnownBytes.{prepend_known, IsAtEnd}
use Rattle.line_protocol.specs.declared.lines.Lines.{Lines}
use Rattle.line_protocol.specs.declared.lines.RawLine.{RawLine}
use Rattle.line_protocol.specs.Lines.{Raw}

-- the bytes that were taken from the source and not handed out yet
abbrev pub kept : Lines → List ℕ
kept lines = drop lines.start lines.buffer.items

-- whether the end of the input was read
abbrev pub is_ended : Lines → Bool
is_ended lines = lines.ended

-- how many lines were handed out, and how many bytes of input they took
abbrev pub number : Lines → ℕ
number lines = lines.number

abbrev pub size : Lines → ℕ
size lines = lines.size

-- the bytes still to be handed out, where the source tells what it has left
abbrev pub waiting : Lines → Option (List ℕ) → Option (List ℕ)
waiting lines left = prepend_known (kept lines) left

-- where the end was read, a source that tells what it has left has nothing left
abbrev pub KnowsEnd : Lines → Option (List ℕ) → Type 0
KnowsEnd lines left = lines.ended ≡ true → IsAtEnd left

-- nothing was handed out in between
pub record IsBehind (old new : Lines) : Type 0 where
  pub number : new.number ≡ old.number
  pub size : new.size ≡ old.size

-- a line that was handed out in between, with the input that it took
abbrev pub taken_line : Lines → Lines → RawLine → Raw
taken_line old new line = record { text = line.bytes.items; size = new.size - old.size }

-- What ended a line: a line feed, which the line took along, or the input. Then the input's end was read, and nothing is
-- kept any more.
abbrev pub IsEndedLine : Raw → Lines → Type 0
IsEndedLine raw lines = (raw.size ≡ length raw.text + 1) ⊎ ((raw.size ≡ length raw.text) × (is_ended lines ≡ true) × (kept lines ≡ []))
