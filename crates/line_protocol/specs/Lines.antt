-- The lines of an input, and which of them are too large. A line ends with a line feed or with the input.
use Rattle.std.specs.Prelude.{◌≡◌, ℕ, ◌+◌, ◌*◌, ◌^◌, List, [], ◌∷◌, length, Option, Some, None, ⊤, nat_lt, ◌==◌, if◌then◌else◌}
use Rattle.line_protocol.specs.declared.kind.BadKind.{BadKind}
use Rattle.line_protocol.specs.declared.kind.BadKind.TheVariants.{Total, Long}

abbrev pub line_feed : ℕ
line_feed = 10

-- the most bytes of a line without its line feed: 8 MiB
abbrev pub max_line : ℕ
max_line = 8 * 2 ^ 20

-- the most bytes of a whole input
abbrev pub max_input : ℕ
max_input = 2 ^ 30

-- a line's bytes, and how many bytes of the input it takes: one more where a line feed ends it
pub record Raw : Type 0 where
  pub text : List ℕ
  pub size : ℕ

abbrev pub with_first : ℕ → List Raw → List Raw
with_first b [] = record { text = b ∷ []; size = 1 } ∷ []
with_first b (raw ∷ raws) = record { text = b ∷ raw.text; size = raw.size + 1 } ∷ raws

abbrev pub after_byte : ℕ → List Raw → List Raw
after_byte b raws = if b == line_feed then record { text = []; size = 1 } ∷ raws else with_first b raws

-- the lines of these bytes
unfoldable pub raws_of : List ℕ → List Raw
raws_of [] = []
raws_of (b ∷ bytes) = after_byte b (raws_of bytes)

-- what is wrong with the size of a line of so many bytes, which takes `size` bytes after so many before
abbrev pub too_large : ℕ → ℕ → ℕ → Option BadKind
too_large before len size = if nat_lt max_input (before + size) then Some Total else (if nat_lt max_line len then Some Long else None)

abbrev pub oversize : ℕ → Raw → Option BadKind
oversize before raw = too_large before (length raw.text) raw.size

-- The first line of what was still to be handed out is this one, and what is now to be handed out has the others.
-- It says nothing where the source doesn't tell what it has left.
abbrev pub HandsOut : Option (List ℕ) → Option (List ℕ) → Raw → Type 0
HandsOut None after raw = ⊤
HandsOut (Some before) None raw = ⊥
HandsOut (Some before) (Some after) raw = raws_of before ≡ raw ∷ raws_of after

-- the first line is too large in this way
pub record StopsAt (bytes : List ℕ) (before : ℕ) (kind : BadKind) : Type 0 where
  pub raw : Raw
  pub later : List Raw
  pub first : raws_of bytes ≡ raw ∷ later
  pub large : oversize before raw ≡ Some kind
