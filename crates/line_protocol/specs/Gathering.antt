-- Where a line feed stands among gathered bytes, and what a source gave meanwhile.
use Rattle.std.specs.Prelude.{◌≡◌, ◌≢◌, ℕ, ◌+◌, ◌<◌, ◌≤◌, ◌⊎◌, List, ◌∷◌, ◌++◌, length, slice_index, Option, Bool, true, false, Some, IfSome, ⊤}
use Rattle.std.specs.Io.KnownBytes.{Consumes}
use Rattle.line_protocol.specs.declared.lines.Gathered.{Gathered}
use Rattle.line_protocol.specs.declared.lines.Gathered.TheVariants.{Fed, Rest, Over}
use Rattle.line_protocol.specs.declared.lines.LineStop.{LineStop}
use Rattle.line_protocol.specs.declared.lines.LineStop.TheVariants.{Bad, ReadFault, NoMemory}
use Rattle.line_protocol.specs.Lines.{Raw, raws_of, line_feed, max_line, max_input, too_large, StopsAt}
use Rattle.line_protocol.specs.declared.kind.BadKind.TheVariants.{Total, Long}

-- no line feed stands from place i up to place j
abbrev pub IsUnfed : List ℕ → ℕ → ℕ → Type 0
IsUnfed bytes i j = (k : ℕ) → i ≤ k → k < j → slice_index bytes k ≢ line_feed

-- bytes were taken from the source, and stand now after the old ones
pub record Draws (before after : Option (List ℕ)) (old new : List ℕ) : Type 0 where
  pub taken : List ℕ
  pub from : Consumes before after taken
  pub onto : new ≡ old ++ taken

-- bytes were taken from the source, and neither they nor the old ones have a line feed
pub record TakesUnfed (before after : Option (List ℕ)) (old : List ℕ) : Type 0 where
  pub taken : List ℕ
  pub from : Consumes before after taken
  pub unfed : IsUnfed (old ++ taken) 0 (length (old ++ taken))

-- what was found in the gathered bytes
abbrev pub IsFound : List ℕ → Bool → Gathered → Type 0
IsFound bytes ended (Fed at) = (at < length bytes) × (slice_index bytes at ≡ line_feed) × IsUnfed bytes 0 at
IsFound bytes ended Rest = (ended ≡ true) × IsUnfed bytes 0 (length bytes)
IsFound bytes ended Over = (ended ≡ false) × (max_line < length bytes) × IsUnfed bytes 0 (length bytes)

-- The first line of the bytes has at least so many bytes, and takes n bytes of the input, or at least n where the
-- input is then too large.
pub record Measures (bytes : List ℕ) (before least n : ℕ) : Type 0 where
  pub raw : Raw
  pub later : List Raw
  pub first : raws_of bytes ≡ raw ∷ later
  pub long : least ≤ length raw.text
  pub size : (raw.size ≡ n) ⊎ ((max_input < before + n) × (n ≤ raw.size))

-- Bytes were taken from the source in which the line ends, or is too large anyway, whose first len bytes were taken before.
pub record IsPassed (before after : Option (List ℕ)) (size len n : ℕ) : Type 0 where
  pub taken : List ℕ
  pub from : Consumes before after taken
  pub measured : (front : List ℕ) → length front ≡ len → IsUnfed front 0 len → Measures (front ++ taken) size len n

-- a stop of reading, and not of a line's size
abbrev pub IsReadStop : LineStop → Type 0
IsReadStop stop = (stop ≡ ReadFault) ⊎ (stop ≡ NoMemory)

-- the stop of a line that is too large, or want of memory for one that isn't
abbrev pub IsSizeStop : ℕ → ℕ → ℕ → ℕ → LineStop → Type 0
IsSizeStop before len size number (Bad n kind) = (n ≡ number) × (too_large before len size ≡ Some kind)
IsSizeStop before len size number ReadFault = ⊥
IsSizeStop before len size number NoMemory = ⊤

-- bytes with no line feed were taken from the source, and counted on top of len
pub record IsSkipped (before after : Option (List ℕ)) (len size : ℕ) : Type 0 where
  pub taken : List ℕ
  pub from : Consumes before after taken
  pub counted : size ≡ len + length taken
  pub unfed : IsUnfed taken 0 (length taken)

-- A line is refused with its number and the kind of its fault, where the source tells it; always in one of the two ways
-- of being too large. It says nothing of other stops.
abbrev pub IsBad : Option (List ℕ) → ℕ → ℕ → LineStop → Type 0
IsBad waiting before number (Bad n kind) = (n ≡ number) × ((kind ≡ Total) ⊎ (kind ≡ Long)) × IfSome waiting (λ bytes. StopsAt bytes before kind)
IsBad waiting before number ReadFault = ⊤
IsBad waiting before number NoMemory = ⊤

-- A line is refused for what was taken already: the old bytes and those taken from the source begin with a line that is too
-- large in this way, whatever else the source has. It says nothing of other stops.
abbrev pub IsShown : Option (List ℕ) → Option (List ℕ) → List ℕ → ℕ → LineStop → Type 0
IsShown before after old size (Bad n kind) = (taken : List ℕ) × Consumes before after taken × StopsAt (old ++ taken) size kind
IsShown before after old size ReadFault = ⊤
IsShown before after old size NoMemory = ⊤
