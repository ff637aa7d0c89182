-- Not for readers of contracts: it serves the proofs of this crate alone.
-- A run as it goes: what the lines handed out so far said, and what answered them.
use Rattle.std.specs.Prelude.{◌≡◌, ◌≤◌, ℕ, ◌+◌, true, false, List, [], ◌∷◌, ◌++◌, fold, Option, None, Some, ⊤}
use Rattle.std.specs.List.{concat}
use Rattle.std.specs.Io.KnownBytes.{Appends, Keeps}
use Rattle.outside_io.specs.Pieces.{AppendsFront}
use Rattle.line_protocol.specs.declared.lines.Lines.{Lines}
use Rattle.line_protocol.specs.Lines.{Raw, raws_of, max_input, line_feed}
use Rattle.line_protocol.specs.Progress.{kept, is_ended, number, size}
use Rattle.wasmnode.specs.declared.chain.Chain as chain_type
use Rattle.wasmnode.specs.declared.stop.Stop.{Stop}
use Rattle.wasmnode.specs.declared.stop.Stop.TheVariants.{Bad, NoMemory, ReadFault, WriteFault}
use Rattle.wasmnode.specs.Chain.{genesis_answer}
use Rattle.wasmnode.specs.History.{History, begun, entry_text, entry_next, script}
use Rattle.wasmnode.specs.Reading.{Said, nothing, says, refused, Opening, Entry, Rest, rest_of, Reading, opens, reading}
use Rattle.wasmnode.specs.Standing.{StandsFor}

-- as many lines were handed out as bytes at most, and of those no more than an input may have
abbrev pub IsCounted : Lines → Type 0
IsCounted lines = (number lines ≤ size lines) × (size lines ≤ max_input)

-- ---- lines that were handed out

-- once the end was read and nothing is kept, no byte can follow
abbrev pub MayFollow : Lines → List ℕ → Type 0
MayFollow lines more = is_ended lines ≡ true → kept lines ≡ [] → more ≡ []

-- there is no byte, or the last one is a line feed
pub data IsFed (bytes : List ℕ) : Type 0 where
  none : bytes ≡ [] → IsFed bytes
  fed : (front : List ℕ) → bytes ≡ front ++ line_feed ∷ [] → IsFed bytes

-- Some bytes of an input were handed out. With whatever may follow them they say what follows says by itself, as lines of
-- higher numbers, made into something whole.
pub record Passed {A : Type 0} (later : ℕ → ℕ → List Raw → A) (whole : A → Reading) (input left : List ℕ) (lines : Lines) : Type 0 where
  pub gone : List ℕ
  pub splits : input ≡ gone ++ (kept lines ++ left)
  pub ends : is_ended lines ≡ false → IsFed gone
  pub follows : (more : List ℕ) → MayFollow lines more → reading (gone ++ more) ≡ whole (later (number lines + 1) (size lines) (raws_of more))

-- the same, where the source tells what it has left
abbrev pub Passes : {A : Type 0} → (ℕ → ℕ → List Raw → A) → (A → Reading) → Option (List ℕ) → Option (List ℕ) → Lines → Type 0
Passes later whole None left lines = ⊤
Passes later whole (Some input) None lines = ⊥
Passes later whole (Some input) (Some left) lines = Passed later whole input left lines

-- ---- entries that were answered

-- these entries stand before the rest
abbrev pub behind : List Entry → Rest → Rest
behind entries rest = record { entries = entries ++ rest.entries; bad = rest.bad }

abbrev pub after : History → List Entry → History
after h entries = fold entry_next h entries

-- The genesis and these entries were handed out and answered: the chain is the one after them, and their texts were added.
pub record Goes (keep : ℕ) (chain : chain_type.Chain) (lines : Lines) (before left old new : Option (List ℕ)) (opening : Opening) (entries : List Entry) : Type 0 where
  pub stands : StandsFor keep chain (after (begun opening) entries)
  pub passes : Passes rest_of (λ rest. opens opening (behind entries rest)) before left lines
  pub wrote : Appends old new (concat (genesis_answer opening.genesis ∷ script keep (begun opening) entries))

-- a line after the genesis was answered, if it asks anything, and this is the chain after it
abbrev pub Follows : ℕ → History → Said Entry → chain_type.Chain → Option (List ℕ) → Option (List ℕ) → Type 0
Follows keep h nothing chain old new = StandsFor keep chain h × Keeps old new
Follows keep h (says entry) chain old new = StandsFor keep chain (entry_next h entry) × Appends old new (entry_text keep h entry)
Follows keep h (refused kind) chain old new = ⊥

-- why a line of this number wasn't answered, and what was added: nothing, or a front of its text where a write failed
abbrev pub Breaks : ℕ → History → ℕ → Said Entry → Option (List ℕ) → Option (List ℕ) → Stop → Type 0
Breaks keep h line said old new (Bad number kind) = (number ≡ line) × (said ≡ refused kind) × Keeps old new
Breaks keep h line said old new NoMemory = Keeps old new
Breaks keep h line said old new ReadFault = ⊥
Breaks keep h line said old new WriteFault = (entry : Entry) × (said ≡ says entry) × AppendsFront old new (entry_text keep h entry)
