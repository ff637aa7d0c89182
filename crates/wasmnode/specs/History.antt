-- Not for readers of contracts: it serves the proofs of this crate alone.
-- A run as it goes: how the chain came to be, and what answers the entries to come.
use Rattle.std.specs.Prelude.{ℕ, List, [], ◌∷◌, ◌++◌, length}
use Rattle.chain_records.specs.State.{State}
use Rattle.chain_msgs.specs.Plain.{Block}
use Rattle.wasmnode.specs.Chain.{Chain, block_on, block_digest, block_answer, query_answer}
use Rattle.wasmnode.specs.Reading.{Opening, Entry, delivers, asks}
use Rattle.wasmnode.specs.Run.{chain_at}

-- the opening, and the blocks that were delivered so far
pub record History : Type 0 where
  pub opening : Opening
  pub blocks : List Block

abbrev pub begun : Opening → History
begun opening = record { opening = opening; blocks = [] }

abbrev pub newest : History → ℕ
newest h = length h.blocks

abbrev pub chain_of : History → ℕ → Chain
chain_of h height = chain_at h.opening h.blocks height

abbrev pub state_of : History → ℕ → State
state_of h height = (chain_of h height).state

-- the chain after a block more
abbrev pub chain_next : Chain → Block → Chain
chain_next chain b = record { state = (block_on chain b).state; digest = block_digest chain b }

abbrev pub with_block : History → Block → History
with_block h b = record { opening = h.opening; blocks = h.blocks ++ b ∷ [] }

-- the text that answers an entry, where so many heights are kept, and the history after it
abbrev pub entry_text : ℕ → History → Entry → List ℕ
entry_text keep h (delivers b) = block_answer (chain_of h (newest h)) b
entry_text keep h (asks q) = query_answer (state_of h) keep q (newest h)

abbrev pub entry_next : History → Entry → History
entry_next h (delivers b) = with_block h b
entry_next h (asks q) = h

-- the texts that answer entries, one after the other
abbrev pub script : ℕ → History → List Entry → List (List ℕ)
script keep h [] = []
script keep h (entry ∷ entries) = entry_text keep h entry ∷ script keep (entry_next h entry) entries
