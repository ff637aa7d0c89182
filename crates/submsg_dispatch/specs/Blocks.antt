-- What a block does, and the state of the chain at a height.
use Rattle.std.specs.Prelude.{ℕ, ◌+◌, List, [], ◌∷◌, ◌++◌, take, fold}
use Rattle.gas_meter.specs.declared.schedule.Schedule.{Schedule}
use Rattle.chain_records.specs.Records.{PlainFacts}
use Rattle.chain_records.specs.State.{State}
use Rattle.chain_msgs.specs.Plain.{Tx, Block, TxResult}
use Rattle.submsg_dispatch.specs.Transactions.{TxRan, tx}

-- the state and the results after some transactions, and the codes that their calls asked for, in order
pub record BlockRan : Type 0 where
  pub state : State
  pub results : List TxResult
  pub fetched : List (List ℕ)

-- the facts of the block: one height more, and its time
abbrev pub next_facts : PlainFacts → ℕ → PlainFacts
next_facts f time = record f { height = f.height + 1; time = time }

abbrev pub begun : State → ℕ → State
begun s time = record s { facts = next_facts s.facts time }

-- transactions in order, the first of which has this index
abbrev pub all_run : Schedule → State → ℕ → List Tx → BlockRan
all_run costs s index [] = record { state = s; results = []; fetched = [] }
all_run costs s index (t ∷ ts) =
    let first : TxRan = tx costs s t index in
    let rest : BlockRan = all_run costs first.state (index + 1) ts in
    record { state = rest.state; results = first.result ∷ rest.results; fetched = first.fetched ++ rest.fetched }

unfoldable pub block : Schedule → State → Block → BlockRan
block costs s b = all_run costs (begun s b.time) 0 b.txs

-- the state after the first k blocks of a list
abbrev pub state_at : Schedule → State → List Block → ℕ → State
state_at costs start blocks k = fold (λ s b. (block costs s b).state) start (take k blocks)
