-- Not for readers of contracts: it serves the proofs of this crate alone.
-- What the parts of an answer to a query say.
use Rattle.std.specs.Prelude.{ℕ, ◌≡◌, ◌≤◌, ◌-◌, List, Result, Ok, Err}
use denote.Ref.{Bor}
use Rattle.chain_records.specs.State.{State}
use Rattle.gas_meter.specs.Costs.{standard_schedule}
use Rattle.state_runs.specs.Runs.{Run}
use Rattle.query_router.specs.Calls.{query}
use Rattle.line_protocol.specs.Parts.{Question}
use Rattle.line_protocol.specs.Plain.{query_result_view}
use Rattle.line_protocol.specs.Texts.{QueryResult}
use Rattle.line_protocol.specs.declared.reply.QueryResult as result_type
use Rattle.wasmnode.specs.Chain.{result_of, reply, answered, reply_at}
use Rattle.wasmnode.specs.History.{History, newest, state_of}
use Rattle.wasmnode.specs.Standing.{Shows}

-- a query on the state with so much gas uses this gas, and is answered this
pub record IsAnswered (s : State) (request : List ℕ) (limit gas : ℕ) (result : QueryResult) : Type 0 where
  pub gas_used : gas ≡ limit - (query standard_schedule s request 0 limit).left
  pub told : result ≡ result_of (query standard_schedule s request 0 limit).answer

-- a query at this height is replied with this gas and this result
abbrev pub IsReplied : ℕ → History → Question → ℕ → ℕ → QueryResult → Type 0
IsReplied keep h q height gas result = reply_at (state_of h) keep q (newest h) height ≡ reply q (newest h) height gas result

-- the snapshot on which a query at this height is answered, or the result where none is kept
abbrev pub Finds : ℕ → History → ℕ → Result (Bor (List Run)) result_type.QueryResult → Type 0
Finds keep h height (Ok snapshot) =
    Shows snapshot.now (state_of h height) × (height ≤ newest h) × ((q : Question) → reply_at (state_of h) keep q (newest h) height ≡ answered q (newest h) height (state_of h height))
Finds keep h height (Err result) = (q : Question) → IsReplied keep h q height 0 (query_result_view result)
