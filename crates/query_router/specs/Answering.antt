-- What the call of a query gives, by what the query comes to.
use Rattle.std.specs.Prelude.{ℕ, ◌≡◌, Option, None, Some, Result, Ok, Err, ⊤}
use Rattle.gatekeeper.specs.Cache.{Tally}
use Rattle.gatekeeper.specs.Fetches.{Tallies}
use Rattle.chain_msgs.specs.declared.answer.Answer as answer_type
use Rattle.chain_msgs.specs.Plain.{answer_view}
use Rattle.query_router.specs.declared.stop.QueryStop.{QueryStop}
use Rattle.query_router.specs.declared.stop.QueryStop.TheVariants.{OutOfGas, NoMemory}
use Rattle.query_router.specs.Queries.{Queried}

-- the answer or that gas ran out, so much gas is left, and the codes were fetched in order; want of memory says nothing
abbrev pub Gives : Result answer_type.Answer QueryStop → ℕ → Option Tally → Option Tally → Queried → Type 0
Gives (Ok answer) left before after q = (q.answer ≡ Some (answer_view answer)) × (q.left ≡ left) × Tallies before q.fetched after
Gives (Err OutOfGas) left before after q = (q.answer ≡ None) × (q.left ≡ left) × Tallies before q.fetched after
Gives (Err NoMemory) left before after q = ⊤
