-- Not for readers of contracts: it serves the proofs of this crate alone.
-- What a part of a query gives that asks for no code.
use Rattle.std.specs.Prelude.{ℕ, ◌≡◌, [], None, Result, Ok, Err, ⊤}
use Rattle.chain_msgs.specs.declared.answer.Answer as answer_type
use Rattle.chain_msgs.specs.Plain.{answer_view}
use Rattle.query_router.specs.declared.stop.QueryStop.{QueryStop}
use Rattle.query_router.specs.declared.stop.QueryStop.TheVariants.{OutOfGas, NoMemory}
use Rattle.query_router.specs.Queries.{Queried, answers}

-- all gas is used, and there is no answer
abbrev pub out_of_gas : ℕ → Queried
out_of_gas left = record { answer = None; left = left; fetched = [] }

-- the answer or that gas ran out, and so much gas is left; want of memory says nothing
abbrev pub Tells : Result answer_type.Answer QueryStop → ℕ → Queried → Type 0
Tells (Ok answer) left q = q ≡ answers (answer_view answer) left
Tells (Err OutOfGas) left q = q ≡ out_of_gas left
Tells (Err NoMemory) left q = ⊤

-- the part gives this answer and uses no gas
abbrev pub IsFree : answer_type.Answer → (ℕ → Queried) → Type 0
IsFree answer part = (left : ℕ) → part left ≡ answers (answer_view answer) left
