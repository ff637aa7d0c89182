-- A query whose part is the same begins the same.
use Rattle.std.proofs.Common.{◌≡◌, ℕ, Option, Result, Ok, Err, ◌∙◌}
use Rattle.chain_records.specs.State.{State}
use Rattle.gas_meter.specs.declared.schedule.Schedule.{Schedule}
use Rattle.gatekeeper.specs.Cache.{Tally}
use Rattle.query_router.specs.declared.calls.Begun.{Begun}
use Rattle.query_router.specs.declared.calls.Begun.TheVariants as begun
use Rattle.query_router.specs.declared.stop.QueryStop.{QueryStop}
use Rattle.query_router.specs.declared.stop.QueryStop.TheVariants.{OutOfGas, NoMemory}
use Rattle.query_router.specs.Calling.{Begins}
use Rattle.query_router.specs.Queries.{Queried, Asking}

pub begins_along : (s : State) (costs : Schedule) (left : ℕ) (before after : Option Tally) (part other : Asking → Queried) (result : Result Begun QueryStop) → ((ask : Asking) → part ask ≡ other ask)
    → Begins s costs left before after other result → Begins s costs left before after part result
begins_along s costs left before after part other (Ok (begun.Known answer)) is h = (λ ask. is ask ∙ h.0 ask, h.1)
begins_along s costs left before after part other (Ok (begun.Call opened)) is h = record {
  call = h.call;
  code = h.code;
  stands = h.stands;
  reads = h.reads;
  same_prefix = h.same_prefix;
  fetched = h.fetched;
  told = λ ask. is ask ∙ h.told ask;
}
begins_along s costs left before after part other (Err OutOfGas) is h = (λ ask. is ask ∙ h.0 ask, h.1)
begins_along s costs left before after part other (Err NoMemory) is h = tt
