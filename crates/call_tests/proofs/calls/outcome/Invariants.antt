-- The call can go on.
use Rattle.contract_call.specs.Running.{CanGoOn}
use Rattle.call_tests.proofs.calls.outcome.Given as goal

abbrev pub invariant-loop : goal.invariant-loop
invariant-loop l = CanGoOn l.running
