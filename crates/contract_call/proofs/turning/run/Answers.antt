use Rattle.std.proofs.Common.{Bool, sym, ap, subst}
use Rattle.std.specs.Prelude.{IsTrue}
use Rattle.gas_store.specs.Views.{is_read_only}
use Rattle.host_imports.specs.Imports.{setting}
use Rattle.contract_call.proofs.Turns.{runs_over, runs_stop, runs_on}
use Rattle.contract_call.proofs.turning.run.Goals as goal

pub returns-in-Ok-Some-clause-does : goal.returns-in-Ok-Some-clause-does
returns-in-Ok-Some-clause-does g c =
    runs_over (setting c.args.costs.now (is_read_only c.args.store.now) c.args.prefix.now) c.in-Ok-Some.pause (rw c.in-Ok-Some.field-0-is at c.in-Ok-Some.ensures.does)

pub returns-in-Ok-None-clause-does : goal.returns-in-Ok-None-clause-does
returns-in-Ok-None-clause-does g c =
    runs_on (setting c.args.costs.now (is_read_only c.args.store.now) c.args.prefix.now) (setting c.args.costs.now (is_read_only c.turn.new.store) c.args.prefix.now) (ap (λ (b : Bool). setting c.args.costs.now b c.args.prefix.now) (sym c.turn.ensures.scope.read_only)) c.turn.ensures.spends (rw c.in-Ok-None.field-0-is at c.in-Ok-None.ensures.does) c.go_on.ensures.does

pub returns-in-Err-clause-does : goal.returns-in-Err-clause-does
returns-in-Err-clause-does g c =
    runs_stop (setting c.args.costs.now (is_read_only c.args.store.now) c.args.prefix.now) c.in-Err.stop c.in-Err.ensures.does

pub returns-in-Ok-None-clause-unchanged : goal.returns-in-Ok-None-clause-unchanged
returns-in-Ok-None-clause-unchanged g c = λ reads maps stands.
    c.go_on.ensures.unchanged (subst IsTrue (sym c.turn.ensures.scope.read_only) reads) maps (c.turn.ensures.unchanged reads maps stands)
