use Rattle.std.proofs.Common.{ℕ, Option, Some, None, Result, Ok, Err, ◌<◌, ◌≤◌, arith}
use Rattle.std.specs.Prelude.{IfOk}
use Rattle.wasm_machine.specs.declared.machine.Machine.{Machine}
use Rattle.wasm_machine.specs.declared.turn.Turn.{Turn}
use Rattle.wasm_machine.specs.Acts.{IsAsk, standing_of}
use Rattle.wasm_machine.specs.Machine.{HasUnbegunCall}
use Rattle.host_imports.specs.Imports.{setting}
use Rattle.gas_store.specs.Views.{is_read_only}
use Rattle.contract_call.specs.declared.stop.Stop.{Stop}
use Rattle.contract_call.specs.declared.stop.Pause.{Pause}
use Rattle.contract_call.specs.declared.stop.Pause.TheVariants.{Finished, Query}
use Rattle.contract_call.specs.Parts.{IfNotOver}
use Rattle.contract_call.proofs.Machines.{turn_does}
use Rattle.contract_call.proofs.turning.turn.Goals as goal

pub returns-in-Ok-clause-does : goal.returns-in-Ok-clause-does
returns-in-Ok-clause-does g c =
    turn_does (setting c.args.costs.now (is_read_only c.args.store.now) c.args.prefix.now) (standing_of c.in-Ok.turn) c.in-Ok.ensures.stands c.in-Ok.ensures.turn c.in-Ok.ensures.left c.in-Ok.ensures.module c.settle.ensures.does

falls : (k : Machine) (turn : Turn) (old mid new : ℕ) → (IsAsk turn → (HasUnbegunCall k → ⊥) → mid < old) → new ≤ mid → (result : Result (Option Pause) Stop) → IfOk result (λ pause. IfNotOver pause (IsAsk turn)) → IfOk result (λ pause. IfNotOver pause ((HasUnbegunCall k → ⊥) → new < old))
falls k turn old mid new h le (Err stop) e = tt
falls k turn old mid new h le (Ok None) e = λ begun. let lt : mid < old = h e begun in omega arith
falls k turn old mid new h le (Ok (Some (Finished bytes))) e = tt
falls k turn old mid new h le (Ok (Some (Query request))) e = λ begun. let lt : mid < old = h e begun in omega arith

pub returns-in-Ok-clause-falls : goal.returns-in-Ok-clause-falls
returns-in-Ok-clause-falls g c =
    falls c.args.machine.now c.in-Ok.turn c.args.meter.now.left c.run.new.meter.left c.settle.new.meter.left c.in-Ok.ensures.asks c.settle.ensures.spends c.settle.result c.settle.ensures.asks
