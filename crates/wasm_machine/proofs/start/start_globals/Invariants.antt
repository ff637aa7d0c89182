use Rattle.std.proofs.Common.{◌≡◌, take}
use Rattle.std.specs.Prelude.{map}
use Rattle.wasm_machine.specs.Start.{init_value}
use Rattle.wasm_machine.proofs.start.start_globals.Given as goal

abbrev pub invariant-loop-global : goal.invariant-loop-global
invariant-loop-global l = l.globals.items ≡ map (λ g. init_value g.init) (take l.global-index l.m.globals.items)
