use Rattle.std.proofs.Common.{◌≡◌, drop}
use Rattle.wasm_machine.specs.Start.{with_funcs}
use Rattle.wasm_machine.proofs.start.put_funcs.Given as goal

abbrev pub invariant-loop-func : goal.invariant-loop-func
invariant-loop-func l = with_funcs l.table l.at (drop l.func-index l.funcs) ≡ with_funcs l.fn.table l.offset l.funcs
