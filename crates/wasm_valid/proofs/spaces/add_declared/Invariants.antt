use Rattle.std.proofs.Common.{◌≡◌, ◌++◌, map, take}
use Rattle.wasm_types.specs.Validity.{declared}
use Rattle.wasm_valid.specs.Contexts.{plain_global}
use Rattle.wasm_valid.proofs.spaces.add_declared.Given as goal

abbrev pub invariant-loop-var : goal.invariant-loop-var
invariant-loop-var l = map plain_global l.globals.items ≡ map plain_global l.fn.globals.items ++ map declared (take l.var-index l.fn.vars)
