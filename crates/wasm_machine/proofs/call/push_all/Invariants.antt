use Rattle.std.proofs.Common.{◌≡◌, ◌++◌, take}
use Rattle.wasm_machine.specs.Piles.{all, below, span}
use Rattle.wasm_machine.proofs.call.push_all.Given as goal

abbrev pub invariant-loop-value : goal.invariant-loop-value
invariant-loop-value l = record {
  span : span l.locals ≡ span l.fn.locals ++ take l.value-index l.values;
  all : all l.locals ≡ all l.fn.locals ++ take l.value-index l.values;
  below : below l.locals ≡ below l.fn.locals;
}
