use Rattle.std.proofs.Common.{◌≡◌, ◌++◌, take}
use Rattle.std.specs.Prelude.{map}
use Rattle.wasm_machine.specs.Start.{zero_of}
use Rattle.wasm_machine.specs.Piles.{all, below, span}
use Rattle.wasm_machine.proofs.call.push_zeros.Given as goal

abbrev pub invariant-loop-ty : goal.invariant-loop-ty
invariant-loop-ty l = record {
  span : span l.locals ≡ span l.fn.locals ++ map zero_of (take l.ty-index l.types);
  all : all l.locals ≡ all l.fn.locals ++ map zero_of (take l.ty-index l.types);
  below : below l.locals ≡ below l.fn.locals;
}
