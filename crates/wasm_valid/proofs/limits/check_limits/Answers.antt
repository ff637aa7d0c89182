use Rattle.std.proofs.Common.{◌++◌, take, get_or, refl, arith, None}
use Rattle.std.proofs.lemmas.List.{length-append, length-take}
use Rattle.wasm_types.specs.declared.limits.Limits.{Limits}
use Rattle.wasm_types.specs.Validity.{only_one}
use Rattle.wasm_valid.proofs.Passing.{passes_itself, fails_itself, none_left_itself}
use Rattle.wasm_valid.proofs.limits.check_limits.Goals as goal

abbrev no_size : Limits
no_size = record { min = 0; max = None }

pub returns-in-Err : goal.returns-in-Err
returns-in-Err c = λ others long.
    fails_itself (λ earlier size. only_one c.args.kind c.args.most (others ++ earlier) size) c.args.list.now c.loop-at.at (get_or c.args.list.now c.loop-at.at no_size) no_size c.loop-at-test.true refl _ c.in-Err.kind (c.loop-at.invariant.fault others long)
    (c.in-Err.ensures (others ++ take c.loop-at.at c.args.list.now) (omega (arith, long, length-append others (take c.loop-at.at c.args.list.now), length-take c.loop-at.at c.args.list.now, c.loop-at-test.true)))

pub loop-at-preserved : goal.loop-at-preserved
loop-at-preserved c = record {
  within = omega (arith, c.loop-at-test.true);
  fault = λ others long.
      passes_itself (λ earlier size. only_one c.args.kind c.args.most (others ++ earlier) size) c.args.list.now c.loop-at.at (get_or c.args.list.now c.loop-at.at no_size) no_size c.loop-at-test.true refl _ (c.loop-at.invariant.fault others long)
      (c.in-Ok.ensures (others ++ take c.loop-at.at c.args.list.now) (omega (arith, long, length-append others (take c.loop-at.at c.args.list.now), length-take c.loop-at.at c.args.list.now, c.loop-at-test.true)));
}

pub returns : goal.returns
returns c = λ others long. none_left_itself (λ earlier size. only_one c.args.kind c.args.most (others ++ earlier) size) c.args.list.now _ c.loop-at.at (c.loop-at.invariant.fault others long) (omega (arith, c.loop-at-test.false))
