use Rattle.std.proofs.Common.{◌≡◌, true}
use Rattle.std.specs.Int.{w32, cast_unsigned, cast_signed}
use Rattle.std.proofs.lemmas.Int.{of_z-to_z}
use Rattle.wasm_types.proofs.NumberLaws.{stands, none_stands}
use Rattle.wasm_types.proofs.leb.read_s32.Goals as goal

pub returns-in-Some-clause-found : goal.returns-in-Some-clause-found
returns-in-Some-clause-found c =
    let e : cast_unsigned w32 (cast_signed w32 c.in-Some.n) ≡ c.in-Some.n = of_z-to_z w32 c.in-Some.n c.in-Some.ensures.bound in
    simp (c.cast_signed.ensures, e) (stands true 32 c.args.bytes.now c.args.at c.in-Some.after c.in-Some.n c.in-Some.ensures.value.0 c.in-Some.ensures.value.1)

pub returns-in-None-clause-none : goal.returns-in-None-clause-none
returns-in-None-clause-none c = none_stands true 32 c.args.bytes.now c.args.at c.in-None.ensures.value
