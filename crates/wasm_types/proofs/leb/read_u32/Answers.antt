use Rattle.std.proofs.Common.{false}
use Rattle.wasm_types.proofs.NumberLaws.{stands, none_stands}
use Rattle.wasm_types.proofs.leb.read_u32.Goals as goal

pub returns-in-Some-clause-found : goal.returns-in-Some-clause-found
returns-in-Some-clause-found c = stands false 32 c.args.bytes.now c.args.at c.in-Some.after c.in-Some.n c.in-Some.ensures.value.0 c.in-Some.ensures.value.1

pub returns-in-None-clause-none : goal.returns-in-None-clause-none
returns-in-None-clause-none c = none_stands false 32 c.args.bytes.now c.args.at c.in-None.ensures.value
