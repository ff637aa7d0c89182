use Rattle.std.proofs.Common.{true, false, drop}
use Rattle.wasm_types.proofs.NumberLaws.{cut_is}
use Rattle.wasm_types.proofs.leb.is_cut.Goals as goal

pub returns-clause-unsigned : goal.returns-clause-unsigned
returns-clause-unsigned c = cut_is false c.args.bits (drop c.args.at c.args.bytes.now) _ c.goes_on.ensures

pub returns-clause-signed : goal.returns-clause-signed
returns-clause-signed c = cut_is true c.args.bits (drop c.args.at c.args.bytes.now) _ c.goes_on.ensures
