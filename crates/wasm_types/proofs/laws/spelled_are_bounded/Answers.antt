use Rattle.wasm_types.proofs.Bounded.{spelled_are_bounded}
use Rattle.wasm_types.proofs.laws.spelled_are_bounded.Goals as goal

pub returns : goal.returns
returns c = spelled_are_bounded
