use Rattle.wasm_types.proofs.Shaped.{spelled_are_shaped}
use Rattle.wasm_types.proofs.laws.spelled_are_shaped.Goals as goal

pub returns : goal.returns
returns c = spelled_are_shaped
