use Rattle.std.proofs.Common.{arith}
use Rattle.wasm_reader.proofs.Shrinks.{within_locals}
use Rattle.wasm_reader.proofs.code.CodeElement.read_at.Goals as goal

pub body-requires : goal.body-requires
body-requires c = omega (arith, within_locals _ _ _ c.in_ok-locals.ensures, c.in_ok-inside.ensures.small)
