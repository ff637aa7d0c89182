use Rattle.std.proofs.Common.{◌≡◌, ◌++◌, length}
use Rattle.wasm_writer.specs.Spelling.{runs}
use Rattle.wasm_writer.proofs.locals.runs_of.Given as goal

abbrev pub invariant-loop-rest : goal.invariant-loop-rest
invariant-loop-rest l = l.all.items ++ runs l.rest ≡ runs l.fn.types

abbrev pub decreases-loop-rest : goal.decreases-loop-rest
decreases-loop-rest l = length l.rest
