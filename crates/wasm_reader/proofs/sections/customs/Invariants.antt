use Rattle.std.proofs.Common.{length}
use Rattle.wasm_types.specs.ModuleText.{customs}
use Rattle.wasm_reader.specs.CursorPlace.{place}
use Rattle.wasm_reader.proofs.CustomLoop.{Left}
use Rattle.wasm_reader.proofs.sections.customs.Given as goal

abbrev pub invariant-loop-cursor : goal.invariant-loop-cursor
invariant-loop-cursor l = Left (place l.cursor) (customs.read (place l.fn.cursor))

abbrev pub decreases-loop-cursor : goal.decreases-loop-cursor
decreases-loop-cursor l = length (place l.cursor).rest
