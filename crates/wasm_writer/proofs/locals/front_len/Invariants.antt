use Rattle.std.proofs.Common.{◌≡◌, ◌+◌, drop}
use Rattle.wasm_writer.specs.Spelling.{front_len}
use Rattle.wasm_writer.proofs.locals.front_len.Given as goal

abbrev pub invariant-loop-i : goal.invariant-loop-i
invariant-loop-i l = front_len l.ty l.types ≡ l.i + front_len l.ty (drop l.i l.types)
