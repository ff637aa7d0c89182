use Rattle.std.proofs.Common.{◌≡◌, ◌++◌, take}
use Rattle.wasm_writer.specs.Spelling.{body_text}
use Rattle.wasm_writer.proofs.code.put_body.Given as goal

abbrev pub invariant-loop-instr : goal.invariant-loop-instr
invariant-loop-instr l = l.out.items ≡ l.initial.out.items ++ body_text l.targets (take l.instr-index l.body)
