use Rattle.std.proofs.Common.{◌≡◌, ◌++◌, take}
use Rattle.std.specs.List.{flat_map}
use Rattle.wasm_writer.specs.Spelling.{table_text}
use Rattle.wasm_writer.proofs.sections.put_all_tables.Given as goal

abbrev pub invariant-loop-size : goal.invariant-loop-size
invariant-loop-size l = l.out.items ≡ l.initial.out.items ++ flat_map table_text (take l.size-index l.tables)
