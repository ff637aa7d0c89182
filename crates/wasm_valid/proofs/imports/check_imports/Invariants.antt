use Rattle.std.proofs.Common.{◌≡◌, ◌-◌, ◌≤◌, length, map}
use Rattle.wasm_types.specs.Plain.{plain_import, plain_module}
use Rattle.wasm_types.specs.Validity.{table_in, memory_in, desc_kept, first_in}
use Rattle.wasm_valid.proofs.Importing.{so_far}
use Rattle.wasm_valid.proofs.Passing.{from}
use Rattle.wasm_valid.proofs.imports.check_imports.Given as goal

abbrev pub invariant-loop-at : goal.invariant-loop-at
invariant-loop-at l = record {
  within : l.at ≤ length l.fn.m.imports.items;
  few_tables : l.tables ≤ l.at;
  few_memories : l.memories ≤ l.at;
  tables : l.tables ≡ length (so_far table_in l.fn.m.imports.items l.at);
  memories : l.memories ≡ length (so_far memory_in l.fn.m.imports.items l.at);
  fault : first_in (λ earlier i. desc_kept (plain_module l.fn.m) earlier i.desc) (map plain_import l.fn.m.imports.items) ≡ from (λ earlier i. desc_kept (plain_module l.fn.m) earlier i.desc) (map plain_import l.fn.m.imports.items) l.at;
}

abbrev pub decreases-loop-at : goal.decreases-loop-at
decreases-loop-at l = length l.fn.m.imports.items - l.at
