use Rattle.std.proofs.Common.{◌≡◌, ◌≤◌, length}
use Rattle.wasm_types.specs.Validity.{memory_in}
use Rattle.wasm_valid.proofs.Importing.{so_far}
use Rattle.wasm_valid.proofs.spaces.count_memories.Given as goal

abbrev pub invariant-loop-import : goal.invariant-loop-import
invariant-loop-import l = record {
  bounded : l.count ≤ l.import-index;
  count : l.count ≡ length (so_far memory_in l.fn.imports l.import-index);
}
