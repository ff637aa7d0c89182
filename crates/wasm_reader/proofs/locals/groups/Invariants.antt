use Rattle.std.proofs.Common.{◌≡◌, ◌-◌, ◌≤◌, length}
use Rattle.wasm_types.specs.Body.{groups_read, max_locals}
use Rattle.wasm_reader.specs.CursorPlace.{place}
use Rattle.wasm_reader.proofs.Groups.{still}
use Rattle.wasm_reader.proofs.locals.groups.Given as goal

abbrev pub invariant-loop : goal.invariant-loop
invariant-loop l = record {
  read : still l.types.items (l.count - l.counter) (place l.cursor) ≡ groups_read l.fn.count 0 (place l.fn.cursor);
  most : length l.types.items ≤ max_locals;
}
