use Rattle.std.proofs.Common.{◌≡◌, ◌+◌, ◌-◌, ◌≤◌, length, reverse}
use Rattle.wasm_types.specs.Body.{body_read, body}
use Rattle.wasm_reader.specs.CursorPlace.{place}
use Rattle.wasm_reader.specs.Blocks.{blocks_of}
use Rattle.wasm_reader.proofs.Bodies.{with_body}
use Rattle.wasm_reader.proofs.body.body.Given as goal

abbrev pub invariant-loop-inner : goal.invariant-loop-inner
invariant-loop-inner l = record {
  read : with_body l.instrs.items l.targets.items
      (body_read (length (place l.fn.cursor).rest - length l.instrs.items) (blocks_of l.inner (reverse l.outer.items)) (length l.targets.items) (place l.cursor))
      ≡ body.read (place l.fn.cursor);
  room : length l.instrs.items + length (place l.cursor).rest ≤ length (place l.fn.cursor).rest;
  labels : length l.targets.items + length (place l.cursor).rest ≤ length (place l.fn.cursor).rest;
}

abbrev pub decreases-loop-inner : goal.decreases-loop-inner
decreases-loop-inner l = length (place l.cursor).rest
