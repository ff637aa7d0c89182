use Rattle.std.proofs.Common.{◌≡◌, drop}
use Rattle.std.specs.Prelude.{map}
use Rattle.wasm_types.specs.Plain.{plain_seg}
use Rattle.wasm_machine.specs.Start.{with_segments}
use Rattle.wasm_machine.proofs.start.start_memory.Given as goal

abbrev pub invariant-loop-seg : goal.invariant-loop-seg
invariant-loop-seg l = with_segments l.memory (map plain_seg (drop l.seg-index l.m.segs.items)) ≡ with_segments l.initial.memory (map plain_seg l.m.segs.items)
