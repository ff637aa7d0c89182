use Rattle.std.proofs.Common.{◌≡◌, drop}
use Rattle.std.specs.Prelude.{map}
use Rattle.wasm_types.specs.Plain.{plain_elem}
use Rattle.wasm_machine.specs.Start.{with_elements}
use Rattle.wasm_machine.proofs.start.table.Given as goal

abbrev pub invariant-loop-elem : goal.invariant-loop-elem
invariant-loop-elem l = with_elements l.table.items (map plain_elem (drop l.elem-index l.m.elems.items)) ≡ with_elements l.initial.table.items (map plain_elem l.m.elems.items)
