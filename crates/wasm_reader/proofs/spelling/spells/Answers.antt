use Rattle.std.proofs.Common.{arith, ◌<◌}
use Rattle.std.proofs.lemmas.List.Elements.{All-from_get_or}
use Rattle.wasm_types.specs.ModuleText.{AreBytes}
use Rattle.wasm_reader.specs.CursorPlace.{place}
use Rattle.wasm_reader.proofs.WholeInput.{same_module, no_module}
use Rattle.wasm_reader.proofs.spelling.spells.Goals as goal

pub returns-in-Ok : goal.returns-in-Ok
returns-in-Ok c =
    let fits : AreBytes c.args.code.now = All-from_get_or (λ b. b < 256) c.args.code.now 0 (λ i h. omega (arith, c.type_inv.code i)) in
    same_module c.args.code.now fits (place c.same_module.new.cursor) _ c.in-Ok.same (rw c.new-cursor.ensures at c.in-Ok.ensures)

pub returns-in-Err-Fault : goal.returns-in-Err-Fault
returns-in-Err-Fault c =
    let fits : AreBytes c.args.code.now = All-from_get_or (λ b. b < 256) c.args.code.now 0 (λ i h. omega (arith, c.type_inv.code i)) in
    no_module c.args.code.now fits (place c.same_module.new.cursor) _ _ (rw (c.in-Err-Fault.field-0-is, c.new-cursor.ensures) at c.in-Err-Fault.ensures)
