use Rattle.std.proofs.Common.{arith, ◌<◌}
use Rattle.std.proofs.lemmas.List.Elements.{All-from_get_or}
use Rattle.wasm_types.specs.ModuleText.{AreBytes}
use Rattle.wasm_reader.specs.CursorPlace.{place}
use Rattle.wasm_reader.proofs.WholeInput.{found, spelled}
use Rattle.wasm_reader.proofs.reading.read.Goals as goal

pub returns-clause-found : goal.returns-clause-found
returns-clause-found c =
    let fits : AreBytes c.args.code.now = All-from_get_or (λ b. b < 256) c.args.code.now 0 (λ i h. omega (arith, c.type_inv.code i)) in
    found c.args.code.now fits (place c.whole.new.cursor) _ (rw c.new-cursor.ensures at c.whole.ensures)

pub returns-clause-spelled : goal.returns-clause-spelled
returns-clause-spelled c =
    let fits : AreBytes c.args.code.now = All-from_get_or (λ b. b < 256) c.args.code.now 0 (λ i h. omega (arith, c.type_inv.code i)) in
    spelled c.args.code.now fits (place c.whole.new.cursor) _ (rw c.new-cursor.ensures at c.whole.ensures)
