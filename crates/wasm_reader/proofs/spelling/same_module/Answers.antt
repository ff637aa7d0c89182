use Rattle.std.proofs.Common.{refl}
use Rattle.wasm_types.specs.declared.kind.ReadKind.TheVariants.{Magic}
use Rattle.wasm_types.specs.Part.{word_read}
use Rattle.wasm_types.specs.ModuleText.{header, customs}
use Rattle.wasm_types.specs.Plain.{plain_module}
use Rattle.wasm_reader.specs.CursorPlace.{place}
use Rattle.wasm_reader.proofs.ModuleParts.{parts, agree}
use Rattle.wasm_reader.proofs.spelling.same_module.Goals as goal

pub returns-then-not-branch : goal.returns-then-not-branch
returns-then-not-branch c = λ end e.
    let p = parts (place c.args.cursor.now) (plain_module c.args.wanted.now) end e in
    let q0 = agree (word_read header Magic) (place c.args.cursor.now) (place c.args.cursor.now) _ _ p.p0 (place c.header.new.self) p.is_header refl c.in_ok-header.ensures in
    let q1 = agree customs.read p.p0 (place c.header.new.self) _ _ p.p1 (place c.customs.new.cursor) p.are_customs q0 c.in_ok-customs.ensures in
    let differ = rw (c.if-not-branch.true, c.deref.ensures.value) at c.in_ok-same_section.ensures in
    differ p.p2 (rw q1 at p.types)
