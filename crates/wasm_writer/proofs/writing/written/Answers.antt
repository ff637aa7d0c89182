use Rattle.std.proofs.Common.{◌≡◌, [], ◌++◌, ◌∙◌, append_assoc, sym}
use Rattle.std.proofs.lemmas.List.{append-nil}
use Rattle.wasm_types.specs.ModuleText.{header}
use Rattle.wasm_types.specs.Plain.{plain_func_type, plain_import, plain_export, plain_elem, plain_code, plain_seg}
use Rattle.wasm_writer.specs.ShortNumber.{unsigned}
use Rattle.wasm_writer.specs.Spelling.{func_type_text, import_text, table_text, limits_text, global_text, export_text, elem_text, code_text, seg_text, spelling_of}
use Rattle.wasm_writer.proofs.Joining.{more, more_seen}
use Rattle.wasm_writer.proofs.writing.written.Goals as goal

pub returns : goal.returns
unfolding spelling_of
returns c =
    let m = c.args.wanted.now in
    let o0 : c.in_ok-out.out.items ≡ header ++ [] = c.in_ok-out.ensures.items ∙ sym (append-nil header) in
    let o1 = more_seen c.in_ok-out.out.items c.put_section.new.out.items header _ 1 func_type_text plain_func_type c.deref.result.now m.types.items o0 c.in_ok-put_section.ensures c.deref.ensures.value in
    let o2 = more_seen c.put_section.new.out.items c.put_section-2.new.out.items header _ 2 import_text plain_import c.deref-2.result.now m.imports.items o1 c.in_ok-put_section-2.ensures c.deref-2.ensures.value in
    let o3 = more c.put_section-2.new.out.items c.put_section-3.new.out.items header _ 3 unsigned c.deref-3.result.now m.funcs.items o2 c.in_ok-put_section-3.ensures c.deref-3.ensures.value in
    let o4 = more c.put_section-3.new.out.items c.put_tables.new.out.items header _ 4 table_text c.deref-4.result.now m.tables.items o3 c.in_ok-put_tables.ensures c.deref-4.ensures.value in
    let o5 = more c.put_tables.new.out.items c.put_section-4.new.out.items header _ 5 limits_text c.deref-5.result.now m.memories.items o4 c.in_ok-put_section-4.ensures c.deref-5.ensures.value in
    let o6 = more c.put_section-4.new.out.items c.put_section-5.new.out.items header _ 6 global_text c.deref-6.result.now m.globals.items o5 c.in_ok-put_section-5.ensures c.deref-6.ensures.value in
    let o7 = more_seen c.put_section-5.new.out.items c.put_section-6.new.out.items header _ 7 export_text plain_export c.deref-7.result.now m.exports.items o6 c.in_ok-put_section-6.ensures c.deref-7.ensures.value in
    let o8 = more_seen c.put_section-6.new.out.items c.put_section-7.new.out.items header _ 9 elem_text plain_elem c.deref-8.result.now m.elems.items o7 c.in_ok-put_section-7.ensures c.deref-8.ensures.value in
    let o9 = more_seen c.put_section-7.new.out.items c.put_section-8.new.out.items header _ 10 code_text plain_code c.deref-9.result.now m.codes.items o8 c.in_ok-put_section-8.ensures c.deref-9.ensures.value in
    let o10 = more_seen c.put_section-8.new.out.items c.put_section-9.new.out.items header _ 11 seg_text plain_seg c.deref-10.result.now m.segs.items o9 c.in_ok-put_section-9.ensures c.deref-10.ensures.value in
    simp append_assoc at o10
