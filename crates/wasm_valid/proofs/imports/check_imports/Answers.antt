use Rattle.std.proofs.Common.{◌≡◌, ◌<◌, List, length, map, take, ap, sym, ◌∙◌, arith}
use Rattle.std.proofs.lemmas.List.{take-map}
use Rattle.wasm_types.specs.Plain.{PlainImport, plain_import, plain_module}
use Rattle.wasm_types.specs.Validity.{imported, table_in, memory_in, desc_kept}
use Rattle.wasm_valid.proofs.Importing.{next_count}
use Rattle.wasm_valid.proofs.Passing.{passes, fails, none_left}
use Rattle.wasm_valid.proofs.imports.check_imports.Goals as goal

pub returns-in-Err : goal.returns-in-Err
returns-in-Err c =
    let raw = c.args.m.now.imports.items in
    let at = c.loop-at.at in
    let earlier = take at (map plain_import raw) in
    let same : earlier ≡ map plain_import (take at raw) = take-map plain_import at raw in
    let tables : length (imported table_in earlier) ≡ c.loop-at.tables = ap (λ (l : List PlainImport). length (imported table_in l)) same ∙ sym c.loop-at.invariant.tables in
    let memories : length (imported memory_in earlier) ≡ c.loop-at.memories = ap (λ (l : List PlainImport). length (imported memory_in l)) same ∙ sym c.loop-at.invariant.memories in
    fails plain_import (λ earlier i. desc_kept (plain_module c.args.m.now) earlier i.desc) raw at c.index-import.result.now c.index-import.result.now (omega (arith, c.loop-at-test.true, c.args.m.now.imports.ok.0, c.len.ensures)) c.index-import.ensures _ c.in-Err.kind c.loop-at.invariant.fault
    (c.in-Err.ensures earlier tables memories)

pub loop-at-preserved : goal.loop-at-preserved
loop-at-preserved c =
    let raw = c.args.m.now.imports.items in
    let at = c.loop-at.at in
    let earlier = take at (map plain_import raw) in
    let same : earlier ≡ map plain_import (take at raw) = take-map plain_import at raw in
    let tables : length (imported table_in earlier) ≡ c.loop-at.tables = ap (λ (l : List PlainImport). length (imported table_in l)) same ∙ sym c.loop-at.invariant.tables in
    let memories : length (imported memory_in earlier) ≡ c.loop-at.memories = ap (λ (l : List PlainImport). length (imported memory_in l)) same ∙ sym c.loop-at.invariant.memories in
    let within : at < length raw = omega (arith, c.loop-at-test.true, c.args.m.now.imports.ok.0, c.len.ensures) in
    record {
      within = omega (arith, within);
      few_tables = omega (arith, c.loop-at.invariant.few_tables, c.tables_in-tables.ensures.most);
      few_memories = omega (arith, c.loop-at.invariant.few_memories, c.memories_in-memories.ensures.most);
      tables = omega (arith, c.loop-at.invariant.tables, c.tables_in-tables.ensures.count, next_count table_in raw at c.index-import.result.now within c.index-import.ensures);
      memories = omega (arith, c.loop-at.invariant.memories, c.memories_in-memories.ensures.count, next_count memory_in raw at c.index-import.result.now within c.index-import.ensures);
      fault = passes plain_import (λ earlier i. desc_kept (plain_module c.args.m.now) earlier i.desc) raw at c.index-import.result.now c.index-import.result.now within c.index-import.ensures _ c.loop-at.invariant.fault (c.in-Ok.ensures earlier tables memories);
    }

pub returns : goal.returns
returns c = none_left plain_import (λ earlier i. desc_kept (plain_module c.args.m.now) earlier i.desc) c.args.m.now.imports.items _ c.loop-at.at c.loop-at.invariant.fault (omega (arith, c.loop-at-test.false, c.args.m.now.imports.ok.0, c.len.ensures))
