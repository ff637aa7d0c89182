use Rattle.std.proofs.Common.{arith, ◌≡◌, length}
use Rattle.std.proofs.lemmas.Result.{err_from_is_err_and}
use Rattle.wasm_reader.specs.CursorPlace.{place}
use Rattle.wasm_reader.proofs.Tables.{no_count, no_labels, no_default, table_is}
use Rattle.wasm_reader.proofs.instr.br_table.Goals as goal

pub returns-in_err-count : goal.returns-in_err-count
returns-in_err-count c =
    let p = err_from_is_err_and c.from_residual.result c.from_residual.ensures.1 in
    rw (p.1, p.2) (no_count _ c.args.targets.now.items (place c.args.cursor.now) _ c.in_err-count.ensures)

pub returns-in_err-items_into : goal.returns-in_err-items_into
returns-in_err-items_into c =
    let p = err_from_is_err_and c.from_residual-in_err-items_into.result c.from_residual-in_err-items_into.ensures.1 in
    rw (p.1, p.2) (no_labels _ c.args.targets.now.items (place c.args.cursor.now) _ _ _ c.in_ok-count.ensures c.in_err-items_into.ensures)

pub returns-in_err-default : goal.returns-in_err-default
returns-in_err-default c =
    let p = err_from_is_err_and c.from_residual-in_err-default.result c.from_residual-in_err-default.ensures.1 in
    rw (p.1, p.2) (no_default _ c.args.targets.now.items (place c.args.cursor.now) _ _ c.items_into.new.items.items _ c.in_ok-count.ensures c.in_ok-items_into.ensures _ c.in_err-default.ensures)

pub returns : goal.returns
returns c =
    let first : c.len-first.result ≡ length c.args.targets.now.items = omega arith in
    rw first (table_is _ c.args.targets.now.items (place c.args.cursor.now) _ _ c.items_into.new.items.items _ c.in_ok-count.ensures c.in_ok-items_into.ensures _ _ c.in_ok-default.ensures)
