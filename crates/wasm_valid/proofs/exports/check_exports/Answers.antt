use Rattle.std.proofs.Common.{◌<◌, List, length, map, take, subst, sym, arith}
use Rattle.wasm_types.specs.Plain.{PlainExport, plain_export, plain_module}
use Rattle.wasm_types.specs.Validity.{export_kept}
use Rattle.wasm_valid.specs.Names.{HasNames}
use Rattle.wasm_valid.proofs.Passing.{front, passes, stops, none_left}
use Rattle.wasm_valid.proofs.exports.check_exports.Goals as goal

pub returns-in-Err : goal.returns-in-Err
returns-in-Err c =
    let raw = c.args.m.now.exports.items in
    stops plain_export (export_kept (plain_module c.args.m.now)) raw c.loop-at.at c.index.result.now c.index.result.now (omega (arith, c.loop-at-test.true, c.args.m.now.exports.ok.0, c.len.ensures)) c.index.ensures _ c.in-Err.stop c.item_stop.result c.item_stop.ensures c.loop-at.invariant.fault
    (c.in-Err.ensures.kept (plain_module c.args.m.now) (take c.loop-at.at (map plain_export raw)) c.requires.spaces c.loop-at.invariant.names)

pub loop-at-preserved : goal.loop-at-preserved
loop-at-preserved c =
    let raw = c.args.m.now.exports.items in
    let earlier = take c.loop-at.at (map plain_export raw) in
    let within : c.loop-at.at < length raw = omega (arith, c.loop-at-test.true, c.args.m.now.exports.ok.0, c.len.ensures) in
    record {
      within = omega (arith, within);
      names = subst (λ (exports : List PlainExport). HasNames c.check_export.new.names exports) (sym (front plain_export (export_kept (plain_module c.args.m.now)) raw c.loop-at.at c.index.result.now c.index.result.now within c.index.ensures)) (c.in-Ok.ensures.names earlier c.loop-at.invariant.names);
      fault = passes plain_export (export_kept (plain_module c.args.m.now)) raw c.loop-at.at c.index.result.now c.index.result.now within c.index.ensures _ c.loop-at.invariant.fault
          (c.in-Ok.ensures.kept (plain_module c.args.m.now) earlier c.requires.spaces c.loop-at.invariant.names);
    }

pub returns : goal.returns
returns c = none_left plain_export (export_kept (plain_module c.args.m.now)) c.args.m.now.exports.items _ c.loop-at.at c.loop-at.invariant.fault (omega (arith, c.loop-at-test.false, c.args.m.now.exports.ok.0, c.len.ensures))
