use Rattle.std.specs.Prelude.{codes}
use Rattle.wasm_types.specs.Plain.{plain_module, export_missing}
use Rattle.wasm_types.specs.Gate.{unless, is_exported, first_refused}
use Rattle.gatekeeper.proofs.Each.{last_refuses}
use Rattle.gatekeeper.proofs.exports.check_wanted.Goals as goal

pub returns-in-Err-check_exported-3 : goal.returns-in-Err-check_exported-3
unfolding first_refused
returns-in-Err-check_exported-3 c =
    let m = plain_module c.args.m.now in
    last_refuses
    (unless (is_exported m (codes "interface_version_8")) (export_missing (codes "interface_version_8")))
    (unless (is_exported m (codes "allocate")) (export_missing (codes "allocate")))
    (unless (is_exported m (codes "deallocate")) (export_missing (codes "deallocate")))
    (unless (is_exported m (codes "instantiate")) (export_missing (codes "instantiate")))
    c.in-Err-check_exported-3.stop c.in-Ok.ensures c.in-Ok-check_exported.ensures c.in-Ok-check_exported-2.ensures c.in-Err-check_exported-3.ensures
