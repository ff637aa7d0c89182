use Rattle.wasm_types.specs.Plain.{plain_module}
use Rattle.gatekeeper.proofs.gate.check_module.Goals as goal

pub check_imports-requires : goal.check_imports-requires
check_imports-requires c = c.spelled_are_shaped.ensures (plain_module c.args.m.now) c.requires

pub check_segments-requires : goal.check_segments-requires
check_segments-requires c = c.spelled_are_shaped.ensures (plain_module c.args.m.now) c.requires

pub check_exports-requires : goal.check_exports-requires
check_exports-requires c = c.spelled_are_shaped.ensures (plain_module c.args.m.now) c.requires
