use Rattle.wasm_types.specs.Plain.{plain_module}
use Rattle.wasm_valid.proofs.Halves.{then_contents, in_heads}
use Rattle.wasm_valid.proofs.validity.valid.Goals as goal

pub of-requires : goal.of-requires
of-requires c = record { shaped = c.spelled_are_shaped.ensures (plain_module c.args.m.now) c.requires }

pub check_heads-requires-clause-shaped : goal.check_heads-requires-clause-shaped
check_heads-requires-clause-shaped c = c.spelled_are_shaped.ensures (plain_module c.args.m.now) c.requires

pub check_contents-requires-clause-shaped : goal.check_contents-requires-clause-shaped
check_contents-requires-clause-shaped c = c.spelled_are_shaped.ensures (plain_module c.args.m.now) c.requires

pub returns-in-Ok : goal.returns-in-Ok
returns-in-Ok c = then_contents (plain_module c.args.m.now) c.check_contents.result c.in-Ok.ensures c.check_contents.ensures

pub returns : goal.returns
returns c = in_heads (plain_module c.args.m.now) c.in-Err.stop c.in-Err.ensures
