use Rattle.std.proofs.Common.{map, string_bytes}
use Rattle.wasm_types.specs.Plain.{plain_module}
use Rattle.gatekeeper.proofs.Judged.{judged_module}
use Rattle.gatekeeper.proofs.gate.check_reading.Goals as goal

pub returns-in-Ok : goal.returns-in-Ok
returns-in-Ok c =
    let m = plain_module c.in-Ok.m in
    judged_module (Unit {0}) c.check_module.result c.args.code.now (map string_bytes c.args.caps.now) m ((c.bytes_spell_or_break.ensures.spelled c.args.code.now m c.in-Ok.ensures.found.0).1 c.in-Ok.ensures.found) c.check_module.ensures
