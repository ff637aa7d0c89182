use Rattle.std.proofs.Common.{sym, ◌∙◌, ap}
use Rattle.wasm_types.specs.Plain.{plain_module}
use Rattle.wasm_machine.specs.Start.{func_type, type_at}
use Rattle.wasm_machine.proofs.Codes.{type_got}
use Rattle.wasm_machine.proofs.functions.func_type.Goals as goal

pub returns-in-None : goal.returns-in-None
unfolding func_type
returns-in-None c = sym (ap (type_at (plain_module c.args.m.now)) (sym c.in-None.ensures))

pub returns-in-Some : goal.returns-in-Some
unfolding func_type
returns-in-Some c =
    let h = c.get.ensures.lookup in
    type_got c.args.m.now c.deref.result.now c.in-Some.ty c.get.result c.deref.ensures.value h.1 h.3 ∙ ap (type_at (plain_module c.args.m.now)) c.in-Some.ensures
