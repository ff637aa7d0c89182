use Rattle.std.proofs.Common.{sym, ◌∙◌, ap}
use Rattle.wasm_types.specs.Plain.{PlainCode}
use Rattle.wasm_machine.proofs.Codes.{code_read, code_past}
use Rattle.wasm_machine.proofs.functions.locals_at.Goals as goal

pub returns-in-Some : goal.returns-in-Some
returns-in-Some c =
    let h = c.in-Some.ensures.lookup in
    c.deref-in-Some.ensures.value ∙ sym (ap (λ (p : PlainCode). p.locals) (code_read c.args.m.now c.deref.result.now c.args.code c.in-Some.code.now c.deref.ensures.value h.3.0 h.1))

pub returns-in-None : goal.returns-in-None
returns-in-None c = sym (ap (λ (p : PlainCode). p.locals) (code_past c.args.m.now c.deref.result.now c.args.code c.deref.ensures.value c.in-None.ensures.lookup.3))
