use Rattle.std.proofs.Common.{sym, ◌∙◌, ap, cond}
use Rattle.wasm_types.specs.Plain.{plain_module}
use Rattle.wasm_machine.specs.declared.turn.TrapKind.TheVariants.{TableType}
use Rattle.wasm_machine.specs.Exec.{leaves, trapped, calls_func}
use Rattle.wasm_machine.specs.Values.{seen, shared_of}
use Rattle.wasm_machine.specs.Rests.{moved, ahead}
use Rattle.wasm_machine.proofs.Moves.{inside_ends}
use Rattle.wasm_machine.proofs.state.State.call_held.Goals as goal

pub returns-in-None-clause-leads : goal.returns-in-None-clause-leads
returns-in-None-clause-leads c = λ acts. rw c.in-None.is (inside_ends (plain_module c.args.code.now.module.now) c.args.self.now c.args.next _)

pub returns-then-not-has_type-clause-leads : goal.returns-then-not-has_type-clause-leads
returns-then-not-has_type-clause-leads c = λ acts.
    let s = c.args.self.now in
    let m = plain_module c.args.code.now.module.now in
    let a = ahead c.args.meter.now.left c.args.code.now.costs.now acts in
    rw c.in-Some.is
    (ap (λ b. moved m s c.args.next (cond b (calls_func m c.in-Some.func (seen s.values) a) (leaves (trapped TableType (shared_of s.values) a)))) (sym c.has_type.ensures ∙ c.if-not-has_type.true)
    ∙ inside_ends m s c.args.next _)
