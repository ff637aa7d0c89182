use Rattle.std.proofs.Common.{sym, ◌∙◌, ◌+◌}
use Rattle.wasm_types.specs.Plain.{plain_module}
use Rattle.wasm_machine.specs.Rests.{ahead}
use Rattle.wasm_machine.proofs.Blocks.{leads_from, leads_here}
use Rattle.wasm_machine.proofs.Moves.{running_body}
use Rattle.wasm_machine.proofs.state.State.advance.Goals as goal

pub returns-in-None-clause-leads : goal.returns-in-None-clause-leads
returns-in-None-clause-leads c = λ acts h.
    let s = c.args.self.now in
    let m = plain_module c.args.code.now.module.now in
    let a = ahead c.args.meter.now.left c.args.code.now.costs.now acts in
    leads_from m c.args.frame _ _ _ _ _
    (running_body m s c.args.frame c.args.body.instrs.now c.args.body.targets.now a _ c.requires.body (sym c.item_at.ensures ∙ c.in-None.is))
    (c.fall.ensures.leads m a)

pub returns-in-Some-clause-leads : goal.returns-in-Some-clause-leads
returns-in-Some-clause-leads c = λ acts h.
    let s = c.args.self.now in
    let m = plain_module c.args.code.now.module.now in
    let a = ahead c.args.meter.now.left c.args.code.now.costs.now acts in
    leads_here m c.args.frame (c.args.frame.place + 1) _ _ _ _ _
    (running_body m s c.args.frame c.args.body.instrs.now c.args.body.targets.now a _ c.requires.body (sym c.item_at.ensures ∙ c.in-Some.is))
    (c.advance_by.ensures.leads acts h)
