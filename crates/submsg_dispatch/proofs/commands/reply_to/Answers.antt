use Rattle.std.proofs.Common.{◌≡◌, List, ℕ, [], ◌∷◌, None, refl, sym, ap, ◌∙◌, subst, map, codes}
use Rattle.std.specs.Global.{Vec}
use Rattle.std.proofs.lemmas.Result.{IfOk-weaker}
use Rattle.chain_addr.specs.Text.{text_of}
use Rattle.chain_records.specs.Keys.{IsAddress}
use Rattle.chain_msgs.specs.Plain.{event_view}
use Rattle.chain_msgs.specs.Messages.{reply_view}
use Rattle.chain_msgs.specs.Texts.{reply_text}
use Rattle.contract_call.specs.declared.entry.Entry.TheVariants.{Reply}
use Rattle.call_outcomes.specs.Events.{call_event}
use Rattle.submsg_dispatch.specs.Calling.{code_at, tells}
use Rattle.submsg_dispatch.specs.Stages.{IsCalled}
use Rattle.submsg_dispatch.proofs.Chaining.{passes_so, then_on, stop_on}
use Rattle.submsg_dispatch.proofs.Entering.{tells_as}
use Rattle.submsg_dispatch.proofs.commands.reply_to.Goals as goal

pub returns-in_err-callee-clause-leads : goal.returns-in_err-callee-clause-leads
returns-in_err-callee-clause-leads g c =
    let prefix = c.args.prefix.now in
    let addr : List ℕ = c.args.addr.items in
    let calls = λ (id : ℕ). tells c.args.costs.now c.args.index prefix addr id Reply None (reply_text (reply_view c.args.reply.now)) (call_event (codes "reply") (text_of prefix addr) ∷ []) in
    let stop = c.in_err-callee.field-0.0 in
    passes_so c.from_residual.result stop c.from_residual.ensures.1 (stop_on stop (code_at prefix addr) calls (c.in_err-callee.ensures.leads _ _))

pub returns-clause-leads : goal.returns-clause-leads
returns-clause-leads g c =
    let prefix = c.args.prefix.now in
    let costs = c.args.costs.now in
    let addr : List ℕ = c.args.addr.items in
    let msg = reply_text (reply_view c.args.reply.now) in
    let calls = λ (id : ℕ). tells costs c.args.index prefix addr id Reply None msg (call_event (codes "reply") (text_of prefix addr) ∷ []) in
    let callee = c.in_ok-callee.callee in
    let same = ap (λ (v : Vec ℕ). v.items) c.in_ok-callee.ensures.callee.0 in
    let text = c.deref.ensures ∙ c.in_ok-callee.ensures.callee.1.text ∙ ap (text_of prefix) same in
    let own = ap (map event_view) c.in_ok-own.ensures ∙ ap (λ e. e ∷ []) (c.in_ok-call_event.ensures ∙ ap (call_event (codes "reply")) text) in
    then_on c.fetches_join.ensures callee (code_at prefix addr) calls (c.in_ok-callee.ensures.leads _ _)
    (tells_as costs c.args.index callee.code_id Reply callee.addr.items addr None None _ msg _ _ same refl (c.deref-2.ensures.value ∙ c.in_ok-msg.ensures) own c.tell_call.ensures.leads)

pub returns-clause-called : goal.returns-clause-called
returns-clause-called g c = IfOk-weaker c.tell_call.result (λ called. called.addr ≡ c.in_ok-callee.callee.addr) IsCalled (λ called is. subst (λ (v : Vec ℕ). IsAddress v.items) (sym is) c.in_ok-callee.ensures.callee.1.address) c.tell_call.ensures.called
