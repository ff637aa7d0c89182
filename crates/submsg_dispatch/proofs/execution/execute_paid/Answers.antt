use Rattle.std.proofs.Common.{◌≡◌, List, ℕ, [], ◌∷◌, ◌++◌, Some, refl, sym, ap, ◌∙◌, subst, map, codes}
use Rattle.std.specs.Global.{Vec}
use Rattle.std.proofs.lemmas.List.{map-append}
use Rattle.std.proofs.lemmas.Result.{IfOk-weaker}
use Rattle.coin_amounts.specs.Coins.{coins_view}
use Rattle.chain_addr.specs.Text.{text_of}
use Rattle.chain_records.specs.Keys.{IsAddress}
use Rattle.chain_msgs.specs.Plain.{Event, event_view}
use Rattle.contract_call.specs.declared.entry.Entry.TheVariants.{Execute}
use Rattle.call_outcomes.specs.Events.{call_event}
use Rattle.submsg_dispatch.specs.Calling.{info, pays}
use Rattle.submsg_dispatch.specs.Stages.{IsCalled, execute_told}
use Rattle.submsg_dispatch.specs.Under.{events_view}
use Rattle.submsg_dispatch.proofs.Chaining.{passes_so, then_on, stop_on, lawful_on}
use Rattle.submsg_dispatch.proofs.Entering.{tells_as}
use Rattle.submsg_dispatch.proofs.execution.execute_paid.Goals as goal

pub returns-in_err-own-clause-leads : goal.returns-in_err-own-clause-leads
returns-in_err-own-clause-leads g c =
    let costs = c.args.costs.now in
    let sender = c.args.sender.now in
    let addr : List ℕ = c.args.callee.addr.items in
    let coins = coins_view c.args.coins.now in
    let stop = c.in_err-own.field-0.0 in
    let does = rw c.deref.ensures.value at (c.in_err-own.ensures.leads (g.M.Modules.tally c.args.modules.now)) in
    passes_so c.from_residual.result stop c.from_residual.ensures.1
    (stop_on stop (pays costs sender addr coins) (execute_told costs c.args.index c.args.prefix.now sender addr c.args.callee.code_id c.args.msg.now coins) does)

pub tell_call-requires-clause-lawful : goal.tell_call-requires-clause-lawful
tell_call-requires-clause-lawful g c = lawful_on c.in_ok-own.own c.requires.lawful (c.in_ok-own.ensures.leads (g.M.Modules.tally c.args.modules.now))

pub returns-clause-leads : goal.returns-clause-leads
returns-clause-leads g c =
    let costs = c.args.costs.now in
    let prefix = c.args.prefix.now in
    let sender = c.args.sender.now in
    let callee = c.args.callee in
    let addr : List ℕ = callee.addr.items in
    let coins = coins_view c.args.coins.now in
    let msg = c.args.msg.now in
    let moved = events_view c.in_ok-own.own in
    let does = rw c.deref.ensures.value at (c.in_ok-own.ensures.leads (g.M.Modules.tally c.args.modules.now)) in
    let event = c.in_ok-call_event.ensures ∙ ap (call_event (codes "execute")) (c.deref-2.ensures ∙ c.requires.callee.text) in
    let own = ap (map event_view) c.in_ok-push.ensures.items ∙ map-append event_view c.in_ok-own.own.items _ ∙ ap (λ (e : Event). moved ++ e ∷ []) event in
    let told = ap Some (c.deref-3.ensures.value ∙ c.in_ok-info.ensures) in
    then_on c.fetches_join.ensures c.in_ok-own.own (pays costs sender addr coins) (execute_told costs c.args.index prefix sender addr callee.code_id msg coins) does
    (tells_as costs c.args.index callee.code_id Execute addr addr _ (Some (info prefix sender coins)) msg msg _ _ refl told refl own c.tell_call.ensures.leads)

pub returns-clause-called : goal.returns-clause-called
returns-clause-called g c = IfOk-weaker c.tell_call.result (λ called. called.addr ≡ c.args.callee.addr) IsCalled (λ called is. subst (λ (v : Vec ℕ). IsAddress v.items) (sym is) c.requires.callee.address) c.tell_call.ensures.called
