use Rattle.std.proofs.Common.{◌≡◌, List, ℕ, [], ◌∷◌, ◌++◌, Some, refl, ap, ◌∙◌, subst, map, codes}
use Rattle.std.specs.Global.{Vec}
use Rattle.std.proofs.lemmas.List.{map-append}
use Rattle.coin_amounts.specs.Coins.{coins_view}
use Rattle.chain_addr.specs.Text.{text_of}
use Rattle.chain_records.specs.Records.{plain_contract}
use Rattle.chain_msgs.specs.Plain.{Event, event_view}
use Rattle.contract_call.specs.declared.entry.Entry.TheVariants.{Instantiate}
use Rattle.call_outcomes.specs.Events.{code_event}
use Rattle.submsg_dispatch.specs.Calling.{info, pays, tells}
use Rattle.submsg_dispatch.specs.Stages.{called_view, create_told, create_written}
use Rattle.submsg_dispatch.specs.Under.{LeadsOn, events_view}
use Rattle.submsg_dispatch.proofs.Chaining.{passes_so, then_on, stop_on, lawful_on}
use Rattle.submsg_dispatch.proofs.Entering.{tells_as}
use Rattle.submsg_dispatch.proofs.creation.create_paid.Goals as goal

pub returns-in_err-own-clause-leads : goal.returns-in_err-own-clause-leads
returns-in_err-own-clause-leads g c =
    let p = plain_contract c.args.contract.now in
    let addr : List ℕ = c.args.addr.items in
    let coins = coins_view c.args.coins.now in
    let stop = c.in_err-own.field-0.0 in
    let does = rw (c.deref.ensures.value, c.deref-2.ensures.value) at (c.in_err-own.ensures.leads (g.M.Modules.tally c.args.modules.now)) in
    passes_so c.from_residual.result stop c.from_residual.ensures.1
    (stop_on stop (pays c.args.costs.now p.creator addr coins) (create_told c.args.costs.now c.args.index c.args.prefix.now addr p coins c.args.msg.now) does)

pub tell_call-requires-clause-lawful : goal.tell_call-requires-clause-lawful
tell_call-requires-clause-lawful g c = lawful_on c.in_ok-own.own c.requires.lawful (c.in_ok-own.ensures.leads (g.M.Modules.tally c.args.modules.now))

pub returns-in_err-called-clause-leads : goal.returns-in_err-called-clause-leads
returns-in_err-called-clause-leads g c =
    let costs = c.args.costs.now in
    let prefix = c.args.prefix.now in
    let p = plain_contract c.args.contract.now in
    let addr : List ℕ = c.args.addr.items in
    let coins = coins_view c.args.coins.now in
    let msg = c.args.msg.now in
    let moved = events_view c.in_ok-own.own in
    let paid = rw (c.deref.ensures.value, c.deref-2.ensures.value) at (c.in_ok-own.ensures.leads (g.M.Modules.tally c.args.modules.now)) in
    let text = rw c.deref-3.ensures.value at c.in_ok-text.ensures.text in
    let event = c.in_ok-code_event.ensures ∙ ap (λ (t : List ℕ). code_event (codes "instantiate") t p.code_id) (c.deref-4.ensures ∙ text) in
    let own = ap (map event_view) c.in_ok-push.ensures.items ∙ map-append event_view c.in_ok-own.own.items _ ∙ ap (λ (e : Event). moved ++ e ∷ []) event in
    let told = ap Some (c.deref-6.ensures.value ∙ c.in_ok-info.ensures ∙ ap (λ (creator : List ℕ). info prefix creator coins) c.deref-5.ensures.value) in
    let stop = c.in_err-called.field-0.0 in
    passes_so c.from_residual-in_err-called.result stop c.from_residual-in_err-called.ensures.1
    (then_on c.fetches_join.ensures c.in_ok-own.own (pays costs p.creator addr coins) (create_told costs c.args.index prefix addr p coins msg) paid
    (stop_on stop (tells costs c.args.index prefix addr p.code_id Instantiate (Some (info prefix p.creator coins)) msg (moved ++ code_event (codes "instantiate") (text_of prefix addr) p.code_id ∷ [])) (create_written prefix addr p)
    (tells_as costs c.args.index p.code_id Instantiate addr addr _ (Some (info prefix p.creator coins)) msg msg _ _ refl told refl own c.in_err-called.ensures.leads)))

pub write_created-requires-clause-lawful : goal.write_created-requires-clause-lawful
write_created-requires-clause-lawful g c = lawful_on c.in_ok-called.called (lawful_on c.in_ok-own.own c.requires.lawful (c.in_ok-own.ensures.leads (g.M.Modules.tally c.args.modules.now))) c.in_ok-called.ensures.leads

pub returns-clause-leads : goal.returns-clause-leads
returns-clause-leads g c =
    let costs = c.args.costs.now in
    let prefix = c.args.prefix.now in
    let p = plain_contract c.args.contract.now in
    let addr : List ℕ = c.args.addr.items in
    let coins = coins_view c.args.coins.now in
    let msg = c.args.msg.now in
    let moved = events_view c.in_ok-own.own in
    let called = c.in_ok-called.called in
    let paid = rw (c.deref.ensures.value, c.deref-2.ensures.value) at (c.in_ok-own.ensures.leads (g.M.Modules.tally c.args.modules.now)) in
    let text = rw c.deref-3.ensures.value at c.in_ok-text.ensures.text in
    let event = c.in_ok-code_event.ensures ∙ ap (λ (t : List ℕ). code_event (codes "instantiate") t p.code_id) (c.deref-4.ensures ∙ text) in
    let own = ap (map event_view) c.in_ok-push.ensures.items ∙ map-append event_view c.in_ok-own.own.items _ ∙ ap (λ (e : Event). moved ++ e ∷ []) event in
    let told = ap Some (c.deref-6.ensures.value ∙ c.in_ok-info.ensures ∙ ap (λ (creator : List ℕ). info prefix creator coins) c.deref-5.ensures.value) in
    let same = ap (λ (v : Vec ℕ). v.items) c.in_ok-called.ensures.called in
    let tally = g.M.Modules.tally c.tell_call.new.modules in
    let left = c.tell_call.new.meter.left in
    let written =
    subst (λ (a : List ℕ). LeadsOn prefix g.B.Base.stands_for c.tell_call.new.layers c.write_created.new.layers tally tally left left (create_written prefix a p (called_view called)) called_view c.write_created.result) same
    (c.write_created.ensures.leads tally left)
    in
    then_on c.fetches_join.ensures c.in_ok-own.own (pays costs p.creator addr coins) (create_told costs c.args.index prefix addr p coins msg) paid
    (then_on c.fetches_join.ensures called (tells costs c.args.index prefix addr p.code_id Instantiate (Some (info prefix p.creator coins)) msg (moved ++ code_event (codes "instantiate") (text_of prefix addr) p.code_id ∷ [])) (create_written prefix addr p)
    (tells_as costs c.args.index p.code_id Instantiate addr addr _ (Some (info prefix p.creator coins)) msg msg _ _ refl told refl own c.in_ok-called.ensures.leads) written)
