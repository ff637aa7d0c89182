use Rattle.std.proofs.Common.{List, ℕ, [], ◌∷◌, None, refl, ap, ◌∙◌, map, codes}
use Rattle.std.specs.Global.{Vec}
use Rattle.chain_addr.specs.Text.{text_of}
use Rattle.chain_records.specs.State.{State}
use Rattle.chain_msgs.specs.Plain.{event_view}
use Rattle.contract_admin.specs.Administration.{migrate_refusal, with_code_id}
use Rattle.contract_call.specs.declared.entry.Entry.TheVariants.{Migrate}
use Rattle.call_outcomes.specs.Events.{code_event}
use Rattle.submsg_dispatch.specs.Parts.{done, becomes, ◌>>=◌}
use Rattle.submsg_dispatch.specs.Calling.{tells}
use Rattle.submsg_dispatch.specs.Stages.{called_view, migrate_written}
use Rattle.submsg_dispatch.proofs.Chaining.{then_on, lawful_on}
use Rattle.submsg_dispatch.proofs.Entering.{tells_as}
use Rattle.submsg_dispatch.proofs.Making.{migrated_leads, written_stops}
use Rattle.submsg_dispatch.proofs.migration.migrate_told.Goals as goal

pub set_code-requires : goal.set_code-requires
set_code-requires g c =
    let u = lawful_on c.in_ok-called.called c.requires.lawful c.in_ok-called.ensures.leads in
    record { map = u.map; state = u.state; stands = u.stands; spelled = u.spelled; holds = u.holds.0.contracts }

pub returns-in-Ok-clause-leads : goal.returns-in-Ok-clause-leads
returns-in-Ok-clause-leads g c =
    let costs = c.args.costs.now in
    let prefix = c.args.prefix.now in
    let sender = c.args.sender.now in
    let msg = c.args.msg.now in
    let addr : List ℕ = c.args.callee.addr.items in
    let id : ℕ = c.args.callee.code_id in
    let called = c.in_ok-called.called in
    let same = ap (λ (v : Vec ℕ). v.items) c.in_ok-called.ensures.called in
    let own = ap (map event_view) c.in_ok-own.ensures ∙ ap (λ e. e ∷ []) (c.in_ok-code_event.ensures ∙ ap (λ (t : List ℕ). code_event (codes "migrate") t id) (c.deref.ensures ∙ c.requires.callee.text)) in
    let told = tells_as costs c.args.index id Migrate addr addr None None msg msg _ _ refl refl refl own c.in_ok-called.ensures.leads in
    let sets = rw (c.deref-2.ensures.value, same) at c.in-Ok.ensures.changed in
    then_on c.fetches_join.ensures called (tells costs c.args.index prefix addr id Migrate None msg (code_event (codes "migrate") (text_of prefix addr) id ∷ [])) (migrate_written prefix sender addr id) told (migrated_leads sender addr id called sets)

pub returns-in-Err-clause-leads : goal.returns-in-Err-clause-leads
returns-in-Err-clause-leads g c =
    let costs = c.args.costs.now in
    let prefix = c.args.prefix.now in
    let sender = c.args.sender.now in
    let msg = c.args.msg.now in
    let addr : List ℕ = c.args.callee.addr.items in
    let id : ℕ = c.args.callee.code_id in
    let called = c.in_ok-called.called in
    let same = ap (λ (v : Vec ℕ). v.items) c.in_ok-called.ensures.called in
    let own = ap (map event_view) c.in_ok-own.ensures ∙ ap (λ e. e ∷ []) (c.in_ok-code_event.ensures ∙ ap (λ (t : List ℕ). code_event (codes "migrate") t id) (c.deref.ensures ∙ c.requires.callee.text)) in
    let told = tells_as costs c.args.index id Migrate addr addr None None msg msg _ _ refl refl refl own c.in_ok-called.ensures.leads in
    let each = rw (c.deref-2.ensures.value, same) at c.in-Err.ensures.stop in
    let tells_stop = rw (c.deref-in-Err.ensures.value, same) at c.contract_stop.ensures in
    then_on c.fetches_join.ensures called (tells costs c.args.index prefix addr id Migrate None msg (code_event (codes "migrate") (text_of prefix addr) id ∷ [])) (migrate_written prefix sender addr id) told
    (written_stops addr (λ (s : State). migrate_refusal s sender addr id) (λ _. becomes (λ (s : State). with_code_id s addr id) >>= λ _. done (called_view called)) c.in-Err.stop c.contract_stop.result each c.in-Err.ensures.unchanged tells_stop)
