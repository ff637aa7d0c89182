use Rattle.std.proofs.Common.{◌≡◌, List, ℕ, [], ◌∷◌, None, Err, Ok, refl, sym, ap, ◌∙◌, subst, map, codes}
use Rattle.std.specs.Global.{Vec}
use Rattle.std.proofs.lemmas.Result.{IfOk-weaker}
use Rattle.chain_addr.specs.Text.{text_of}
use Rattle.chain_records.specs.Keys.{IsAddress}
use Rattle.chain_msgs.specs.Plain.{event_view}
use Rattle.contract_call.specs.declared.entry.Entry.TheVariants.{Sudo}
use Rattle.call_outcomes.specs.Events.{call_event}
use Rattle.submsg_dispatch.specs.Parts.{◌>>=◌}
use Rattle.submsg_dispatch.specs.Messages.{address_in}
use Rattle.submsg_dispatch.specs.Calling.{code_at, tells}
use Rattle.submsg_dispatch.specs.Stages.{IsCalled, needs_authority}
use Rattle.submsg_dispatch.specs.Under.{bytes_view}
use Rattle.submsg_dispatch.proofs.Chaining.{address_gives, gives_on, passes_so, then_on, stop_on, then_gives}
use Rattle.submsg_dispatch.proofs.Entering.{tells_as}
use Rattle.submsg_dispatch.proofs.commands.command.Goals as goal

pub returns-in_err-need_authority-clause-leads : goal.returns-in_err-need_authority-clause-leads
returns-in_err-need_authority-clause-leads g c =
    let prefix = c.args.prefix.now in
    let calls = λ (addr : List ℕ) (id : ℕ). tells c.args.costs.now c.args.index prefix addr id Sudo None c.args.msg.now (call_event (codes "sudo") (text_of prefix addr) ∷ []) in
    let next = λ (addr : List ℕ). code_at prefix addr >>= calls addr in
    let stop = c.in_err-need_authority.field-0.0 in
    passes_so c.from_residual.result stop c.from_residual.ensures.1 (stop_on stop (needs_authority c.args.sender.now) (λ _. address_in c.args.contract.now >>= next) (c.in_err-need_authority.ensures _ _))

pub returns-in_err-addr-clause-leads : goal.returns-in_err-addr-clause-leads
returns-in_err-addr-clause-leads g c =
    let prefix = c.args.prefix.now in
    let calls = λ (addr : List ℕ) (id : ℕ). tells c.args.costs.now c.args.index prefix addr id Sudo None c.args.msg.now (call_event (codes "sudo") (text_of prefix addr) ∷ []) in
    let next = λ (addr : List ℕ). code_at prefix addr >>= calls addr in
    let stop = c.in_err-addr.field-0.0 in
    passes_so c.from_residual-in_err-addr.result stop c.from_residual-in_err-addr.ensures.1
    (then_on c.fetches_join.ensures _ (needs_authority c.args.sender.now) (λ _. address_in c.args.contract.now >>= next) (c.in_ok-need_authority.ensures _ _)
    (stop_on stop (address_in c.args.contract.now) next (gives_on {X = Vec ℕ} (address_in c.args.contract.now) bytes_view (Err stop) (address_gives prefix (Err stop) c.args.contract.now c.in_err-addr.ensures.found))))

pub returns-in_err-callee-clause-leads : goal.returns-in_err-callee-clause-leads
returns-in_err-callee-clause-leads g c =
    let prefix = c.args.prefix.now in
    let calls = λ (addr : List ℕ) (id : ℕ). tells c.args.costs.now c.args.index prefix addr id Sudo None c.args.msg.now (call_event (codes "sudo") (text_of prefix addr) ∷ []) in
    let next = λ (addr : List ℕ). code_at prefix addr >>= calls addr in
    let addr = c.in_ok-addr.addr in
    let stop = c.in_err-callee.field-0.0 in
    passes_so c.from_residual-in_err-callee.result stop c.from_residual-in_err-callee.ensures.1
    (then_on c.fetches_join.ensures _ (needs_authority c.args.sender.now) (λ _. address_in c.args.contract.now >>= next) (c.in_ok-need_authority.ensures _ _)
    (then_gives (address_in c.args.contract.now) next bytes_view addr (address_gives prefix (Ok addr) c.args.contract.now c.in_ok-addr.ensures.found)
    (stop_on stop (code_at prefix addr.items) (calls addr.items) (c.in_err-callee.ensures.leads _ _))))

pub returns-clause-leads : goal.returns-clause-leads
returns-clause-leads g c =
    let prefix = c.args.prefix.now in
    let costs = c.args.costs.now in
    let msg = c.args.msg.now in
    let calls = λ (addr : List ℕ) (id : ℕ). tells costs c.args.index prefix addr id Sudo None msg (call_event (codes "sudo") (text_of prefix addr) ∷ []) in
    let next = λ (addr : List ℕ). code_at prefix addr >>= calls addr in
    let addr = c.in_ok-addr.addr in
    let callee = c.in_ok-callee.callee in
    let same = ap (λ (v : Vec ℕ). v.items) c.in_ok-callee.ensures.callee.0 in
    let text = c.deref.ensures ∙ c.in_ok-callee.ensures.callee.1.text ∙ ap (text_of prefix) same in
    let own = ap (map event_view) c.in_ok-own.ensures ∙ ap (λ e. e ∷ []) (c.in_ok-call_event.ensures ∙ ap (call_event (codes "sudo")) text) in
    then_on c.fetches_join.ensures _ (needs_authority c.args.sender.now) (λ _. address_in c.args.contract.now >>= next) (c.in_ok-need_authority.ensures _ _)
    (then_gives (address_in c.args.contract.now) next bytes_view addr (address_gives prefix (Ok addr) c.args.contract.now c.in_ok-addr.ensures.found)
    (then_on c.fetches_join.ensures callee (code_at prefix addr.items) (calls addr.items) (c.in_ok-callee.ensures.leads _ _)
    (tells_as costs c.args.index callee.code_id Sudo callee.addr.items addr.items None None msg msg _ _ same refl refl own c.tell_call.ensures.leads)))

pub returns-clause-called : goal.returns-clause-called
returns-clause-called g c = IfOk-weaker c.tell_call.result (λ called. called.addr ≡ c.in_ok-callee.callee.addr) IsCalled (λ called is. subst (λ (v : Vec ℕ). IsAddress v.items) (sym is) c.in_ok-callee.ensures.callee.1.address) c.tell_call.ensures.called
