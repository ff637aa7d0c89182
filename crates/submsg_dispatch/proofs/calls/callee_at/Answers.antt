use Rattle.std.proofs.Common.{List, ℕ, refl, ap, ◌∙◌, subst, string_bytes}
use Rattle.chain_addr.specs.Text.{text_of}
use Rattle.submsg_dispatch.specs.Failures.{no_such_contract}
use Rattle.submsg_dispatch.specs.Under.{Fails}
use Rattle.submsg_dispatch.proofs.Leading.{fails_from}
use Rattle.submsg_dispatch.proofs.Seeing.{code_seen, no_code_seen}
use Rattle.submsg_dispatch.proofs.calls.callee_at.Goals as goal

pub returns-in-Some-clause-leads : goal.returns-in-Some-clause-leads
returns-in-Some-clause-leads g c = λ tally left. code_seen c.deref-2.result.now c.args.addr.items c.in_ok-contract.field-0 c.in-Some.contract _ c.in-Some.is c.deref-2.ensures.value c.in_ok-contract.ensures refl

pub returns-in-None-clause-leads : goal.returns-in-None-clause-leads
returns-in-None-clause-leads g c = λ tally left.
    let text = c.in_ok-text.ensures.text ∙ ap (text_of c.args.prefix.now) c.deref.ensures.value in
    let fails = fails_from c.stop_of.result c.no_such_contract.result (no_such_contract (string_bytes c.in_ok-text.text)) c.stop_of.ensures c.no_such_contract.ensures in
    no_code_seen c.deref-2.result.now c.args.addr.items c.in_ok-contract.field-0 c.stop_of.result c.in-None.is c.deref-2.ensures.value c.in_ok-contract.ensures (subst (λ (t : List ℕ). Fails c.stop_of.result (no_such_contract t)) text fails)
