use Rattle.std.proofs.Common.{List, ℕ, sym, ◌∙◌, subst}
use Rattle.kv_layers.specs.Layers.{HasCurrent}
use Rattle.chain_records.specs.Records.{plain_facts}
use Rattle.submsg_dispatch.specs.Under.{HasLawfulUnder}
use Rattle.submsg_dispatch.proofs.Leading.{for_all}
use Rattle.submsg_dispatch.proofs.Lawfulness.{under, each_under, lawful_after, lawful_any}
use Rattle.submsg_dispatch.proofs.message.handle.Goals as goal

pub handle_under-requires-clause-lawful : goal.handle_under-requires-clause-lawful
handle_under-requires-clause-lawful g c =
    let S = HasCurrent g.B.Base.stands_for c.args.layers.now in
    subst (λ (p : List ℕ). HasLawfulUnder p S) (sym c.as_str-prefix.ensures.value) (under S (plain_facts c.in_ok-chain.chain) c.requires.lawful c.in_ok-chain.ensures)

pub returns-clause-leads : goal.returns-clause-leads
returns-clause-leads g c =
    for_all (λ maps s stands spelled. each_under g.B.Base.stands_for c.args.layers.now (plain_facts c.in_ok-chain.chain) c.in_ok-chain.ensures maps s stands spelled ∙ sym c.as_str-prefix.ensures.value) c.handle_under.ensures.leads

pub returns-clause-lawful : goal.returns-clause-lawful
returns-clause-lawful g c =
    let S = HasCurrent g.B.Base.stands_for c.args.layers.now in
    let some = subst (λ (p : List ℕ). HasLawfulUnder p S) (sym c.as_str-prefix.ensures.value) (under S (plain_facts c.in_ok-chain.chain) c.requires.lawful c.in_ok-chain.ensures) in
    lawful_any c.as_str-prefix.result.now (HasCurrent g.B.Base.stands_for c.handle_under.new.layers) c.handle_under.result (lawful_after c.handle_under.result some c.handle_under.ensures.leads)
