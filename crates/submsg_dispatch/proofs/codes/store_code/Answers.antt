use Rattle.std.proofs.Common.{List, ℕ, Option, map, option_map, string_bytes, length}
use Rattle.chain_records.specs.Records.{list_view}
use Rattle.gas_meter.specs.Costs.{store_code_cost}
use Rattle.submsg_dispatch.specs.Parts.{charge, ◌>>=◌}
use Rattle.submsg_dispatch.specs.Messages.{stores, store_code}
use Rattle.submsg_dispatch.proofs.Leading.{passes, without_gas, after_charge}
use Rattle.submsg_dispatch.proofs.Listing.{after_allowed, none_allowed}
use Rattle.submsg_dispatch.proofs.codes.store_code.Goals as goal

pub returns-in_err-allowed-clause-leads : goal.returns-in_err-allowed-clause-leads
unfolding store_code
returns-in_err-allowed-clause-leads g c = λ tally.
    let code = c.args.code.items in
    let texts = option_map (λ list. map string_bytes list.items) c.args.allow.now in
    let k = λ (allowed : Option (List (List ℕ))). charge (store_code_cost c.args.costs.now (length code)) >>= λ _. stores c.args.sender.now code allowed in
    passes c.from_residual.result c.in_err-allowed.field-0.0 c.from_residual.ensures.1 (none_allowed tally _ texts k c.in_err-allowed.ensures.found)

pub returns-in_err-charge_code-clause-leads : goal.returns-in_err-charge_code-clause-leads
unfolding store_code
returns-in_err-charge_code-clause-leads g c = λ tally.
    let code = c.args.code.items in
    let texts = option_map (λ list. map string_bytes list.items) c.args.allow.now in
    let k = λ (allowed : Option (List (List ℕ))). charge (store_code_cost c.args.costs.now (length code)) >>= λ _. stores c.args.sender.now code allowed in
    let allowed = option_map list_view c.in_ok-allowed.allowed in
    let e = rw c.deref.ensures.value at c.in_err-charge_code.ensures.err in
    passes c.from_residual-in_err-charge_code.result c.in_err-charge_code.field-0.0 c.from_residual-in_err-charge_code.ensures.1
    (after_allowed texts allowed k c.in_ok-allowed.ensures.found
    (without_gas tally _ (store_code_cost c.args.costs.now (length code)) c.args.meter.now.left _ (λ _. stores c.args.sender.now code allowed) e.0 e.1 e.2))

pub returns-clause-leads : goal.returns-clause-leads
unfolding store_code
returns-clause-leads g c = λ tally.
    let code = c.args.code.items in
    let texts = option_map (λ list. map string_bytes list.items) c.args.allow.now in
    let k = λ (allowed : Option (List (List ℕ))). charge (store_code_cost c.args.costs.now (length code)) >>= λ _. stores c.args.sender.now code allowed in
    let allowed = option_map list_view c.in_ok-allowed.allowed in
    let e = rw c.deref.ensures.value at c.in_ok-charge_code.ensures.ok in
    after_allowed texts allowed k c.in_ok-allowed.ensures.found
    (after_charge (store_code_cost c.args.costs.now (length code)) c.args.meter.now.left _ (λ _. stores c.args.sender.now code allowed) e.0 e.1 (c.put_code.ensures.leads c.args.prefix.now tally _))
