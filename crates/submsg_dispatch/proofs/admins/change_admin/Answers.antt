use Rattle.std.proofs.Common.{List, ℕ, [], Some}
use Rattle.chain_records.specs.State.{State}
use Rattle.contract_admin.specs.Administration.{with_admin}
use Rattle.submsg_dispatch.specs.Parts.{done, becomes, ◌>>=◌}
use Rattle.submsg_dispatch.specs.Messages.{address_in, may_change, only_events, change_admin}
use Rattle.submsg_dispatch.proofs.Leading.{passes, after_address, no_address}
use Rattle.submsg_dispatch.proofs.Changing.{next_admin, no_next_admin}
use Rattle.submsg_dispatch.proofs.admins.change_admin.Goals as goal

pub returns-in_err-addr-clause-leads : goal.returns-in_err-addr-clause-leads
unfolding change_admin
returns-in_err-addr-clause-leads g c = λ tally left.
    let sender = c.args.sender.now in
    let k = λ (addr : List ℕ). may_change sender addr >>= λ _. address_in c.args.admin.now >>= λ (n : List ℕ). becomes (λ (s : State). with_admin s addr (Some n)) >>= λ _. done (only_events []) in
    passes c.from_residual.result c.in_err-addr.field-0.0 c.from_residual.ensures.1 (no_address tally _ c.args.contract.now k c.in_err-addr.ensures.found)

pub returns-in-Ok-clause-leads : goal.returns-in-Ok-clause-leads
unfolding change_admin
returns-in-Ok-clause-leads g c = λ tally left.
    let sender = c.args.sender.now in
    let addr : List ℕ = c.in_ok-addr.addr.items in
    let k = λ (addr : List ℕ). may_change sender addr >>= λ _. address_in c.args.admin.now >>= λ (n : List ℕ). becomes (λ (s : State). with_admin s addr (Some n)) >>= λ _. done (only_events []) in
    let does = rw (c.deref.ensures.value, c.deref-in-Ok.ensures.value) at (c.put_admin.ensures.leads tally left) in
    after_address c.args.contract.now addr k c.in_ok-addr.ensures.found (next_admin sender addr c.args.admin.now c.in-Ok.next.items c.in-Ok.ensures.found does)

pub returns-clause-leads : goal.returns-clause-leads
unfolding change_admin
returns-clause-leads g c = λ tally left.
    let sender = c.args.sender.now in
    let addr : List ℕ = c.in_ok-addr.addr.items in
    let k = λ (addr : List ℕ). may_change sender addr >>= λ _. address_in c.args.admin.now >>= λ (n : List ℕ). becomes (λ (s : State). with_admin s addr (Some n)) >>= λ _. done (only_events []) in
    let first = rw c.deref-in-Err.ensures.value at c.unless_refused.ensures in
    after_address c.args.contract.now addr k c.in_ok-addr.ensures.found
    (no_next_admin tally c.in-Err.stop c.unless_refused.result sender addr c.args.admin.now (λ (n : List ℕ). becomes (λ (s : State). with_admin s addr (Some n)) >>= λ _. done (only_events [])) first c.in-Err.ensures.found)
