use Rattle.std.proofs.Common.{List, ℕ, None}
use Rattle.submsg_dispatch.specs.Messages.{drop_admin}
use Rattle.submsg_dispatch.specs.Under.{admin_put}
use Rattle.submsg_dispatch.proofs.Leading.{passes, after_address, no_address}
use Rattle.submsg_dispatch.proofs.admins.drop_admin.Goals as goal

pub returns-in_err-addr-clause-leads : goal.returns-in_err-addr-clause-leads
unfolding drop_admin
returns-in_err-addr-clause-leads g c = λ tally left.
    passes c.from_residual.result c.in_err-addr.field-0.0 c.from_residual.ensures.1 (no_address tally _ c.args.contract.now (λ (addr : List ℕ). admin_put c.args.sender.now addr None) c.in_err-addr.ensures.found)

pub returns-clause-leads : goal.returns-clause-leads
unfolding drop_admin
returns-clause-leads g c = λ tally left.
    let does = rw c.deref.ensures.value at (c.put_admin.ensures.leads tally left) in
    after_address c.args.contract.now c.in_ok-addr.addr.items (λ (addr : List ℕ). admin_put c.args.sender.now addr None) c.in_ok-addr.ensures.found does
