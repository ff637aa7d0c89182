use Rattle.std.proofs.Common.{refl, List, map, string_bytes, option_map}
use Rattle.submsg_dispatch.specs.Parts.{charge, ◌>>=◌}
use Rattle.submsg_dispatch.specs.Messages.{store_code, pin_codes, unpin_codes}
use Rattle.submsg_dispatch.proofs.Refusing.{tx_sort}
use Rattle.submsg_dispatch.proofs.turns.handle_tx_msg.Goals as goal

pub returns-in-Cosmos-clause-leads : goal.returns-in-Cosmos-clause-leads
returns-in-Cosmos-clause-leads g c = tx_sort _ c.args.costs.now c.args.sender.now c.args.index _ _ c.in-Cosmos.is refl c.handle_under.ensures.leads

pub returns-in-StoreCode-clause-leads : goal.returns-in-StoreCode-clause-leads
returns-in-StoreCode-clause-leads g c = tx_sort _ c.args.costs.now c.args.sender.now c.args.index _ _ c.in-StoreCode.is refl (c.store_paid.ensures.leads _)

pub returns-in-Pin-clause-leads : goal.returns-in-Pin-clause-leads
returns-in-Pin-clause-leads g c =
    let does = rw c.deref.ensures.value at (c.pin_paid.ensures.leads c.args.prefix.now (g.M.Modules.tally c.args.modules.now)) in
    tx_sort _ c.args.costs.now c.args.sender.now c.args.index _ _ c.in-Pin.is refl does

pub returns-in-Unpin-clause-leads : goal.returns-in-Unpin-clause-leads
returns-in-Unpin-clause-leads g c =
    let does = rw c.deref-in-Unpin.ensures.value at (c.unpin_paid.ensures.leads c.args.prefix.now (g.M.Modules.tally c.args.modules.now)) in
    tx_sort _ c.args.costs.now c.args.sender.now c.args.index _ _ c.in-Unpin.is refl does

pub returns-in-Sudo-clause-leads : goal.returns-in-Sudo-clause-leads
returns-in-Sudo-clause-leads g c =
    let does = rw (c.deref-in-Sudo.ensures, c.deref-in-Sudo-2.ensures.value) at c.sudo_paid.ensures.leads in
    tx_sort _ c.args.costs.now c.args.sender.now c.args.index _ _ c.in-Sudo.is refl does
