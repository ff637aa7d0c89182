use Rattle.std.proofs.Common.{◌∙◌}
use Rattle.chain_records.specs.Records.{plain_contract}
use Rattle.chain_msgs.specs.Plain.{out_view}
use Rattle.submsg_dispatch.specs.Failures.{address_taken}
use Rattle.submsg_dispatch.specs.Under.{bytes_view}
use Rattle.submsg_dispatch.proofs.Leading.{fails_from}
use Rattle.submsg_dispatch.proofs.Making.{address_seen, address_stops, address_taken_seen}
use Rattle.submsg_dispatch.proofs.creation.free_address.Goals as goal

pub returns-in-Err-clause-leads : goal.returns-in-Err-clause-leads
returns-in-Err-clause-leads g c = λ tally left.
    let each = rw c.deref.ensures.value at c.in-Err.ensures.stop in
    address_stops (plain_contract c.args.contract.now) (out_view c.args.salt.now) c.in-Err.stop c.contract_stop.result each c.contract_stop.ensures

pub returns-in-None-clause-leads : goal.returns-in-None-clause-leads
returns-in-None-clause-leads g c = λ tally left.
    let makes = rw c.deref.ensures.value at c.in_default.ensures.ok in
    let free = rw c.deref-2.ensures.value at (rw c.in-None.is at c.in_ok-find.ensures) in
    let copied = c.in_ok-addr.ensures.items_if_clones_equal (λ x y e. e) in
    address_seen {view = bytes_view} (plain_contract c.args.contract.now) (out_view c.args.salt.now) c.in_ok-addr.addr makes (λ map s stands spelled some. copied ∙ c.in_ok-new_address.ensures map s stands spelled some) free

pub returns-in-Some-clause-leads : goal.returns-in-Some-clause-leads
returns-in-Some-clause-leads g c = λ tally left.
    let makes = rw c.deref.ensures.value at c.in_default.ensures.ok in
    let takes = rw c.deref-2.ensures.value at (rw c.in-Some.is at c.in_ok-find.ensures) in
    let copied = c.in_ok-addr.ensures.items_if_clones_equal (λ x y e. e) in
    address_taken_seen (plain_contract c.args.contract.now) _ (out_view c.args.salt.now) c.in_ok-addr.addr.items c.stop_of.result makes (λ map s stands spelled some. copied ∙ c.in_ok-new_address.ensures map s stands spelled some) takes
    (fails_from c.stop_of.result c.address_taken.result address_taken c.stop_of.ensures c.address_taken.ensures)
