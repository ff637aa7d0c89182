use Rattle.gas_store.specs.Views.{scan_view}
use Rattle.gas_store.proofs.Nexts.{storage_none, storage_some}
use Rattle.gas_store.proofs.scans.next_entry.Goals as goal

pub returns-in-Some : goal.returns-in-Some
returns-in-Some g c = λ map stands.
    let next = rw (c.in-Some.is, c.deref.ensures.value, c.in_ok-lo.ensures, c.lo.ensures, c.deref-2.ensures.value, c.in_ok-hi.ensures, c.hi.ensures) at (c.in_ok-place.ensures map stands) in
    storage_some map c.args.prefix.now c.requires.own (scan_view c.args.scan.now) c.in-Some.place.items c.in_ok-key-in-Some.key.items c.in-Some.value.items (rw c.deref-in-Some.ensures.value at c.in_ok-key-in-Some.ensures) next

pub returns : goal.returns
returns g c = λ map stands.
    let next = rw (c.in-None.is, c.deref.ensures.value, c.in_ok-lo.ensures, c.lo.ensures, c.deref-2.ensures.value, c.in_ok-hi.ensures, c.hi.ensures) at (c.in_ok-place.ensures map stands) in
    storage_none map c.args.prefix.now c.requires.own (scan_view c.args.scan.now) next
