use Rattle.code_registry.proofs.NextPin.{found_pin, next_some, next_none}
use Rattle.code_registry.proofs.pins.next_pin.Goals as goal

pub id_of-requires : goal.id_of-requires
id_of-requires g c =
    let t = c.requires.typed in
    let next = rw c.in-Some.is at (c.in_ok-key.ensures t.map t.stands) in
    let order = c.keys_keep_their_order.ensures in
    rw c.deref.ensures.value (found_pin order.pins order.kinds t.map t.state t.spelled c.args.lo.now c.args.hi.now c.requires.from.0 c.requires.from.1 c.requires.to c.in-Some.key.items c.in-Some._mark.items next)

pub returns-in_ok-id-in-Some : goal.returns-in_ok-id-in-Some
returns-in_ok-id-in-Some g c = λ from place map s stands spelled.
    let next = rw c.in-Some.is at (c.in_ok-key.ensures map stands) in
    let order = c.keys_keep_their_order.ensures in
    let is = rw c.deref.ensures.value at c.in_ok-id-in-Some.ensures in
    next_some order.pins order.kinds map s spelled c.args.lo.now c.args.hi.now from place c.requires.to c.in-Some.key.items c.in-Some._mark.items next c.in_ok-id-in-Some.id is

pub returns-in-None : goal.returns-in-None
returns-in-None g c = λ from place map s stands spelled.
    let order = c.keys_keep_their_order.ensures in
    next_none order.pins order.kinds map s spelled c.args.lo.now c.args.hi.now from place c.requires.to (rw c.in-None.is at (c.in_ok-key.ensures map stands))
