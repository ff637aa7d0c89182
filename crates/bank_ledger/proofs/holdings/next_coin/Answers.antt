use Rattle.coin_amounts.specs.Plain.{coin_view}
use Rattle.bank_ledger.proofs.NextCoin.{next_none, next_some, a_balance}
use Rattle.bank_ledger.proofs.holdings.next_coin.Goals as goal

pub coin_at-requires : goal.coin_at-requires
coin_at-requires g c =
    let t = c.requires.lawful in
    let next = rw c.in-Some.is at (c.in_ok-key.ensures t.map t.stands) in
    let found = a_balance t.map t.state t.spelled t.holds c.args.addr.now c.requires.from.0 c.args.lo.now c.args.hi.now c.requires.from.1 c.requires.to c.in-Some.key.items c.in-Some.bytes.items next c.maps_give_records.ensures in
    (found.0, rw (c.deref.ensures.value, c.deref-in-Some.ensures.value) found.1)

pub returns-in_ok-coin-in-Some : goal.returns-in_ok-coin-in-Some
returns-in_ok-coin-in-Some g c = λ from is_lo map s stands spelled lawful.
    let next = rw c.in-Some.is at (c.in_ok-key.ensures map stands) in
    let is = rw (c.deref.ensures.value, c.deref-in-Some.ensures.value) at c.in_ok-coin-in-Some.ensures in
    next_some map s spelled lawful c.args.addr.now from c.args.lo.now c.args.hi.now is_lo c.requires.to c.in-Some.key.items c.in-Some.bytes.items next c.maps_give_records.ensures c.bytes_tell_records.ensures (coin_view c.in_ok-coin-in-Some.coin) is

pub returns-in-None : goal.returns-in-None
returns-in-None g c = λ from is_lo map s stands spelled lawful.
    let next = rw c.in-None.is at (c.in_ok-key.ensures map stands) in
    next_none map s spelled lawful c.args.addr.now from c.args.lo.now c.args.hi.now is_lo c.requires.to next
