use Rattle.chain_records.specs.Keys.{plain_key}
use Rattle.coin_amounts.specs.Plain.{coin_view}
use Rattle.bank_ledger.proofs.Writing.{Writes-burned, can_drain}
use Rattle.bank_ledger.proofs.burns.burn_coin.Goals as goal

pub lower-requires-clause-enough : goal.lower-requires-clause-enough
lower-requires-clause-enough g c =
    can_drain g.B.Base.stands_for c.args.layers.now c.set_amount.new.layers (plain_key c.in_ok-source.source) (plain_key c.in_ok-supply.supply) c.args.from.now (coin_view c.args.coin.now) c.args.left
    (rw c.as_str.ensures.value at c.in_ok-source.ensures.key) (rw c.as_str-2.ensures.value at c.in_ok-supply.ensures.key) c.in_ok-set_amount.ensures.ok c.requires.can

pub returns-clause-ok : goal.returns-clause-ok
returns-clause-ok g c =
    Writes-burned g.B.Base.stands_for c.args.layers.now c.set_amount.new.layers c.lower.new.layers (plain_key c.in_ok-source.source) (plain_key c.in_ok-supply.supply) c.args.from.now (coin_view c.args.coin.now) c.args.left
    (rw c.as_str.ensures.value at c.in_ok-source.ensures.key) (rw c.as_str-2.ensures.value at c.in_ok-supply.ensures.key) c.in_ok-set_amount.ensures.ok c.in_ok-lower.ensures.ok
