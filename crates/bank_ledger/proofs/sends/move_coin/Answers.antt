use Rattle.chain_records.specs.Keys.{plain_key}
use Rattle.coin_amounts.specs.Plain.{coin_view}
use Rattle.bank_ledger.proofs.Writing.{Writes-sent, can_give}
use Rattle.bank_ledger.proofs.sends.move_coin.Goals as goal

pub raise-requires-clause-room : goal.raise-requires-clause-room
raise-requires-clause-room g c =
    can_give g.B.Base.stands_for c.args.layers.now c.set_amount.new.layers (plain_key c.in_ok-source.source) (plain_key c.in_ok-target.target) c.args.from.now c.args.to.now (coin_view c.args.coin.now) c.args.left
    (rw c.as_str.ensures.value at c.in_ok-source.ensures.key) (rw c.as_str-2.ensures.value at c.in_ok-target.ensures.key) c.in_ok-set_amount.ensures.ok c.requires.can

pub returns-clause-ok : goal.returns-clause-ok
returns-clause-ok g c =
    Writes-sent g.B.Base.stands_for c.args.layers.now c.set_amount.new.layers c.raise.new.layers (plain_key c.in_ok-source.source) (plain_key c.in_ok-target.target) c.args.from.now c.args.to.now (coin_view c.args.coin.now) c.args.left
    (rw c.as_str.ensures.value at c.in_ok-source.ensures.key) (rw c.as_str-2.ensures.value at c.in_ok-target.ensures.key) c.in_ok-set_amount.ensures.ok c.in_ok-raise.ensures.ok
