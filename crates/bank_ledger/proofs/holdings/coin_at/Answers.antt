use Rattle.std.proofs.Common.{sym, subst}
use Rattle.chain_records.specs.Keys.{PlainKey, plain_key}
use Rattle.chain_records.specs.Keys as keys
use Rattle.chain_records.specs.Records.{amount, IsRecordUnder}
use Rattle.bank_ledger.proofs.holdings.coin_at.Goals as goal

pub amount_of-requires : goal.amount_of-requires
amount_of-requires c =
    let coin = c.requires.0 in
    let is = c.requires.1 in
    let same = c.bytes_tell_keys.ensures c.args.place.now (keys.balance is.addr coin.denom) (plain_key c.in-Ok.key) is.key c.in-Ok.ensures.ok in
    (coin.amount, subst (λ (k : PlainKey). IsRecordUnder k c.args.bytes.now (amount coin.amount)) same is.amount)

pub denom_of-requires : goal.denom_of-requires
denom_of-requires c =
    let coin = c.requires.0 in
    let is = c.requires.1 in
    let same = c.bytes_tell_keys.ensures c.args.place.now (keys.balance is.addr coin.denom) (plain_key c.in-Ok.key) is.key c.in-Ok.ensures.ok in
    (is.addr, coin.denom, sym same)
