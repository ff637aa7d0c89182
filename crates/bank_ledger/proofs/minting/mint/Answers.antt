use Rattle.std.proofs.Common.{refl, arith}
use Rattle.chain_records.specs.Keys.{plain_key}
use Rattle.bank_ledger.proofs.Mints.{room, minted_by}
use Rattle.bank_ledger.proofs.minting.mint.Goals as goal

pub overflow_add-have : goal.overflow_add-have
overflow_add-have c =
    let whole = c.requires.lawful in
    let have = c.in_ok-have.ensures c.args.plain.now whole.state refl whole.spelled in
    let total = c.in_ok-supply.ensures c.args.plain.now whole.state refl whole.spelled in
    omega (arith, room whole.state c.args.to.now c.args.denom.now c.in_ok-have.have c.args.amount c.in-Some.total whole.lawful have (omega (arith, total, c.in-Some.ensures.0)) (omega (arith, c.in-Some.ensures.1)))

pub returns-clause-minted : goal.returns-clause-minted
returns-clause-minted c = λ done s spelled lawful.
    let have = c.in_ok-have.ensures c.args.plain.now s refl spelled in
    let total = c.in_ok-supply.ensures c.args.plain.now s refl spelled in
    minted_by c.args.plain.now c.put_amount.new.plain c.put_amount-2.new.plain s (plain_key c.in_ok-account.account) (plain_key c.in_ok-whole.whole) c.args.to.now c.args.denom.now c.in_ok-have.have c.args.amount c.in-Some.total c.in_ok-account.ensures.key
    c.in_ok-whole.ensures.key have (omega (arith, total, c.in-Some.ensures.0)) (omega (arith, c.in-Some.ensures.1)) c.in_ok-put_amount.ensures c.in_ok-put_amount-2.ensures c.requires.to c.requires.denom spelled lawful

pub returns-clause-lawful : goal.returns-clause-lawful
returns-clause-lawful c =
    let records = c.requires.lawful in
    let have = c.in_ok-have.ensures c.args.plain.now records.state refl records.spelled in
    let total = c.in_ok-supply.ensures c.args.plain.now records.state refl records.spelled in
    let t =
    minted_by c.args.plain.now c.put_amount.new.plain c.put_amount-2.new.plain records.state (plain_key c.in_ok-account.account) (plain_key c.in_ok-whole.whole) c.args.to.now c.args.denom.now c.in_ok-have.have c.args.amount c.in-Some.total c.in_ok-account.ensures.key
    c.in_ok-whole.ensures.key have (omega (arith, total, c.in-Some.ensures.0)) (omega (arith, c.in-Some.ensures.1)) c.in_ok-put_amount.ensures c.in_ok-put_amount-2.ensures c.requires.to c.requires.denom records.spelled records.lawful in
    record { state = t.0; spelled = t.1; lawful = t.2.lawful }
