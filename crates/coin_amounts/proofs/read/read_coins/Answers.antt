use Rattle.std.proofs.Common.{◌≡◌, map, length, sym, ap, ◌∙◌, arith, is_some}
use Rattle.std.proofs.lemmas.List.{length-map}
use Rattle.std.proofs.lemmas.Result.{err_from_is_err_and}
use Rattle.coin_amounts.specs.Plain.{raw_coin_view}
use Rattle.coin_amounts.proofs.Laws.{read_are_lawful}
use Rattle.coin_amounts.proofs.Reading.{raw_at, length-raw, none_from, faults_alone, faults_twice, reads_more, listed_all}
use Rattle.coin_amounts.proofs.read.read_coins.Goals as goal

-- the coin at this place can't be read
pub returns-in_err-coin-clause-err : goal.returns-in_err-coin-clause-err
returns-in_err-coin-clause-err c =
    let p = err_from_is_err_and c.from_residual.result c.from_residual.ensures.1 in
    let alone = faults_alone c.args.list.now c.loop-place.place _ c.loop-place.invariant c.index-list-place.result c.loop-place-test.true c.index-list-place.is c.in_err-coin.field-0.0 c.in_err-coin.ensures.err in
    rw (p.1, p.2) alone.of_list

pub returns-in_err-coin-clause-refused : goal.returns-in_err-coin-clause-refused
returns-in_err-coin-clause-refused c =
    let p = err_from_is_err_and c.from_residual.result c.from_residual.ensures.1 in
    let alone = faults_alone c.args.list.now c.loop-place.place _ c.loop-place.invariant c.index-list-place.result c.loop-place-test.true c.index-list-place.is c.in_err-coin.field-0.0 c.in_err-coin.ensures.err in
    rw (p.1, p.2) alone.refuses

-- the map has its denom
pub returns-then-is_some-clause-err : goal.returns-then-is_some-clause-err
returns-then-is_some-clause-err c =
    let had = sym (ap is_some c.in_ok-insert.ensures.old) ∙ sym c.is_some.ensures ∙ c.if-is_some.true in
    (faults_twice c.args.list.now c.loop-place.place _ c.loop-place.invariant c.index-list-place.result c.loop-place-test.true c.index-list-place.is c.in_ok-coin.coin.denom c.in_ok-coin.coin.amount c.in_ok-coin.ensures.ok had).of_list

pub returns-then-is_some-clause-refused : goal.returns-then-is_some-clause-refused
returns-then-is_some-clause-refused c =
    let had = sym (ap is_some c.in_ok-insert.ensures.old) ∙ sym c.is_some.ensures ∙ c.if-is_some.true in
    (faults_twice c.args.list.now c.loop-place.place _ c.loop-place.invariant c.index-list-place.result c.loop-place-test.true c.index-list-place.is c.in_ok-coin.coin.denom c.in_ok-coin.coin.amount c.in_ok-coin.ensures.ok had).refuses

-- the coin was read, and its denom is new
pub loop-place-preserved : goal.loop-place-preserved
loop-place-preserved c =
    let list = c.args.list.now in
    let place = c.loop-place.place in
    let coin = c.in_ok-coin.coin in
    let here = raw_at list place c.index-list-place.result c.loop-place-test.true c.index-list-place.is in
    let new = sym c.in_ok-insert.ensures.old ∙ none_from c.in_ok-insert.field-0 (sym c.is_some.ensures ∙ c.if-is_some.false) in
    reads_more (map raw_coin_view list) place _ c.loop-place.invariant _ (length-raw list place c.loop-place-test.true) here coin.denom coin.amount _ c.in_ok-coin.ensures.ok new c.in_ok-insert.ensures.entries

-- the coins that were read are in order and above 0
pub invariant_of-result : goal.invariant_of-result
invariant_of-result c =
    let raws = map raw_coin_view c.args.list.now in
    let at_end : c.loop-place.place ≡ length raws = rw length-map (omega arith) in
    let is = listed_all raws c.loop-place.place _ c.in_ok-list.list.items c.loop-place.invariant at_end c.in_ok-list.ensures in
    let lawful = read_are_lawful raws _ is in
    record { rising = lawful.rising; positive = lawful.positive }

pub returns-clause-ok : goal.returns-clause-ok
returns-clause-ok c =
    let raws = map raw_coin_view c.args.list.now in
    let at_end : c.loop-place.place ≡ length raws = rw length-map (omega arith) in
    listed_all raws c.loop-place.place _ c.in_ok-list.list.items c.loop-place.invariant at_end c.in_ok-list.ensures
