use Rattle.std.proofs.Common.{◌≡◌, ℕ, List, ◌∷◌, ◌++◌, ◌+◌, Some, map, drop, refl, sym, ap, ◌∙◌}
use Rattle.std.proofs.lemmas.List.{drop_all}
use Rattle.coin_amounts.specs.Coins.{coins_view}
use Rattle.coin_amounts.specs.Plain.{coin_view}
use Rattle.bank_ledger.specs.Accounts.{balance}
use Rattle.bank_ledger.specs.Steps.{amounts_left}
use Rattle.bank_ledger.proofs.Paying.{short_here, enough_here, no_shortfall, left_more, left_all, coins_from}
use Rattle.bank_ledger.proofs.shortfall.amounts_left.Goals as goal

pub loop-coin-init : goal.loop-coin-init
loop-coin-init g c = record {
  short = λ m s stands spelled. refl;
  listed = λ m s stands spelled. ap (λ (done : List ℕ). done ++ amounts_left (balance s) c.args.from.now (coins_view c.args.coins.now)) c.in_ok-left.ensures.items;
}

pub returns-then-have-coin-clause-stop : goal.returns-then-have-coin-clause-stop
returns-then-have-coin-clause-stop g c = λ m s stands spelled.
    let items = c.args.coins.now.list.items in
    let coin = coin_view c.coin-item.result in
    let rest = map coin_view (drop (c.loop-coin.coin-index + 1) items) in
    let is = rw c.deref-coin-items.ensures.value at c.coin-item.is in
    let within = rw c.deref-coin-items.ensures.value at c.loop-coin-test.true in
    let splits : map coin_view (drop c.loop-coin.coin-index items) ≡ coin ∷ rest = coins_from items c.loop-coin.coin-index c.coin-item.result within is in
    let have = rw c.as_str.ensures.value at (c.in_ok-have.ensures m s stands spelled) in
    sym (rw splits at (c.loop-coin.invariant.short m s stands spelled)) ∙ short_here (balance s) c.args.from.now coin rest c.in_ok-have.have have c.if-have-coin.true
    ∙ ap (λ (d : List ℕ). Some (record { denom = d; have = c.in_ok-have.have; want = coin.amount })) (sym c.in_ok-clone.ensures.cases)

pub loop-coin-preserved : goal.loop-coin-preserved
loop-coin-preserved g c =
    let items = c.args.coins.now.list.items in
    let from = c.args.from.now in
    let coin = coin_view c.coin-item.result in
    let rest = map coin_view (drop (c.loop-coin.coin-index + 1) items) in
    let is = rw c.deref-coin-items.ensures.value at c.coin-item.is in
    let within = rw c.deref-coin-items.ensures.value at c.loop-coin-test.true in
    let splits : map coin_view (drop c.loop-coin.coin-index items) ≡ coin ∷ rest = coins_from items c.loop-coin.coin-index c.coin-item.result within is in
    record {
      short = λ m s stands spelled.
          let have = rw c.as_str.ensures.value at (c.in_ok-have.ensures m s stands spelled) in
          sym (enough_here (balance s) from coin rest c.in_ok-have.have have c.if-have-coin.false) ∙ rw splits at (c.loop-coin.invariant.short m s stands spelled);
      listed = λ m s stands spelled.
          let have = rw c.as_str.ensures.value at (c.in_ok-have.ensures m s stands spelled) in
          left_more (balance s) from coin rest c.loop-coin.left.items c.push.new.self.items (amounts_left (balance s) from (coins_view c.args.coins.now)) c.in_ok-have.have have c.in_ok-push.ensures.items (rw splits at (c.loop-coin.invariant.listed m s stands spelled));
    }

pub returns-clause-enough : goal.returns-clause-enough
returns-clause-enough g c = λ m s stands spelled.
    let items = c.args.coins.now.list.items in
    let past = rw c.deref-coin-items.ensures.value at c.loop-coin-test.false in
    sym (c.loop-coin.invariant.short m s stands spelled) ∙ no_shortfall (balance s) c.args.from.now (map coin_view (drop c.loop-coin.coin-index items)) (ap (map coin_view) (drop_all c.loop-coin.coin-index items past))

pub returns-clause-left : goal.returns-clause-left
returns-clause-left g c = λ m s stands spelled.
    let items = c.args.coins.now.list.items in
    let past = rw c.deref-coin-items.ensures.value at c.loop-coin-test.false in
    left_all (balance s) c.args.from.now (map coin_view (drop c.loop-coin.coin-index items)) c.loop-coin.left.items (amounts_left (balance s) c.args.from.now (coins_view c.args.coins.now)) (ap (map coin_view) (drop_all c.loop-coin.coin-index items past))
    (c.loop-coin.invariant.listed m s stands spelled)
