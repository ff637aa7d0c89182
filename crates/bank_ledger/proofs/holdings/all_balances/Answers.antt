use Rattle.std.proofs.Common.{◌≡◌, ℕ, List, [], ◌∷◌, ◌++◌, map, Some, None, sym, ap, ◌∙◌, subst, arith}
use Rattle.std.proofs.lemmas.List.{map-append}
use Rattle.std.specs.FinMap.{entries}
use Rattle.coin_amounts.specs.Plain.{Coin, coin_view}
use Rattle.coin_amounts.specs.Order.{IsRising, IsPositive}
use Rattle.chain_records.specs.Keys.{PlainKey, key_bytes}
use Rattle.chain_records.specs.Keys as keys
use Rattle.chain_records.specs.State.{Bytes, State, Spells}
use Rattle.bank_ledger.specs.Lawful.{HasLawfulAmounts}
use Rattle.bank_ledger.specs.Steps.{IsNextHeld}
use Rattle.bank_ledger.proofs.Holding.{rest_of, all_left, held_next, held_none, held_is_rising, held_is_positive, next_place, end_place}
use Rattle.bank_ledger.proofs.Room.{room_falls, are_bytes, bytes_joined, denom_bytes}
use Rattle.bank_ledger.proofs.holdings.all_balances.Goals as goal

pub coins-init : goal.coins-init
coins-init g c =
    let lo : c.in_ok-lo.lo.items ≡ key_bytes (keys.balance c.args.addr.now []) = sym c.in_ok-lo.ensures.same ∙ ap key_bytes c.in_ok-balance_key.ensures.key in
    record {
      hi = c.in_ok-push.ensures.items ∙ ap (λ (k : List ℕ). k ++ 255 ∷ []) (c.in_ok-hi.ensures.items_if_clones_equal (λ x y e. e) ∙ c.deref.ensures.value ∙ lo) ∙ end_place c.args.addr.now;
      lo = ([], tt, lo, λ m s stands spelled lawful. all_left c.args.addr.now s ∙ ap (λ items. map coin_view items ++ rest_of c.args.addr.now [] (entries s.balances)) (sym c.new-list.ensures.items));
    }

pub coins-smaller : goal.coins-smaller
coins-smaller g c =
    let t = c.requires.lawful in
    let addr = c.args.addr.now in
    let at = c.coins.invariant.lo in
    let coin = coin_view c.in-Some.coin in
    let next : IsNextHeld t.state addr at.0 (Some (c.in-Some.key.items, coin)) = rw c.in-Some.is at (c.in_ok-key.ensures at.0 (rw c.deref-in-coins.ensures.value at.2) t.map t.state t.stands t.spelled t.holds) in
    room_falls addr at.0 coin.denom c.coins.lo.items c.push-in-Some-2.new.self.items c.requires.address (are_bytes addr (λ i. omega (arith, c.type_inv.addr i))) at.1 next.3 next.1 at.2 (c.in_ok-push-3.ensures.items ∙ next_place addr coin.denom c.in-Some.key.items next.0)

pub coins-preserved : goal.coins-preserved
coins-preserved g c =
    let t = c.requires.lawful in
    let addr = c.args.addr.now in
    let at = c.coins.invariant.lo in
    let coin = coin_view c.in-Some.coin in
    let next = λ (m : Bytes) (s : State) (stands : g.B.Base.stands_for c.args.view.now m) (spelled : Spells m s) (lawful : HasLawfulAmounts s).
    let n : IsNextHeld s addr at.0 (Some (c.in-Some.key.items, coin)) = rw c.in-Some.is at (c.in_ok-key.ensures at.0 (rw c.deref-in-coins.ensures.value at.2) m s stands spelled lawful) in n in
    let first = next t.map t.state t.stands t.spelled t.holds in
    let pushed : map coin_view c.push-in-Some.new.self.items ≡ map coin_view c.coins.list.items ++ coin ∷ [] = ap (map coin_view) c.in_ok-push-2.ensures.items ∙ map-append coin_view c.coins.list.items (c.in-Some.coin ∷ []) in
    record {
      hi = c.coins.invariant.hi;
      lo = (
        coin.denom ++ 0 ∷ [],
        bytes_joined coin.denom (0 ∷ []) (denom_bytes coin.denom first.3) (omega arith, tt),
        c.in_ok-push-3.ensures.items ∙ next_place addr coin.denom c.in-Some.key.items first.0,
        λ m s stands spelled lawful.
            held_next s addr at.0 c.in-Some.key.items (map coin_view c.coins.list.items) coin (next m s stands spelled lawful) (at.3 m s stands spelled lawful)
            ∙ ap (λ (done : List Coin). done ++ rest_of addr (coin.denom ++ 0 ∷ []) (entries s.balances)) (sym pushed),
      );
    }

pub invariant_of-result : goal.invariant_of-result
invariant_of-result g c =
    let t = c.requires.lawful in
    let addr = c.args.addr.now in
    let at = c.coins.invariant.lo in
    let last : IsNextHeld t.state addr at.0 None = rw c.in_default.is at (c.in_ok-key.ensures at.0 (rw c.deref-in-coins.ensures.value at.2) t.map t.state t.stands t.spelled t.holds) in
    let all = held_none t.state addr at.0 (map coin_view c.coins.list.items) last (at.3 t.map t.state t.stands t.spelled t.holds) in
    record { rising = subst IsRising all (held_is_rising t.state addr); positive = subst IsPositive all (held_is_positive t.state addr t.holds) }

pub returns : goal.returns
returns g c = λ m s stands spelled lawful.
    let addr = c.args.addr.now in
    let at = c.coins.invariant.lo in
    let last : IsNextHeld s addr at.0 None = rw c.in_default.is at (c.in_ok-key.ensures at.0 (rw c.deref-in-coins.ensures.value at.2) m s stands spelled lawful) in
    sym (held_none s addr at.0 (map coin_view c.coins.list.items) last (at.3 m s stands spelled lawful))
