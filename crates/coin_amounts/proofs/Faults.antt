-- Where reading a list of coins stops, and what is wrong there.
use Rattle.std.proofs.Common.{◌≡◌, ℕ, ◌<◌, Bool, true, false, cond, ◌||◌, unwrap_or, eqb, List, [], ◌∷◌, ◌++◌, length, map, fold, Option, Some, None, Result, Ok, Err, bytes_eq, is_ok, refl, sym, ap, ◌∙◌, subst, arith}
use Rattle.std.specs.Prelude.{Any, IsSomeAnd}
use Rattle.std.specs.Cmp.Lexicographic.{bytes_decides}
use Rattle.std.specs.List.{list_any}
use Rattle.std.proofs.lemmas.Bool.Decides.{Decides-eqb}
use Rattle.std.proofs.lemmas.List.{length-map}
use Rattle.std.proofs.lemmas.List.Folds.{fold_stays, Any-from_list_any}
use Rattle.coin_amounts.specs.declared.read.CoinsFault.{CoinsFault}
use Rattle.coin_amounts.specs.declared.read.CoinsFault.TheVariants.{DenomBad, AmountBad, AmountZero, DenomTwice}
use Rattle.coin_amounts.specs.Plain.{Coin, RawCoin}
use Rattle.coin_amounts.specs.Amount.{amount_of}
use Rattle.coin_amounts.specs.Denom.{is_denom, IsDenom}
use Rattle.coin_amounts.specs.Coins.{coin_with, coin_at, with_coin, with_next, coins_in_place, by_denom, coins_of, coin_of}
use Rattle.coin_amounts.specs.Fault.{IsWrong, IsFirstFault}
use Rattle.coin_amounts.proofs.Laws.{all_read, none_are_read, read_alone, IsRead}

-- where a fold over the list first meets a fault
record Stops (start : List Coin) (raws : List RawCoin) (fault : CoinsFault) : Type 0 where
  before : List RawCoin
  raw : RawCoin
  after : List RawCoin
  split : raws ≡ before ++ raw ∷ after
  coins : List Coin
  read : fold with_next (Ok start) before ≡ Ok coins
  stop : with_next (Ok coins) raw ≡ Err fault

stops : (start : List Coin) (raws : List RawCoin) (fault : CoinsFault) → fold with_next (Ok start) raws ≡ Err fault → Stops start raws fault
stops start [] fault is = cc
stops start (raw ∷ raws) fault is = goes (λ next rest. stops next raws fault rest) _ refl is
  where
    goes : ((next : List Coin) → fold with_next (Ok next) raws ≡ Err fault → Stops next raws fault) → (next : Result (List Coin) CoinsFault) → with_next (Ok start) raw ≡ next → fold with_next next raws ≡ Err fault → Stops start (raw ∷ raws) fault
    goes onward (Err other) step rest =
        let stays = fold_stays with_next (Err other) (λ raw. refl) raws in
        record { before = []; raw = raw; after = raws; split = refl; coins = start; read = refl; stop = step ∙ sym stays ∙ rest }
    goes onward (Ok next) step rest =
        let more = onward next rest in
        record {
          before = raw ∷ more.before;
          raw = more.raw;
          after = more.after;
          split = ap (λ l. raw ∷ l) more.split;
          coins = more.coins;
          read = ap (λ r. fold with_next r more.before) step ∙ more.read;
          stop = more.stop;
        }

-- a coin's own fault
no_amount : (before : List RawCoin) (raw : RawCoin) (place : ℕ) (fault : CoinsFault) (n : ℕ) (none : Bool) → place ≡ length before → IsDenom raw.denom → amount_of raw.amount ≡ Some n → eqb n 0 ≡ none → cond {A = Result Coin CoinsFault} none (Err (AmountZero place)) (Ok (record { denom = raw.denom; amount = n })) ≡ Err fault → IsWrong before raw fault
no_amount before raw place fault n false at named found some is = cc
no_amount before raw place fault n true at named found some is =
    let fault_is : AmountZero place ≡ fault = cc in
    subst (IsWrong before raw) fault_is (at, named, found ∙ ap Some ((Decides-eqb n 0).0 some))

bad_amount : (before : List RawCoin) (raw : RawCoin) (place : ℕ) (fault : CoinsFault) (found : Option ℕ) → place ≡ length before → IsDenom raw.denom → amount_of raw.amount ≡ found → coin_with place raw.denom found ≡ Err fault → IsWrong before raw fault
bad_amount before raw place fault None at named found is = subst (IsWrong before raw) (let fault_is : AmountBad place ≡ fault = cc in fault_is) (at, named, found)
bad_amount before raw place fault (Some n) at named found is = no_amount before raw place fault n _ at named found refl is

wrong_alone : (before : List RawCoin) (raw : RawCoin) (place : ℕ) (fault : CoinsFault) (named : Bool) → place ≡ length before → is_denom raw.denom ≡ named → cond named (coin_with place raw.denom (amount_of raw.amount)) (Err (DenomBad place)) ≡ Err fault → IsWrong before raw fault
wrong_alone before raw place fault false at named is = subst (IsWrong before raw) (let fault_is : DenomBad place ≡ fault = cc in fault_is) (at, named)
wrong_alone before raw place fault true at named is = bad_amount before raw place fault _ at named refl is

-- a denom that one of the coins has stands in the list
list_any-coin_of : (denom : List ℕ) (raws : List RawCoin) → list_any (λ other. bytes_eq denom other.denom) (map coin_of raws) ≡ list_any (λ other. bytes_eq denom other.denom) raws
list_any-coin_of denom [] = refl
list_any-coin_of denom (raw ∷ raws) = ap (λ b. bytes_eq denom raw.denom || b) (list_any-coin_of denom raws)

stands_before : (denom : List ℕ) (before : List RawCoin) → list_any (λ other. bytes_eq denom other.denom) (map coin_of before) ≡ true → Any (λ other. other.denom ≡ denom) before
stands_before denom before had =
    let any = Any-from_list_any (λ (other : RawCoin). bytes_eq denom other.denom) before (sym (list_any-coin_of denom before) ∙ had) in
    (any.0, any.1, any.2, any.3, sym ((bytes_decides denom any.1.denom).0 any.4))

positive_some : (found : Option ℕ) → 0 < unwrap_or found 0 → IsSomeAnd found (λ amount. 0 < amount)
positive_some None above = absurd (omega arith)
positive_some (Some n) above = above

wrong_twice : (before : List RawCoin) (raw : RawCoin) (place : ℕ) (coin : Coin) (coins next : List Coin) (fault : CoinsFault) (had : Bool) → place ≡ length before → coins ≡ map coin_of before → IsRead raw coin → list_any (λ other. bytes_eq coin.denom other.denom) coins ≡ had → cond had (Err (DenomTwice place)) (Ok next) ≡ Err fault → IsWrong before raw fault
wrong_twice before raw place coin coins next fault false at listed one had is = cc
wrong_twice before raw place coin coins next fault true at listed one had is =
    let denom_is : coin.denom ≡ raw.denom = ap (λ (c : Coin). c.denom) one.same in
    let amount_is : coin.amount ≡ unwrap_or (amount_of raw.amount) 0 = ap (λ (c : Coin). c.amount) one.same in
    let there = stands_before coin.denom before (sym (ap (list_any (λ (other : Coin). bytes_eq coin.denom other.denom)) listed) ∙ had) in
    let fault_is : DenomTwice place ≡ fault = cc in
    subst (IsWrong before raw) fault_is (
      at,
      subst IsDenom denom_is one.denom,
      positive_some (amount_of raw.amount) (subst (λ n. 0 < n) amount_is one.positive),
      subst (λ d. Any (λ other. other.denom ≡ d) before) denom_is there,
    )

wrong_next : (before : List RawCoin) (raw : RawCoin) (coins : List Coin) (fault : CoinsFault) (next : Result Coin CoinsFault) → coins ≡ map coin_of before → coin_at (length coins) raw ≡ next → with_coin coins next ≡ Err fault → IsWrong before raw fault
wrong_next before raw coins fault (Err other) listed found is =
    let other_is : other ≡ fault = cc in
    wrong_alone before raw (length coins) fault _ (ap length listed ∙ length-map before coin_of) refl (found ∙ ap Err other_is)
wrong_next before raw coins fault (Ok coin) listed found is =
    wrong_twice before raw (length coins) coin coins (coins ++ coin ∷ []) fault _ (ap length listed ∙ length-map before coin_of) listed (read_alone (length coins) raw coin found) refl is

err_in_place : (read : Result (List Coin) CoinsFault) (fault : CoinsFault) → by_denom read ≡ Err fault → read ≡ Err fault
err_in_place (Ok coins) fault is = cc
err_in_place (Err other) fault is = let other_is : other ≡ fault = cc in ap Err other_is

pub first_fault : (raws : List RawCoin) (fault : CoinsFault) → coins_of raws ≡ Err fault → IsFirstFault raws fault
first_fault raws fault is =
    let stop = stops [] raws fault (err_in_place (coins_in_place raws) fault is) in
    let listed = (all_read [] stop.before stop.coins none_are_read stop.read).same in
    record {
      before = stop.before;
      raw = stop.raw;
      after = stop.after;
      split = stop.split;
      read = ap is_ok (ap by_denom stop.read);
      wrong = wrong_next stop.before stop.raw stop.coins fault _ listed refl stop.stop;
    }
