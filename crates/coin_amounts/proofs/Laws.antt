-- What coins that were read are.
use Rattle.std.proofs.Common.{◌≡◌, ℕ, zero, suc, ◌<◌, ◌^◌, Bool, true, false, cond, eqb, ltb, ◌&&◌, List, [], ◌∷◌, ◌++◌, length, map, fold, All, Option, Some, None, Result, Ok, Err, unwrap_or, bytes_eq, refl, sym, ap, ◌∙◌, subst, append_assoc, append-nil, arith, IsPermutation}
use Rattle.std.specs.Char.{is_ascii_digit}
use Rattle.std.specs.List.{list_any, list_all}
use Rattle.std.specs.List.Sorted.{IsStrictlySortedBy}
use Rattle.std.specs.Str.Parse.{digits_value}
use Rattle.std.proofs.lemmas.Bool.Decides.{Decides-ltb}
use Rattle.std.proofs.lemmas.List.Sums.{fold_push}
use Rattle.std.proofs.lemmas.List.Folds.{fold_stays}
use Rattle.std.proofs.lemmas.List.Elements.{All-nil, All-push}
use Rattle.std.proofs.lemmas.List.Sorted.{All-permutation, list_any-IsPermutation}
use Rattle.coin_amounts.specs.declared.read.CoinsFault.{CoinsFault}
use Rattle.coin_amounts.specs.declared.read.CoinsFault.TheVariants.{DenomBad, AmountZero, DenomTwice}
use Rattle.coin_amounts.specs.Plain.{Coin, RawCoin}
use Rattle.coin_amounts.specs.Order.{IsRising, IsPositive}
use Rattle.coin_amounts.specs.Amount.{amount_of}
use Rattle.coin_amounts.specs.Denom.{is_denom, IsDenom}
use Rattle.coin_amounts.specs.Coins.{coin_with, coin_at, with_coin, with_next, coins_in_place, put_by_denom, by_denom, coins_of, coin_of, AreLawful}
use Rattle.coin_amounts.proofs.Sorting.{IsRising-put_by_denom, IsPermutation-put_all}

-- an amount fits 128 bits
fits_if_some : (all small : Bool) (m n : ℕ) → cond (all && small) (Some m) None ≡ Some n → (small ≡ true) × (m ≡ n)
fits_if_some true true m n is = (refl, cc)
fits_if_some true false m n is = cc
fits_if_some false small m n is = cc

amount_fits : (bs : List ℕ) (n : ℕ) → amount_of bs ≡ Some n → n < 2 ^ 128
amount_fits [] n is = cc
amount_fits (b ∷ bs) n is =
    let value = digits_value 10 (b ∷ bs) in
    let fits = fits_if_some (list_all is_ascii_digit (b ∷ bs)) (ltb value (2 ^ 128)) value n is in
    let below = (Decides-ltb value (2 ^ 128)).0 fits.0 in
    subst (λ k. k < 2 ^ 128) fits.1 below

-- what a coin that was read by itself is
pub record IsRead (raw : RawCoin) (coin : Coin) : Type 0 where
  pub denom : IsDenom coin.denom
  pub positive : 0 < coin.amount
  pub bounded : coin.amount < 2 ^ 128
  pub same : coin ≡ coin_of raw

pub above_zero : (n : ℕ) → eqb n 0 ≡ false → 0 < n
above_zero zero differs = cc
above_zero (suc n) differs = omega arith

with_number : (raw : RawCoin) (coin : Coin) (fault : CoinsFault) (n : ℕ) (none : Bool) → IsDenom raw.denom → amount_of raw.amount ≡ Some n → eqb n 0 ≡ none → cond none (Err fault) (Ok (record { denom = raw.denom; amount = n })) ≡ Ok coin → IsRead raw coin
with_number raw coin fault n true named found zero' is = cc
with_number raw coin fault n false named found above is =
    let made : Coin = record { denom = raw.denom; amount = n } in
    let amount_is : n ≡ unwrap_or (amount_of raw.amount) 0 = sym (ap (λ o. unwrap_or o 0) found) in
    let read : IsRead raw made = record {
      denom = named;
      positive = above_zero n above;
      bounded = amount_fits raw.amount n found;
      same = ap (λ k. let it : Coin = record { denom = raw.denom; amount = k } in it) amount_is;
    } in
    let it_is : made ≡ coin = cc in
    subst (λ it. IsRead raw it) it_is read

with_amount : (place : ℕ) (raw : RawCoin) (coin : Coin) (found : Option ℕ) → IsDenom raw.denom → amount_of raw.amount ≡ found → coin_with place raw.denom found ≡ Ok coin → IsRead raw coin
with_amount place raw coin None named found is = cc
with_amount place raw coin (Some n) named found is = with_number raw coin (AmountZero place) n _ named found refl is

with_denom : (place : ℕ) (raw : RawCoin) (coin : Coin) (fault : CoinsFault) (named : Bool) → is_denom raw.denom ≡ named → cond named (coin_with place raw.denom (amount_of raw.amount)) (Err fault) ≡ Ok coin → IsRead raw coin
with_denom place raw coin fault false named is = cc
with_denom place raw coin fault true named is = with_amount place raw coin _ named refl is

pub read_alone : (place : ℕ) (raw : RawCoin) (coin : Coin) → coin_at place raw ≡ Ok coin → IsRead raw coin
read_alone place raw coin is = with_denom place raw coin (DenomBad place) _ refl is

-- what the coins that were read so far are
pub record AreRead (coins : List Coin) : Type 0 where
  pub positive : IsPositive coins
  pub bounded : All (λ coin. coin.amount < 2 ^ 128) coins
  pub denoms : All (λ coin. IsDenom coin.denom) coins
  pub rising : IsRising (fold put_by_denom [] coins)

pub none_are_read : AreRead []
unfolding IsStrictlySortedBy
none_are_read = record {
  positive = All-nil (λ coin. 0 < coin.amount);
  bounded = All-nil (λ coin. coin.amount < 2 ^ 128);
  denoms = All-nil (λ coin. IsDenom coin.denom);
  rising = tt;
}

-- one more coin, whose denom none of them has
one_more_is_read : (coins : List Coin) (raw : RawCoin) (coin : Coin) → AreRead coins → IsRead raw coin → list_any (λ other. bytes_eq coin.denom other.denom) coins ≡ false → AreRead (coins ++ coin ∷ [])
one_more_is_read coins raw coin all one new =
    let still_new = list_any-IsPermutation (λ (other : Coin). bytes_eq coin.denom other.denom) coins _ (IsPermutation-put_all coins) in
    record {
      positive = All-push (λ coin. 0 < coin.amount) coins coin all.positive one.positive;
      bounded = All-push (λ coin. coin.amount < 2 ^ 128) coins coin all.bounded one.bounded;
      denoms = All-push (λ coin. IsDenom coin.denom) coins coin all.denoms one.denom;
      rising = rw fold_push (IsRising-put_by_denom _ coin all.rising (sym still_new ∙ new));
    }

-- the coins with those of more raw coins
pub record Goes (start : List Coin) (raws : List RawCoin) (coins : List Coin) : Type 0 where
  pub read : AreRead coins
  pub same : coins ≡ start ++ map coin_of raws

pushed : (start : List Coin) (raw : RawCoin) (coin : Coin) (next : List Coin) (fault : CoinsFault) (twice : Bool) → AreRead start → IsRead raw coin → list_any (λ other. bytes_eq coin.denom other.denom) start ≡ twice → cond twice (Err fault) (Ok (start ++ coin ∷ [])) ≡ Ok next → Goes start (raw ∷ []) next
pushed start raw coin next fault true all one new is = cc
pushed start raw coin next fault false all one new is =
    let it_is : start ++ coin ∷ [] ≡ next = cc in
    record {
      read = subst AreRead it_is (one_more_is_read start raw coin all one new);
      same = sym it_is ∙ ap (λ c. start ++ c ∷ []) one.same;
    }

with_read : (start : List Coin) (raw : RawCoin) (next : List Coin) (read : Result Coin CoinsFault) → AreRead start → coin_at (length start) raw ≡ read → with_coin start read ≡ Ok next → Goes start (raw ∷ []) next
with_read start raw next (Err fault) all found is = cc
with_read start raw next (Ok coin) all found is = pushed start raw coin next (DenomTwice (length start)) _ all (read_alone (length start) raw coin found) refl is

-- a fault stays
stays_faulty : (fault : CoinsFault) (raws : List RawCoin) (coins : List Coin) → fold with_next (Err fault) raws ≡ Ok coins → ⊥
stays_faulty fault raws coins is =
    let stuck = fold_stays with_next (Err fault) (λ raw. refl) raws in
    cc

pub all_read : (start : List Coin) (raws : List RawCoin) (coins : List Coin) → AreRead start → fold with_next (Ok start) raws ≡ Ok coins → Goes start raws coins
all_read start [] coins all is =
    let it_is : start ≡ coins = cc in
    record { read = subst AreRead it_is all; same = sym it_is ∙ sym (append-nil start) }
all_read start (raw ∷ raws) coins all is = goes (λ next one rest. all_read next raws coins one rest) _ refl is
  where
    goes : ((next : List Coin) → AreRead next → fold with_next (Ok next) raws ≡ Ok coins → Goes next raws coins) → (next : Result (List Coin) CoinsFault) → with_next (Ok start) raw ≡ next → fold with_next next raws ≡ Ok coins → Goes start (raw ∷ raws) coins
    goes onward (Err fault) step rest = absurd (stays_faulty fault raws coins rest)
    goes onward (Ok next) step rest =
        let one = with_read start raw next _ all refl step in
        let more = onward next one.read rest in
        record { read = more.read; same = more.same ∙ ap (λ l. l ++ map coin_of raws) one.same ∙ append_assoc start (coin_of raw ∷ []) (map coin_of raws) }

sorted_are_lawful : (raws : List RawCoin) (read : Result (List Coin) CoinsFault) (coins : List Coin) → coins_in_place raws ≡ read → by_denom read ≡ Ok coins → AreLawful raws coins
sorted_are_lawful raws (Err fault) coins found is = cc
sorted_are_lawful raws (Ok listed) coins found is =
    let all = all_read [] raws listed none_are_read found in
    let moved = IsPermutation-put_all listed in
    let it_is : fold put_by_denom [] listed ≡ coins = cc in
    subst (AreLawful raws) it_is (record {
      rising = all.read.rising;
      positive = All-permutation (λ coin. 0 < coin.amount) listed _ moved all.read.positive;
      bounded = All-permutation (λ coin. coin.amount < 2 ^ 128) listed _ moved all.read.bounded;
      denoms = All-permutation (λ coin. IsDenom coin.denom) listed _ moved all.read.denoms;
      same = subst (λ l. IsPermutation l (fold put_by_denom [] listed)) all.same moved;
    })

pub read_are_lawful : (raws : List RawCoin) (coins : List Coin) → coins_of raws ≡ Ok coins → AreLawful raws coins
read_are_lawful raws coins is = sorted_are_lawful raws _ coins refl is
