-- Coins put in the order of their denoms: the same coins, with denoms that rise where they differ.
use Rattle.std.proofs.Common.{◌≡◌, ℕ, Bool, true, false, cond, List, [], ◌∷◌, ◌++◌, map, fold, refl, sym, ap, ◌∙◌, append_assoc, append-nil, bytes_eq, ◌||◌, IsPermutation, Ordering}
use Rattle.std.specs.Ordering.{nat_cmp, is_gt, is_eq, ordering_reverse}
use Rattle.std.specs.declared.cmp.Ordering.TheVariants.{Less, Equal, Greater}
use Rattle.std.specs.Cmp.Lexicographic.{slice_cmp, nat_list_cmp_total}
use Rattle.std.specs.List.{list_any, AllByRecursion}
use Rattle.std.specs.List.Sorted.{IsStrictlySortedBy}
use Rattle.std.proofs.lemmas.List.Sorted.{IsPermutation-refl, IsPermutation-cons, IsPermutation-to_front, IsPermutation-trans, IsPermutation-append_left}
use Rattle.std.proofs.lemmas.Map.Text.{is_eq-slice_cmp}
use Rattle.coin_amounts.specs.Plain.{Coin}
use Rattle.coin_amounts.specs.Order.{IsRising}
use Rattle.coin_amounts.specs.Coins.{put_by_denom}

-- one more coin is put among the others
pub IsPermutation-put_by_denom : (coins : List Coin) (coin : Coin) → IsPermutation (coins ++ coin ∷ []) (put_by_denom coins coin)
IsPermutation-put_by_denom [] coin = IsPermutation-refl (coin ∷ [])
IsPermutation-put_by_denom (other ∷ others) coin =
    elim (is_gt (slice_cmp nat_cmp coin.denom other.denom)) as (λ b. IsPermutation ((other ∷ others) ++ coin ∷ []) (cond b (other ∷ put_by_denom others coin) (coin ∷ other ∷ others))) [
      | true ↦ IsPermutation-cons other _ _ (IsPermutation-put_by_denom others coin)
      | false ↦ IsPermutation-to_front (other ∷ others) coin
    ]

-- coins that are put in order one after another are the same coins
IsPermutation-put_after : (kept coins : List Coin) → IsPermutation (kept ++ coins) (fold put_by_denom kept coins)
IsPermutation-put_after kept [] = rw append-nil (IsPermutation-refl kept)
IsPermutation-put_after kept (coin ∷ coins) =
    let moved = IsPermutation-append_left coins _ _ (IsPermutation-put_by_denom kept coin) in
    IsPermutation-trans _ _ _ (rw append_assoc at moved) (IsPermutation-put_after (put_by_denom kept coin) coins)

pub IsPermutation-put_all : (coins : List Coin) → IsPermutation coins (fold put_by_denom [] coins)
IsPermutation-put_all coins = IsPermutation-put_after [] coins

-- what holds of a denom and of all denoms holds after the denom's coin is put among theirs
all_denoms_put : (P : List ℕ → Type 0) (coins : List Coin) (coin : Coin) → P coin.denom → AllByRecursion P (map (λ c. c.denom) coins) → AllByRecursion P (map (λ c. c.denom) (put_by_denom coins coin))
all_denoms_put P [] coin one all = (one, tt)
all_denoms_put P (other ∷ others) coin one all =
    elim (is_gt (slice_cmp nat_cmp coin.denom other.denom)) as (λ b. AllByRecursion P (map (λ c. c.denom) (cond b (other ∷ put_by_denom others coin) (coin ∷ other ∷ others)))) [
      | true ↦ (all.0, all_denoms_put P others coin one all.1)
      | false ↦ (one, all)
    ]

-- a denom that is below one is below those that the one is below
below_all : (low high : List ℕ) (denoms : List (List ℕ)) → slice_cmp nat_cmp low high ≡ Less → AllByRecursion (λ y. slice_cmp nat_cmp high y ≡ Less) denoms → AllByRecursion (λ y. slice_cmp nat_cmp low y ≡ Less) denoms
below_all low high [] less all = tt
below_all low high (d ∷ ds) less all = (nat_list_cmp_total.trans low high d less all.0, below_all low high ds less all.1)

-- a coin whose denom differs goes to a place where the denoms still rise
put_rises : (other : Coin) (others : List Coin) (coin : Coin) (o : Ordering) → slice_cmp nat_cmp coin.denom other.denom ≡ o → bytes_eq coin.denom other.denom ≡ false → IsRising (other ∷ others) → IsRising (put_by_denom others coin) → IsRising (cond (is_gt o) (other ∷ put_by_denom others coin) (coin ∷ other ∷ others))
unfolding IsStrictlySortedBy
put_rises other others coin Less e new rising rest = ((e, below_all coin.denom other.denom _ e rising.0), rising)
put_rises other others coin Equal e new rising rest =
    let same : bytes_eq coin.denom other.denom ≡ true = sym (is_eq-slice_cmp coin.denom other.denom) ∙ ap is_eq e in
    cc
put_rises other others coin Greater e new rising rest =
    let above = nat_list_cmp_total.antisymm other.denom coin.denom ∙ ap ordering_reverse e in
    (all_denoms_put (λ y. slice_cmp nat_cmp other.denom y ≡ Less) others coin above rising.0, rest)

or_false : (a b : Bool) → (a || b) ≡ false → (a ≡ false) × (b ≡ false)
or_false false b h = (refl, h)
or_false true b h = cc

pub IsRising-put_by_denom : (coins : List Coin) (coin : Coin) → IsRising coins → list_any (λ other. bytes_eq coin.denom other.denom) coins ≡ false → IsRising (put_by_denom coins coin)
unfolding IsStrictlySortedBy
IsRising-put_by_denom [] coin rising new = (tt, tt)
IsRising-put_by_denom (other ∷ others) coin rising new =
    let differs = or_false (bytes_eq coin.denom other.denom) _ new in
    put_rises other others coin _ refl differs.0 rising (IsRising-put_by_denom others coin rising.1 differs.1)
