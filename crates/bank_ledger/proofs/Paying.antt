-- Moving and burning coins one by one, where their denoms rise and the account has enough of each.
use Rattle.std.proofs.Common.{◌≡◌, ℕ, ◌+◌, ◌-◌, ◌<◌, ◌≤◌, inl, inr, Bool, true, false, cond, List, [], ◌∷◌, ◌++◌, length, get_or, drop, map, Option, None, Some, refl, sym, ap, ◌∙◌, append_assoc, append-nil, arith, bytes_eq}
use Rattle.std.proofs.lemmas.List.{drop_more, length-map}
use Rattle.std.proofs.lemmas.List.Sums.{sum_by-cons}
use Rattle.std.proofs.lemmas.Bool.Decides.{leb_tells}
use Rattle.std.proofs.lemmas.Map.Text.{is_eq-slice_cmp}
use Rattle.std.proofs.lemmas.Slice.Eq.{bytes_eq-Decides}
use Rattle.std.specs.Cmp.Lexicographic.{slice_cmp, nat_list_cmp_total}
use Rattle.std.specs.List.{AllByRecursion}
use Rattle.std.specs.List.Sorted.{IsStrictlySortedBy}
use Rattle.std.specs.Ordering.{nat_cmp, is_eq, ordering_reverse}
use Rattle.std.specs.Bool.{nat_le}
use Rattle.std.specs.declared.cmp.Ordering.TheVariants.{Less}
use Rattle.coin_amounts.specs.declared.coin.Coin as coin_type
use Rattle.coin_amounts.specs.Plain.{Coin, coin_view}
use Rattle.coin_amounts.specs.Order.{IsRising}
use Rattle.bank_ledger.specs.Balances.{Balances, share, amount_in, part, moved, lowered, Shortfall, shortfall}
use Rattle.bank_ledger.specs.Steps.{amounts_left}

-- the coins' denoms are above this one
abbrev pub AreAbove : List ℕ → List Coin → Type 0
AreAbove denom coins = AllByRecursion (λ other. slice_cmp nat_cmp denom other ≡ Less) (map (λ c. c.denom) coins)

pub rising_parts : (coin : Coin) (coins : List Coin) → IsRising (coin ∷ coins) → AreAbove coin.denom coins × IsRising coins
unfolding IsStrictlySortedBy
rising_parts coin coins rising = rising

above_differs : (low high : List ℕ) → slice_cmp nat_cmp low high ≡ Less → bytes_eq low high ≡ false
above_differs low high less = sym (is_eq-slice_cmp low high) ∙ ap is_eq less

below_differs : (low high : List ℕ) → slice_cmp nat_cmp low high ≡ Less → bytes_eq high low ≡ false
below_differs low high less = sym (is_eq-slice_cmp high low) ∙ ap is_eq (nat_list_cmp_total.antisymm high low ∙ ap ordering_reverse less)

share_else : (denom : List ℕ) (coin : Coin) → bytes_eq coin.denom denom ≡ false → share denom coin ≡ 0
share_else denom coin differs = rw differs refl

pub amount_absent : (denom : List ℕ) (coins : List Coin) → AreAbove denom coins → amount_in coins denom ≡ 0
amount_absent denom [] above = refl
amount_absent denom (coin ∷ coins) above =
    let here = share_else denom coin (below_differs denom coin.denom above.0) in
    let there = amount_absent denom coins above.1 in
    rw (here, there) refl

-- what moving one coin does to balances
abbrev pub one_moved : Balances → List ℕ → List ℕ → Coin → Balances
one_moved b from to coin = λ address denom. b address denom - cond (bytes_eq coin.denom denom) (cond (bytes_eq from address) coin.amount 0) 0 + cond (bytes_eq coin.denom denom) (cond (bytes_eq to address) coin.amount 0) 0

same_denom : (f t : Bool) (x amount rest : ℕ) → rest ≡ 0 → (x - cond f amount 0 + cond t amount 0) - cond f rest 0 + cond t rest 0 ≡ x - cond f (amount + rest) 0 + cond t (amount + rest) 0
same_denom true true x amount rest none = omega arith
same_denom true false x amount rest none = omega arith
same_denom false true x amount rest none = omega arith
same_denom false false x amount rest none = omega arith

amount_more : (coin : Coin) (coins : List Coin) (denom : List ℕ) (same : Bool) → bytes_eq coin.denom denom ≡ same → amount_in (coin ∷ coins) denom ≡ cond same coin.amount 0 + amount_in coins denom
amount_more coin coins denom same e = sum_by-cons (share denom) coin coins ∙ ap (λ c. cond c coin.amount 0 + amount_in coins denom) e

move_one : (b : Balances) (from to : List ℕ) (coin : Coin) (address denom : List ℕ) (same : Bool) → bytes_eq coin.denom denom ≡ same
    → one_moved b from to coin address denom ≡ b address denom - cond same (cond (bytes_eq from address) coin.amount 0) 0 + cond same (cond (bytes_eq to address) coin.amount 0) 0
move_one b from to coin address denom same e = ap (λ c. b address denom - cond c (cond (bytes_eq from address) coin.amount 0) 0 + cond c (cond (bytes_eq to address) coin.amount 0) 0) e

move_with : (b : Balances) (from to : List ℕ) (coin : Coin) (coins : List Coin) (address denom : List ℕ) (same : Bool) → bytes_eq coin.denom denom ≡ same → AreAbove coin.denom coins
    → moved (one_moved b from to coin) from to coins address denom ≡ moved b from to (coin ∷ coins) address denom
move_with b from to coin coins address denom true e above =
    let is : coin.denom ≡ denom = (bytes_eq-Decides coin.denom denom).0 e in
    let none : amount_in coins denom ≡ 0 = ap (amount_in coins) (sym is) ∙ amount_absent coin.denom coins above in
    ap (λ x. x - part from address coins denom + part to address coins denom) (move_one b from to coin address denom true e)
    ∙ same_denom (bytes_eq from address) (bytes_eq to address) (b address denom) coin.amount (amount_in coins denom) none
    ∙ ap (λ n. b address denom - cond (bytes_eq from address) n 0 + cond (bytes_eq to address) n 0) (sym (amount_more coin coins denom true e))
move_with b from to coin coins address denom false e above =
    let more : amount_in (coin ∷ coins) denom ≡ amount_in coins denom = amount_more coin coins denom false e ∙ omega arith in
    let one : one_moved b from to coin address denom ≡ b address denom = move_one b from to coin address denom false e ∙ omega arith in
    ap (λ x. x - part from address coins denom + part to address coins denom) one
    ∙ ap (λ n. b address denom - cond (bytes_eq from address) n 0 + cond (bytes_eq to address) n 0) (sym more)

pub moved_step : (b n : Balances) (from to : List ℕ) (coin : Coin) (coins : List Coin) → AreAbove coin.denom coins → ((address denom : List ℕ) → n address denom ≡ one_moved b from to coin address denom)
    → (address denom : List ℕ) → moved n from to coins address denom ≡ moved b from to (coin ∷ coins) address denom
moved_step b n from to coin coins above is address denom =
    ap (λ x. x - part from address coins denom + part to address coins denom) (is address denom) ∙ move_with b from to coin coins address denom _ refl above

pub kept_else : (b n : Balances) (from to : List ℕ) (coin : Coin) (denom : List ℕ) → bytes_eq coin.denom denom ≡ false → ((address denom : List ℕ) → n address denom ≡ one_moved b from to coin address denom) → n from denom ≡ b from denom
kept_else b n from to coin denom differs is = is from denom ∙ rw differs (omega arith)

pub shortfall_step : (b n : Balances) (from to : List ℕ) (coin : Coin) (coins : List Coin) → AreAbove coin.denom coins → ((address denom : List ℕ) → n address denom ≡ one_moved b from to coin address denom)
    → shortfall n from coins ≡ shortfall b from coins
shortfall_step b n from to coin [] above is = refl
shortfall_step b n from to coin (other ∷ coins) above is =
    let same = kept_else b n from to coin other.denom (above_differs coin.denom other.denom above.0) is in
    rw (same, shortfall_step b n from to coin coins above.1 is) refl

enough_by : (b : Bool) (rest : Option Shortfall) (short : Shortfall) → cond b rest (Some short) ≡ None → (b ≡ true) × (rest ≡ None)
enough_by true rest short none = (refl, none)
enough_by false rest short none = cc

pub enough : (b : Balances) (from : List ℕ) (coin : Coin) (coins : List Coin) → shortfall b from (coin ∷ coins) ≡ None → (nat_le coin.amount (b from coin.denom) ≡ true) × (shortfall b from coins ≡ None)
enough b from coin coins none = enough_by (nat_le coin.amount (b from coin.denom)) (shortfall b from coins) _ none

-- ---- what is left of each coin's denom

-- where only balances of another denom are changed, what is left of coins whose denoms are above it stays
pub same_left : (b n : Balances) (from denom : List ℕ) (coins : List Coin) → AreAbove denom coins → ((other : List ℕ) → bytes_eq denom other ≡ false → n from other ≡ b from other) → amounts_left n from coins ≡ amounts_left b from coins
same_left b n from denom [] above same = refl
same_left b n from denom (coin ∷ coins) above same =
    let here = same coin.denom (above_differs denom coin.denom above.0) in
    let there = same_left b n from denom coins above.1 same in
    λ i. (here i - coin.amount) ∷ there i

pub same_parts : (x y : ℕ) (xs ys : List ℕ) → x ∷ xs ≡ y ∷ ys → (x ≡ y) × (xs ≡ ys)
same_parts x y xs ys e = let first : x ≡ y = cc in let others : xs ≡ ys = cc in (first, others)

pub left_more : (b : Balances) (from : List ℕ) (coin : Coin) (rest : List Coin) (done new all : List ℕ) (have : ℕ) → have ≡ b from coin.denom → new ≡ done ++ (have - coin.amount) ∷ [] → done ++ amounts_left b from (coin ∷ rest) ≡ all
    → new ++ amounts_left b from rest ≡ all
left_more b from coin rest done new all have is pushed so =
    ap (λ l. l ++ amounts_left b from rest) pushed ∙ append_assoc done ((have - coin.amount) ∷ []) (amounts_left b from rest)
    ∙ ap (λ (n : ℕ). done ++ (n - coin.amount) ∷ amounts_left b from rest) is ∙ so

pub left_all : (b : Balances) (from : List ℕ) (coins : List Coin) (done all : List ℕ) → coins ≡ [] → done ++ amounts_left b from coins ≡ all → done ≡ all
left_all b from coins done all none so = sym (append-nil done) ∙ ap (λ (c : List Coin). done ++ amounts_left b from c) (sym none) ∙ so

pub left_count : (b : Balances) (from : List ℕ) (items : List coin_type.Coin) (left : List ℕ) → left ≡ amounts_left b from (map coin_view items) → length left ≡ length items
left_count b from items left is = ap length is ∙ simp length-map

-- the coin at a place, and those behind it
pub coins_from : (items : List coin_type.Coin) (i : ℕ) (item : coin_type.Coin) → i < length items → item ≡ get_or items i item → map coin_view (drop i items) ≡ coin_view item ∷ map coin_view (drop (i + 1) items)
coins_from items i item within is = ap (map coin_view) (drop_more items i item within) ∙ ap (λ x. coin_view x ∷ map coin_view (drop (i + 1) items)) (sym is)

pub left_from : (left : List ℕ) (i n : ℕ) → i < length left → n ≡ get_or left i n → drop i left ≡ n ∷ drop (i + 1) left
left_from left i n within is = drop_more left i n within ∙ ap (λ (x : ℕ). x ∷ drop (i + 1) left) (sym is)

-- ---- reading one balance

pub short_here : (b : Balances) (from : List ℕ) (coin : Coin) (coins : List Coin) (have : ℕ) → have ≡ b from coin.denom → have < coin.amount
    → shortfall b from (coin ∷ coins) ≡ Some (record { denom = coin.denom; have = have; want = coin.amount })
short_here b from coin coins have is less = elim (leb_tells coin.amount (b from coin.denom)) [
  | inl p ↦ absurd (omega (arith, p.1))
  | inr p ↦
      ap (λ t. cond t (shortfall b from coins) (Some (record { denom = coin.denom; have = b from coin.denom; want = coin.amount }))) p.0
      ∙ ap (λ (n : ℕ). Some (record { denom = coin.denom; have = n; want = coin.amount })) (sym is)
]

pub enough_here : (b : Balances) (from : List ℕ) (coin : Coin) (coins : List Coin) (have : ℕ) → have ≡ b from coin.denom → coin.amount ≤ have → shortfall b from (coin ∷ coins) ≡ shortfall b from coins
enough_here b from coin coins have is more = elim (leb_tells coin.amount (b from coin.denom)) [
  | inl p ↦ ap (λ t. cond t (shortfall b from coins) (Some (record { denom = coin.denom; have = b from coin.denom; want = coin.amount }))) p.0
  | inr p ↦ absurd (omega (arith, p.1))
]

pub no_shortfall : (b : Balances) (from : List ℕ) (coins : List Coin) → coins ≡ [] → shortfall b from coins ≡ None
no_shortfall b from coins e = ap (shortfall b from) e

-- ---- burning

abbrev pub one_lowered : Balances → List ℕ → Coin → Balances
one_lowered b from coin = λ address denom. b address denom - cond (bytes_eq coin.denom denom) (cond (bytes_eq from address) coin.amount 0) 0

both_lowered : (f same : Bool) (x amount rest : ℕ) → (x - cond same (cond f amount 0) 0) - cond f rest 0 ≡ x - cond f (cond same amount 0 + rest) 0
both_lowered true true x amount rest = omega arith
both_lowered true false x amount rest = omega arith
both_lowered false true x amount rest = omega arith
both_lowered false false x amount rest = omega arith

pub lowered_step : (b n : Balances) (from : List ℕ) (coin : Coin) (coins : List Coin) → ((address denom : List ℕ) → n address denom ≡ one_lowered b from coin address denom)
    → (address denom : List ℕ) → lowered n from coins address denom ≡ lowered b from (coin ∷ coins) address denom
lowered_step b n from coin coins is address denom =
    ap (λ x. x - part from address coins denom) (is address denom)
    ∙ both_lowered (bytes_eq from address) (bytes_eq coin.denom denom) (b address denom) coin.amount (amount_in coins denom)
    ∙ ap (λ x. b address denom - cond (bytes_eq from address) x 0) (sym (sum_by-cons (share denom) coin coins))

pub lowered_else : (b n : Balances) (from : List ℕ) (coin : Coin) (denom : List ℕ) → bytes_eq coin.denom denom ≡ false → ((address denom : List ℕ) → n address denom ≡ one_lowered b from coin address denom) → n from denom ≡ b from denom
lowered_else b n from coin denom differs is = is from denom ∙ rw differs (omega arith)

pub shortfall_lowered : (b n : Balances) (from : List ℕ) (coin : Coin) (coins : List Coin) → AreAbove coin.denom coins → ((address denom : List ℕ) → n address denom ≡ one_lowered b from coin address denom)
    → shortfall n from coins ≡ shortfall b from coins
shortfall_lowered b n from coin [] above is = refl
shortfall_lowered b n from coin (other ∷ coins) above is =
    let same = lowered_else b n from coin other.denom (above_differs coin.denom other.denom above.0) is in
    rw (same, shortfall_lowered b n from coin coins above.1 is) refl

pub drained_step : (x : ℕ) (coin : Coin) (coins : List Coin) (denom : List ℕ) → (x - cond (bytes_eq coin.denom denom) coin.amount 0) - amount_in coins denom ≡ x - amount_in (coin ∷ coins) denom
drained_step x coin coins denom = omega (arith, sum_by-cons (share denom) coin coins)
