-- When the supplies of accounts that are added one by one don't fit.
use Rattle.std.proofs.Common.{◌≡◌, ◌∙◌, ℕ, ◌+◌, ◌<◌, ◌≤◌, ◌^◌, Bool, true, false, cond, ◌&&◌, List, [], ◌∷◌, ◌++◌, length, take, get_or, refl, sym, ap, arith, nat_lt}
use Rattle.std.proofs.lemmas.Bool.{lt-ltb, ltb-true}
use Rattle.std.proofs.lemmas.List.Folds.{list_all_at, list_all-append}
use Rattle.std.proofs.lemmas.List.Sums.{sum_by_more, sum_by-take-le, sum_by-append, sum_by-cons}
use Rattle.std.proofs.lemmas.Slice.Eq.{bytes_eq-Decides}
use Rattle.std.specs.List.{list_all}
use Rattle.coin_amounts.specs.Plain.{Coin}
use Rattle.bank_ledger.specs.Balances.{share, amount_in}
use Rattle.block_runner.specs.declared.stop.GenesisStop.{GenesisStop}
use Rattle.block_runner.specs.declared.stop.GenesisStop.TheVariants.{Address, Coins, Supply, NoMemory}
use Rattle.block_runner.specs.Crediting.{IsOver}
use Rattle.block_runner.specs.Opening.{Account, supply_of, fits}

-- a refusal of a part is one of the whole
pub over_more : (stop : GenesisStop) (one all : Bool) → IsOver stop one → (one ≡ false → all ≡ false) → IsOver stop all
over_more Supply one all is refuses = refuses is
over_more NoMemory one all is refuses = tt
over_more Address one all is refuses = is
over_more Coins one all is refuses = is

implied : (p q : Bool) → (q ≡ true → p ≡ true) → p ≡ false → q ≡ false
implied p true weaker none = sym (weaker refl) ∙ none
implied p false weaker none = refl

-- an amount that doesn't come below 2^128
pub too_much : (m n amount : ℕ) → m ≡ n → (m + amount < 2 ^ 128 → false ≡ true) → nat_lt (n + amount) (2 ^ 128) ≡ false
too_much m n amount same none = implied false _ (λ lt. none (omega (arith, ltb-true (n + amount) (2 ^ 128) lt))) refl

below_weaker : (x y n : ℕ) → x ≤ y → nat_lt y n ≡ true → nat_lt x n ≡ true
below_weaker x y n le lt = lt-ltb _ _ (omega (arith, ltb-true y n lt))

-- ---- coins of an account

share_own : (coin : Coin) → share coin.denom coin ≡ coin.amount
share_own coin = ap (λ b. cond b coin.amount 0) ((bytes_eq-Decides coin.denom coin.denom).1 refl)

-- the supplies that coins would make of these
abbrev pub fit_after : (List ℕ → ℕ) → List Coin → Coin → Bool
fit_after supply coins coin = nat_lt (supply coin.denom + amount_in coins coin.denom) (2 ^ 128)

amount_so_far : (coins : List Coin) (i : ℕ) (coin : Coin) → i < length coins → get_or coins i coin ≡ coin → amount_in (take i coins) coin.denom + coin.amount ≤ amount_in coins coin.denom
amount_so_far coins i coin within is =
    let more = sum_by_more (share coin.denom) coins i coin within in
    let own = ap (share coin.denom) is ∙ share_own coin in
    let all = sum_by-take-le (share coin.denom) coins (i + 1) in
    omega arith

pub coin_refused : (supply : List ℕ → ℕ) (coins : List Coin) (i : ℕ) (coin : Coin) → i < length coins → get_or coins i coin ≡ coin
    → nat_lt ((supply coin.denom + amount_in (take i coins) coin.denom) + coin.amount) (2 ^ 128) ≡ false → list_all (fit_after supply coins) coins ≡ false
coin_refused supply coins i coin within is none =
    let far = amount_so_far coins i coin within is in
    let fails = implied _ (fit_after supply coins coin) (below_weaker ((supply coin.denom + amount_in (take i coins) coin.denom) + coin.amount) (supply coin.denom + amount_in coins coin.denom) (2 ^ 128) (omega arith)) none in
    list_all_at (fit_after supply coins) coins i coin within (ap (fit_after supply coins) is ∙ fails)

-- ---- accounts

all_step : (p q all_p all_q : Bool) → (q ≡ true → p ≡ true) → (all_p ≡ false → all_q ≡ false) → (p && all_p) ≡ false → (q && all_q) ≡ false
all_step true q all_p all_q weaker later refused = and_none q all_q (later refused)
  where
    and_none : (a b : Bool) → b ≡ false → (a && b) ≡ false
    and_none true b e = e
    and_none false b e = refl
all_step false q all_p all_q weaker later refused = ap (λ b. b && all_q) (implied false q weaker refl)

-- where each passes the one test only if it passes the other
all_weaker : {A : Type 0} (p q : A → Bool) (xs : List A) → ((x : A) → q x ≡ true → p x ≡ true) → list_all p xs ≡ false → list_all q xs ≡ false
all_weaker p q [] weaker refused = refused
all_weaker p q (x ∷ xs) weaker refused = all_step (p x) (q x) _ _ (weaker x) (all_weaker p q xs weaker) refused

middle_none : (before one after : Bool) → one ≡ false → (before && (one && after)) ≡ false
middle_none true one after e = ap (λ b. b && after) e
middle_none false one after e = refl

-- the supplies that the first accounts and one more would make are no more than those of all
pub account_refused : (done : List Account) (account : Account) (left : List Account) → list_all (fit_after (supply_of done) account.1) account.1 ≡ false → fits (done ++ account ∷ left) ≡ false
account_refused done account left refused =
    let accounts = done ++ account ∷ left in
    let test = λ (coin : Coin). nat_lt (supply_of accounts coin.denom) (2 ^ 128) in
    let far : (denom : List ℕ) → supply_of done denom + amount_in account.1 denom ≤ supply_of accounts denom = λ denom.
    let whole = sum_by-append (λ (a : Account). amount_in a.1 denom) done (account ∷ left) in
    let rest = sum_by-cons (λ (a : Account). amount_in a.1 denom) account left in
    omega arith in
    let own = all_weaker (fit_after (supply_of done) account.1) test account.1 (λ coin. below_weaker _ _ _ (far coin.denom)) refused in
    list_all-append (λ (a : Account). list_all test a.1) done (account ∷ left)
    ∙ middle_none (list_all (λ (a : Account). list_all test a.1) done) (list_all test account.1) (list_all (λ (a : Account). list_all test a.1) left) own

all_true : {A : Type 0} (p : A → Bool) (xs : List A) → ((x : A) → p x ≡ true) → list_all p xs ≡ true
all_true p [] is = refl
all_true p (x ∷ xs) is = rw (is x, all_true p xs is) refl

pub all_fit : (accounts : List Account) → ((denom : List ℕ) → supply_of accounts denom < 2 ^ 128) → fits accounts ≡ true
all_fit accounts below = all_true _ accounts (λ account. all_true _ account.1 (λ coin. lt-ltb _ _ (below coin.denom)))
