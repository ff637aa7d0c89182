-- Where some of the coins were sent and others are left.
use Rattle.std.proofs.Common.{◌≡◌, ℕ, ◌+◌, ◌-◌, ◌<◌, ◌≤◌, ◌^◌, Bool, true, false, cond, ◌||◌, ◌&&◌, List, [], ◌∷◌, ◌++◌, map, Option, Some, None, refl, sym, ap, ◌∙◌, subst, arith, inl, inr}
use Rattle.std.specs.Option.{is_some}
use Rattle.std.specs.Str.{bytes_eq}
use Rattle.std.specs.List.{list_any}
use Rattle.std.specs.Bool.{nat_le}
use Rattle.std.specs.Ordering.{eq_by_cmp}
use Rattle.std.specs.FinMap.{FinMap, get, contains_key-keys}
use Rattle.std.specs.FinMap as finite
use Rattle.std.proofs.lemmas.Bool.Decides.{leb_tells}
use Rattle.std.proofs.lemmas.List.Sums.{sum_by-cons}
use Rattle.std.proofs.lemmas.Slice.Eq.{bytes_eq-Decides}
use Rattle.coin_amounts.specs.Plain.{Coin}
use Rattle.chain_records.specs.State.{Addressed, addressed_cmp, State}
use Rattle.chain_records.specs.Keys.{IsAddress}
use Rattle.chain_records.specs.Keys as keys
use Rattle.bank_ledger.specs.Balances.{amount_in, part, share, moved, shortfall}
use Rattle.bank_ledger.specs.Accounts.{balance, total, accounts_with}
use Rattle.bank_ledger.specs.Lawful.{HasLawfulAmounts}
use Rattle.bank_ledger.specs.Effects.{IsSent}
use Rattle.bank_ledger.specs.Steps.{with_less, left_after, amounts_left, given, sent_leaving, CanSend}
use Rattle.bank_ledger.proofs.Orders.{addressed_total, addressed_exact, same_account}
use Rattle.bank_ledger.proofs.Records.{amount_of, made}
use Rattle.bank_ledger.proofs.Changed.{none, bytes_eq-sym, balance_less, balance_more, balance_below, total_less, total_more, accounts_with_amount, denom_held}
use Rattle.bank_ledger.proofs.Paying.{AreAbove, one_moved, moved_step, kept_else, shortfall_step, same_left, same_parts, enough}

-- an account has less by a coin
abbrev pub taken : State → List ℕ → Coin → State
taken s from coin = with_less s (keys.balance from coin.denom) coin.amount

abbrev pub one_sent : State → List ℕ → List ℕ → Coin → State
one_sent s from to coin = given (taken s from coin) to coin

-- some of the coins were sent, and these are what is left of each other
pub record PartlySent (s : State) (from to : List ℕ) (coins rest : List Coin) (left : List ℕ) (t : State) : Type 0 where
  pub had : shortfall (balance s) from coins ≡ None
  pub lawful : HasLawfulAmounts t
  pub enough : shortfall (balance t) from rest ≡ None
  pub leaves : left ≡ amounts_left (balance t) from rest
  pub moves : (addr denom : List ℕ) → moved (balance t) from to rest addr denom ≡ moved (balance s) from to coins addr denom
  pub totals : (denom : List ℕ) → total t denom ≡ total s denom
  pub others : t ≡ record s { balances = t.balances }

pub none_sent : (s : State) (from to : List ℕ) (coins : List Coin) (left : List ℕ) → HasLawfulAmounts s → (shortfall (balance s) from coins ≡ None) × (left ≡ amounts_left (balance s) from coins) → PartlySent s from to coins coins left s
none_sent s from to coins left lawful has = record { had = has.0; lawful = lawful; enough = has.0; leaves = has.1; moves = λ addr denom. refl; totals = λ denom. refl; others = refl }

within : (m n : ℕ) → nat_le m n ≡ true → m ≤ n
within m n e = elim (leb_tells m n) [ inl p ↦ p.1 | inr p ↦ let f = sym p.0 ∙ e in absurd cc ]

-- what is left can be sent coin by coin
pub has_coin : (s : State) (from : List ℕ) (coin : Coin) (rest : List Coin) → shortfall (balance s) from (coin ∷ rest) ≡ None → coin.amount ≤ balance s from coin.denom
has_coin s from coin rest none = within coin.amount (balance s from coin.denom) (enough (balance s) from coin rest none).0

pub same_bytes : (x : List ℕ) → bytes_eq x x ≡ true
same_bytes x = (bytes_eq-Decides x x).1 refl

-- the number that stands first is what is left of the next coin's denom
pub left_first : (t : State) (from : List ℕ) (coin : Coin) (rest : List Coin) (left : ℕ) (others : List ℕ) → left ∷ others ≡ amounts_left (balance t) from (coin ∷ rest) → (left ≡ left_after (balance t) from coin) × (others ≡ amounts_left (balance t) from rest)
left_first t from coin rest left others leaves = same_parts left (left_after (balance t) from coin) others (amounts_left (balance t) from rest) leaves

pub can_send : (s t : State) (from to : List ℕ) (coins : List Coin) (coin : Coin) (rest : List Coin) (left : ℕ) (others : List ℕ) → PartlySent s from to coins (coin ∷ rest) (left ∷ others) t → CanSend from to coin left t
can_send s t from to coins coin rest left others so =
    let less = total_less t from coin.denom coin.amount coin.denom (has_coin t from coin rest so.enough) in
    let here : cond (bytes_eq coin.denom coin.denom) coin.amount 0 ≡ coin.amount = ap (λ b. cond b coin.amount 0) (same_bytes coin.denom) in
    let below = balance_below (taken t from coin) to coin.denom in
    let fits : balance (taken t from coin) to coin.denom + coin.amount < 2 ^ 128 = omega (arith, less.0, less.1, here, below, so.lawful.sums coin.denom, so.lawful.bounded coin.denom) in
    subst (λ (n : ℕ). CanSend from to coin n t) (sym (left_first t from coin rest left others so.leaves).0) fits

-- ---- one coin more

one_sent_balance : (t : State) (from to : List ℕ) (coin : Coin) (a e : List ℕ) → balance (one_sent t from to coin) a e ≡ one_moved (balance t) from to coin a e
one_sent_balance t from to coin a e =
    balance_more (taken t from coin) to coin.denom coin.amount a e
    ∙ ap (λ n. n + cond (bytes_eq coin.denom e) (cond (bytes_eq to a) coin.amount 0) 0) (balance_less t from coin.denom coin.amount a e)

one_sent_total : (t : State) (from to : List ℕ) (coin : Coin) (e : List ℕ) → coin.amount ≤ balance t from coin.denom → total (one_sent t from to coin) e ≡ total t e
one_sent_total t from to coin e has =
    let less = total_less t from coin.denom coin.amount e has in
    let more = total_more (taken t from coin) to coin.denom coin.amount e in
    omega (arith, less.0, less.1, more)

one_sent_lawful : (t : State) (from to : List ℕ) (coin : Coin) → IsAddress from → IsAddress to → 0 < coin.amount → coin.amount ≤ balance t from coin.denom → HasLawfulAmounts t → HasLawfulAmounts (one_sent t from to coin)
one_sent_lawful t from to coin is_from is_to positive has lawful =
    let denom = denom_held t from coin.denom lawful.accounts (omega arith) in
    record {
      sums = λ e. lawful.sums e ∙ sym (one_sent_total t from to coin e has);
      bounded = λ e. lawful.bounded e;
      accounts = accounts_with_amount (taken t from coin) to coin.denom _ denom is_to (accounts_with_amount t from coin.denom _ denom is_from lawful.accounts);
      supplies = lawful.supplies;
    }

with_others : (s t u : State) → t ≡ record s { balances = t.balances } → u ≡ record t { balances = u.balances } → u ≡ record s { balances = u.balances }
with_others s t u first then = then ∙ ap (λ (x : State). record x { balances = u.balances }) first

pub one_more_sent : (s t : State) (from to : List ℕ) (coins : List Coin) (coin : Coin) (rest : List Coin) (left : ℕ) (others : List ℕ) → IsAddress from → IsAddress to → 0 < coin.amount → AreAbove coin.denom rest
    → PartlySent s from to coins (coin ∷ rest) (left ∷ others) t → PartlySent s from to coins rest others (sent_leaving t from to coin left)
one_more_sent s t from to coins coin rest left others is_from is_to positive above so =
    let has = has_coin t from coin rest so.enough in
    let next = enough (balance t) from coin rest so.enough in
    let first = left_first t from coin rest left others so.leaves in
    let sent : PartlySent s from to coins rest others (one_sent t from to coin) = record {
      had = so.had;
      lawful = one_sent_lawful t from to coin is_from is_to positive has so.lawful;
      enough = shortfall_step (balance t) (balance (one_sent t from to coin)) from to coin rest above (one_sent_balance t from to coin) ∙ next.1;
      leaves = first.1 ∙ sym (same_left (balance t) (balance (one_sent t from to coin)) from coin.denom rest above (λ denom differs. kept_else (balance t) (balance (one_sent t from to coin)) from to coin denom differs (one_sent_balance t from to coin)));
      moves = λ addr denom. moved_step (balance t) (balance (one_sent t from to coin)) from to coin rest above (one_sent_balance t from to coin) addr denom ∙ so.moves addr denom;
      totals = λ denom. one_sent_total t from to coin denom has ∙ so.totals denom;
      others = with_others s t (one_sent t from to coin) so.others refl;
    } in
    subst (λ (n : ℕ). PartlySent s from to coins rest others (sent_leaving t from to coin n)) (sym first.0) sent

-- ---- all coins

pub no_entry : (s : State) (account : Addressed) → list_any (eq_by_cmp addressed_cmp account) (finite.keys s.balances) ≡ false → balance s account.0 account.1 ≡ 0
no_entry s account none = go (get s.balances account) (contains_key-keys s.balances account ∙ none)
  where
    go : (found : Option ℕ) → is_some found ≡ false → amount_of found ≡ 0
    go None e = refl
    go (Some n) e = absurd cc

either_none : (a b : Bool) → (a || b) ≡ false → (a ≡ false) × (b ≡ false)
either_none true b e = absurd cc
either_none false b e = (refl, e)

any_joined : (test : Addressed → Bool) (xs ys : List Addressed) → list_any test (xs ++ ys) ≡ false → (list_any test xs ≡ false) × (list_any test ys ≡ false)
any_joined test [] ys e = (refl, e)
any_joined test (x ∷ xs) ys e =
    let both = either_none (test x) (list_any test (xs ++ ys)) e in
    let rest = any_joined test xs ys both.1 in
    (ap (λ b. b || list_any test xs) both.0 ∙ rest.0, rest.1)

part_by : (a d : Bool) (amount rest : ℕ) → (a && d) ≡ false → cond a rest 0 ≡ 0 → cond a (cond d amount 0 + rest) 0 ≡ 0
part_by true true amount rest none e = absurd cc
part_by true false amount rest none e = omega arith
part_by false d amount rest none e = refl

nothing_by : (b : Bool) → cond b none 0 ≡ 0
nothing_by true = refl
nothing_by false = refl

no_part : (to : List ℕ) (coins : List Coin) (account : Addressed) → list_any (eq_by_cmp addressed_cmp account) (map (λ (coin : Coin). (to, coin.denom)) coins) ≡ false → part to account.0 coins account.1 ≡ 0
no_part to [] account e = nothing_by (bytes_eq to account.0)
no_part to (coin ∷ coins) account e =
    let both = either_none (eq_by_cmp addressed_cmp account (to, coin.denom)) (list_any (eq_by_cmp addressed_cmp account) (map (λ (c : Coin). (to, c.denom)) coins)) e in
    let here = ap (λ b. b && bytes_eq coin.denom account.1) (bytes_eq-sym to account.0) ∙ ap (λ b. bytes_eq account.0 to && b) (bytes_eq-sym coin.denom account.1) ∙ sym (same_account account (to, coin.denom)) ∙ both.0 in
    ap (λ n. cond (bytes_eq to account.0) n 0) (sum_by-cons (share account.1) coin coins)
    ∙ part_by (bytes_eq to account.0) (bytes_eq coin.denom account.1) coin.amount (amount_in coins account.1) here (no_part to coins account both.1)

moved_nothing : (p q : Bool) (x : ℕ) → x - cond p 0 0 + cond q 0 0 ≡ x
moved_nothing true true x = omega arith
moved_nothing true false x = omega arith
moved_nothing false true x = omega arith
moved_nothing false false x = omega arith

zero_moved : (x lost gained : ℕ) → x ≡ 0 → gained ≡ 0 → x - lost + gained ≡ 0
zero_moved x lost gained none more = omega arith

pub all_sent : (s t : State) (from to : List ℕ) (coins : List Coin) (left : List ℕ) → PartlySent s from to coins [] left t → IsSent s from to coins t
all_sent s t from to coins left so =
    let balances = λ (a d : List ℕ). sym (moved_nothing (bytes_eq from a) (bytes_eq to a) (balance t a d)) ∙ so.moves a d in
    record {
      enough = so.had;
      state = so.others
          ∙ ap (λ (m : FinMap addressed_cmp ℕ). record s { balances = m })
          (made addressed_total addressed_exact t.balances (λ (q : Addressed). moved (balance s) from to coins q.0 q.1) (accounts_with s to coins) (λ q n found. (so.lawful.accounts q.0 q.1 n found).0) (λ q. balances q.0 q.1)
          (λ q e.
          let both = any_joined (eq_by_cmp addressed_cmp q) (finite.keys s.balances) (map (λ (coin : Coin). (to, coin.denom)) coins) e in
          zero_moved (balance s q.0 q.1) (part from q.0 coins q.1) (part to q.0 coins q.1) (no_entry s q both.0) (no_part to coins q both.1)));
      balances = balances;
      totals = so.totals;
      lawful = so.lawful;
    }
