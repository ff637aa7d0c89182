-- Where some of the coins were burned and others are left.
use Rattle.std.proofs.Common.{◌≡◌, ℕ, ◌-◌, ◌<◌, ◌≤◌, Bool, true, false, cond, List, [], ◌∷◌, Option, Some, None, refl, sym, ap, ◌∙◌, subst, arith}
use Rattle.std.specs.Option.{is_some}
use Rattle.std.specs.Str.{bytes_eq}
use Rattle.std.specs.List.{list_any}
use Rattle.std.specs.Ordering.{nat_cmp, eq_by_cmp}
use Rattle.std.specs.Cmp.Lexicographic.{slice_cmp, nat_list_cmp_total}
use Rattle.std.specs.FinMap.{get, contains_key-keys}
use Rattle.std.specs.FinMap as finite
use Rattle.std.proofs.lemmas.Map.Lookups.{exact_bytes}
use Rattle.coin_amounts.specs.Plain.{Coin}
use Rattle.chain_records.specs.State.{Addressed, State}
use Rattle.chain_records.specs.Keys.{IsAddress}
use Rattle.bank_ledger.specs.Balances.{amount_in, lowered, shortfall}
use Rattle.bank_ledger.specs.Accounts.{balance, supply, total}
use Rattle.bank_ledger.specs.Lawful.{HasLawfulAmounts}
use Rattle.bank_ledger.specs.Effects.{IsBurned}
use Rattle.bank_ledger.specs.Steps.{amounts_left, drained, burned_leaving, CanBurn}
use Rattle.bank_ledger.proofs.Orders.{addressed_total, addressed_exact}
use Rattle.bank_ledger.proofs.Records.{amount_of, made}
use Rattle.bank_ledger.proofs.Changed.{balance_less, balance_below, supply_less, total_less, accounts_with_amount, supplies_with_amount, denom_held}
use Rattle.bank_ledger.proofs.Paying.{AreAbove, one_lowered, lowered_step, lowered_else, shortfall_lowered, same_left, drained_step, enough}
use Rattle.bank_ledger.proofs.Sending.{taken, has_coin, left_first, no_entry}

abbrev pub one_burned : State → List ℕ → Coin → State
one_burned s from coin = drained (taken s from coin) coin

-- some of the coins were burned, and these are what is left of each other
pub record PartlyBurned (s : State) (from : List ℕ) (coins rest : List Coin) (left : List ℕ) (t : State) : Type 0 where
  pub had : shortfall (balance s) from coins ≡ None
  pub lawful : HasLawfulAmounts t
  pub enough : shortfall (balance t) from rest ≡ None
  pub leaves : left ≡ amounts_left (balance t) from rest
  pub lowers : (addr denom : List ℕ) → lowered (balance t) from rest addr denom ≡ lowered (balance s) from coins addr denom
  pub supplies : (denom : List ℕ) → supply t denom - amount_in rest denom ≡ supply s denom - amount_in coins denom
  pub totals : (denom : List ℕ) → total t denom - amount_in rest denom ≡ total s denom - amount_in coins denom
  pub others : t ≡ record s { balances = t.balances; supplies = t.supplies }

pub none_burned : (s : State) (from : List ℕ) (coins : List Coin) (left : List ℕ) → HasLawfulAmounts s → (shortfall (balance s) from coins ≡ None) × (left ≡ amounts_left (balance s) from coins) → PartlyBurned s from coins coins left s
none_burned s from coins left lawful has = record { had = has.0; lawful = lawful; enough = has.0; leaves = has.1; lowers = λ addr denom. refl; supplies = λ denom. refl; totals = λ denom. refl; others = refl }

pub can_burn : (s t : State) (from : List ℕ) (coins : List Coin) (coin : Coin) (rest : List Coin) (left : List ℕ) → PartlyBurned s from coins (coin ∷ rest) left t → CanBurn coin t
can_burn s t from coins coin rest left so = let has = has_coin t from coin rest so.enough in let below = balance_below t from coin.denom in omega (arith, has, below, so.lawful.sums coin.denom)

-- ---- one coin more

one_burned_balance : (t : State) (from : List ℕ) (coin : Coin) (a e : List ℕ) → balance (one_burned t from coin) a e ≡ one_lowered (balance t) from coin a e
one_burned_balance t from coin a e = balance_less t from coin.denom coin.amount a e

one_burned_supply : (t : State) (from : List ℕ) (coin : Coin) (e : List ℕ) → supply (one_burned t from coin) e ≡ supply t e - cond (bytes_eq coin.denom e) coin.amount 0
one_burned_supply t from coin e = supply_less (taken t from coin) coin.denom coin.amount e

one_burned_total : (t : State) (from : List ℕ) (coin : Coin) (e : List ℕ) → coin.amount ≤ balance t from coin.denom → total (one_burned t from coin) e ≡ total t e - cond (bytes_eq coin.denom e) coin.amount 0
one_burned_total t from coin e has = (total_less t from coin.denom coin.amount e has).0

one_burned_lawful : (t : State) (from : List ℕ) (coin : Coin) → IsAddress from → 0 < coin.amount → coin.amount ≤ balance t from coin.denom → HasLawfulAmounts t → HasLawfulAmounts (one_burned t from coin)
one_burned_lawful t from coin is_from positive has lawful =
    let denom = denom_held t from coin.denom lawful.accounts (omega arith) in
    record {
      sums = λ e. one_burned_supply t from coin e ∙ ap (λ n. n - cond (bytes_eq coin.denom e) coin.amount 0) (lawful.sums e) ∙ sym (one_burned_total t from coin e has);
      bounded = λ e. omega (arith, one_burned_supply t from coin e, lawful.bounded e);
      accounts = accounts_with_amount t from coin.denom _ denom is_from lawful.accounts;
      supplies = supplies_with_amount (taken t from coin) coin.denom _ denom lawful.supplies;
    }

with_others : (s t u : State) → t ≡ record s { balances = t.balances; supplies = t.supplies } → u ≡ record t { balances = u.balances; supplies = u.supplies } → u ≡ record s { balances = u.balances; supplies = u.supplies }
with_others s t u first then = then ∙ ap (λ (x : State). record x { balances = u.balances; supplies = u.supplies }) first

pub one_more_burned : (s t : State) (from : List ℕ) (coins : List Coin) (coin : Coin) (rest : List Coin) (left : ℕ) (others : List ℕ) → IsAddress from → 0 < coin.amount → AreAbove coin.denom rest
    → PartlyBurned s from coins (coin ∷ rest) (left ∷ others) t → PartlyBurned s from coins rest others (burned_leaving t from coin left)
one_more_burned s t from coins coin rest left others is_from positive above so =
    let has = has_coin t from coin rest so.enough in
    let next = enough (balance t) from coin rest so.enough in
    let first = left_first t from coin rest left others so.leaves in
    let burned : PartlyBurned s from coins rest others (one_burned t from coin) = record {
      had = so.had;
      lawful = one_burned_lawful t from coin is_from positive has so.lawful;
      enough = shortfall_lowered (balance t) (balance (one_burned t from coin)) from coin rest above (one_burned_balance t from coin) ∙ next.1;
      leaves = first.1 ∙ sym (same_left (balance t) (balance (one_burned t from coin)) from coin.denom rest above (λ denom differs. lowered_else (balance t) (balance (one_burned t from coin)) from coin denom differs (one_burned_balance t from coin)));
      lowers = λ addr denom. lowered_step (balance t) (balance (one_burned t from coin)) from coin rest (one_burned_balance t from coin) addr denom ∙ so.lowers addr denom;
      supplies = λ denom. ap (λ n. n - amount_in rest denom) (one_burned_supply t from coin denom) ∙ drained_step (supply t denom) coin rest denom ∙ so.supplies denom;
      totals = λ denom. ap (λ n. n - amount_in rest denom) (one_burned_total t from coin denom has) ∙ drained_step (total t denom) coin rest denom ∙ so.totals denom;
      others = with_others s t (one_burned t from coin) so.others refl;
    } in
    subst (λ (n : ℕ). PartlyBurned s from coins rest others (burned_leaving t from coin n)) (sym first.0) burned

-- ---- all coins

no_supply : (s : State) (denom : List ℕ) → list_any (eq_by_cmp (slice_cmp nat_cmp) denom) (finite.keys s.supplies) ≡ false → supply s denom ≡ 0
no_supply s denom absent = go (get s.supplies denom) (contains_key-keys s.supplies denom ∙ absent)
  where
    go : (found : Option ℕ) → is_some found ≡ false → amount_of found ≡ 0
    go None e = refl
    go (Some n) e = absurd cc

lowered_nothing : (p : Bool) (x : ℕ) → x - cond p 0 0 ≡ x
lowered_nothing true x = omega arith
lowered_nothing false x = omega arith

zero_lowered : (x lost : ℕ) → x ≡ 0 → x - lost ≡ 0
zero_lowered x lost e = omega arith

pub all_burned : (s t : State) (from : List ℕ) (coins : List Coin) (left : List ℕ) → PartlyBurned s from coins [] left t → IsBurned s from coins t
all_burned s t from coins left so =
    let balances = λ (a d : List ℕ). sym (lowered_nothing (bytes_eq from a) (balance t a d)) ∙ so.lowers a d in
    let supplies = λ (d : List ℕ). let nothing : supply t d - 0 ≡ supply t d = omega arith in sym nothing ∙ so.supplies d in
    let new_balances = made addressed_total addressed_exact t.balances (λ (q : Addressed). lowered (balance s) from coins q.0 q.1) (finite.keys s.balances) (λ q n found. (so.lawful.accounts q.0 q.1 n found).0) (λ q. balances q.0 q.1)
    (λ q e. zero_lowered (balance s q.0 q.1) _ (no_entry s q e)) in
    let new_supplies = made nat_list_cmp_total exact_bytes t.supplies (λ (d : List ℕ). supply s d - amount_in coins d) (finite.keys s.supplies) (λ d n found. (so.lawful.supplies d n found).0) supplies (λ d e. zero_lowered (supply s d) _ (no_supply s d e)) in
    record {
      enough = so.had;
      state = so.others ∙ (λ i. record s { balances = new_balances i; supplies = new_supplies i });
      balances = balances;
      supplies = supplies;
      totals = λ d. let nothing : total t d - 0 ≡ total t d = omega arith in sym nothing ∙ so.totals d;
      lawful = so.lawful;
    }
