-- Balances, supplies and totals after one amount changed.
use Rattle.std.proofs.Common.{◌≡◌, ℕ, ◌+◌, ◌-◌, ◌<◌, ◌≤◌, Bool, true, false, cond, ◌&&◌, List, Option, Some, None, refl, sym, ap, ◌∙◌, subst, arith}
use Rattle.std.specs.Str.{bytes_eq}
use Rattle.std.specs.Ordering.{nat_cmp, eq_by_cmp}
use Rattle.std.specs.Cmp.Lexicographic.{slice_cmp, nat_list_cmp_total}
use Rattle.std.specs.FinMap.{get}
use Rattle.std.proofs.lemmas.Bool.Decides.{same_from_decides, Decides-like}
use Rattle.std.proofs.lemmas.Map.Lookups.{exact_bytes}
use Rattle.std.proofs.lemmas.Map.Text.{is_eq-slice_cmp}
use Rattle.std.proofs.lemmas.Slice.Eq.{bytes_eq-Decides}
use Rattle.coin_amounts.specs.Denom.{IsDenom}
use Rattle.chain_records.specs.Keys as keys
use Rattle.chain_records.specs.State.{Addressed, addressed_cmp, State}
use Rattle.chain_records.specs.Keys.{IsAddress}
use Rattle.bank_ledger.specs.Accounts.{balance, supply, counted, total}
use Rattle.bank_ledger.specs.Amounts.{with_amount, with_more}
use Rattle.bank_ledger.specs.Steps.{with_less}
use Rattle.bank_ledger.proofs.Orders.{addressed_total, addressed_exact, same_account, equal_of}
use Rattle.bank_ledger.proofs.Records.{record_of, amount_of, get_with_record, amount_with_record, record_positive}
use Rattle.bank_ledger.proofs.Sums.{sum_with_record, one_within}

pub bytes_eq-sym : (x y : List ℕ) → bytes_eq x y ≡ bytes_eq y x
bytes_eq-sym x y = same_from_decides {P = x ≡ y} (bytes_eq x y) (bytes_eq y x) (bytes_eq-Decides x y) (Decides-like (bytes_eq y x) (λ e. sym e) (λ e. sym e) (bytes_eq-Decides y x))

-- ---- balances

balance_with : (s : State) (addr denom : List ℕ) (n : ℕ) (a e : List ℕ) → balance (with_amount s (keys.balance addr denom) n) a e ≡ cond (bytes_eq addr a && bytes_eq denom e) n (balance s a e)
balance_with s addr denom n a e =
    amount_with_record addressed_total s.balances (addr, denom) n (a, e)
    ∙ ap (λ b. cond b n (balance s a e)) (same_account (a, e) (addr, denom) ∙ ap (λ b. b && bytes_eq e denom) (bytes_eq-sym a addr) ∙ ap (λ b. bytes_eq addr a && b) (bytes_eq-sym e denom))

same_balance : (s : State) (addr denom a e : List ℕ) → bytes_eq addr a ≡ true → bytes_eq denom e ≡ true → balance s addr denom ≡ balance s a e
same_balance s addr denom a e p q = ap (λ (x : List ℕ). balance s x denom) ((bytes_eq-Decides addr a).0 p) ∙ ap (λ (x : List ℕ). balance s a x) ((bytes_eq-Decides denom e).0 q)

less_by : (p q : Bool) (n here there : ℕ) → (p ≡ true → q ≡ true → here ≡ there) → cond (p && q) (here - n) there ≡ there - cond q (cond p n 0) 0
less_by true true n here there same = ap (λ x. x - n) (same refl refl)
less_by true false n here there same = omega arith
less_by false true n here there same = omega arith
less_by false false n here there same = omega arith

more_by : (p q : Bool) (n here there : ℕ) → (p ≡ true → q ≡ true → here ≡ there) → cond (p && q) (here + n) there ≡ there + cond q (cond p n 0) 0
more_by true true n here there same = ap (λ x. x + n) (same refl refl)
more_by true false n here there same = omega arith
more_by false true n here there same = omega arith
more_by false false n here there same = omega arith

pub balance_less : (s : State) (addr denom : List ℕ) (n : ℕ) (a e : List ℕ) → balance (with_less s (keys.balance addr denom) n) a e ≡ balance s a e - cond (bytes_eq denom e) (cond (bytes_eq addr a) n 0) 0
balance_less s addr denom n a e =
    balance_with s addr denom (balance s addr denom - n) a e ∙ less_by (bytes_eq addr a) (bytes_eq denom e) n (balance s addr denom) (balance s a e) (same_balance s addr denom a e)

pub balance_more : (s : State) (addr denom : List ℕ) (n : ℕ) (a e : List ℕ) → balance (with_more s (keys.balance addr denom) n) a e ≡ balance s a e + cond (bytes_eq denom e) (cond (bytes_eq addr a) n 0) 0
balance_more s addr denom n a e =
    balance_with s addr denom (balance s addr denom + n) a e ∙ more_by (bytes_eq addr a) (bytes_eq denom e) n (balance s addr denom) (balance s a e) (same_balance s addr denom a e)

-- ---- supplies

less_there : (q : Bool) (n here there : ℕ) → (q ≡ true → here ≡ there) → cond q (here - n) there ≡ there - cond q n 0
less_there true n here there same = ap (λ x. x - n) (same refl)
less_there false n here there same = omega arith

pub supply_less : (s : State) (denom : List ℕ) (n : ℕ) (e : List ℕ) → supply (with_less s (keys.supply denom) n) e ≡ supply s e - cond (bytes_eq denom e) n 0
supply_less s denom n e =
    amount_with_record nat_list_cmp_total s.supplies denom (supply s denom - n) e
    ∙ ap (λ b. cond b (supply s denom - n) (supply s e)) (is_eq-slice_cmp e denom ∙ bytes_eq-sym e denom)
    ∙ less_there (bytes_eq denom e) n (supply s denom) (supply s e) (λ q. ap (supply s) ((bytes_eq-Decides denom e).0 q))

more_there : (q : Bool) (n here there : ℕ) → (q ≡ true → here ≡ there) → cond q (here + n) there ≡ there + cond q n 0
more_there true n here there same = ap (λ x. x + n) (same refl)
more_there false n here there same = omega arith

pub supply_more : (s : State) (denom : List ℕ) (n : ℕ) (e : List ℕ) → supply (with_more s (keys.supply denom) n) e ≡ supply s e + cond (bytes_eq denom e) n 0
supply_more s denom n e =
    amount_with_record nat_list_cmp_total s.supplies denom (supply s denom + n) e
    ∙ ap (λ b. cond b (supply s denom + n) (supply s e)) (is_eq-slice_cmp e denom ∙ bytes_eq-sym e denom)
    ∙ more_there (bytes_eq denom e) n (supply s denom) (supply s e) (λ q. ap (supply s) ((bytes_eq-Decides denom e).0 q))

-- ---- totals

abbrev pub none : ℕ
none = 0

nothing_counted : (denom : List ℕ) (account : Addressed) → counted denom (account, 0) ≡ 0
nothing_counted denom account = go (bytes_eq account.1 denom)
  where
    go : (b : Bool) → cond b none 0 ≡ 0
    go true = refl
    go false = refl

total_with : (s : State) (addr denom : List ℕ) (n : ℕ) (e : List ℕ) → total (with_amount s (keys.balance addr denom) n) e + cond (bytes_eq denom e) (balance s addr denom) 0 ≡ total s e + cond (bytes_eq denom e) n 0
total_with s addr denom n e = sum_with_record addressed_total addressed_exact (counted e) (nothing_counted e) s.balances (addr, denom) n

pub balance_within : (s : State) (addr denom e : List ℕ) → cond (bytes_eq denom e) (balance s addr denom) 0 ≤ total s e
balance_within s addr denom e = one_within addressed_total addressed_exact (counted e) (nothing_counted e) s.balances (addr, denom)

pub balance_below : (s : State) (addr denom : List ℕ) → balance s addr denom ≤ total s denom
balance_below s addr denom =
    subst (λ (b : Bool). cond b (balance s addr denom) 0 ≤ total s denom) ((bytes_eq-Decides denom denom).1 refl) (balance_within s addr denom denom)

total_less_by : (q : Bool) (n here before after : ℕ) → n ≤ here → cond q here 0 ≤ before → after + cond q here 0 ≡ before + cond q (here - n) 0 → (after ≡ before - cond q n 0) × (cond q n 0 ≤ before)
total_less_by true n here before after enough within e = (omega arith, omega arith)
total_less_by false n here before after enough within e = (omega arith, omega arith)

total_more_by : (q : Bool) (n here before after : ℕ) → after + cond q here 0 ≡ before + cond q (here + n) 0 → after ≡ before + cond q n 0
total_more_by true n here before after e = omega arith
total_more_by false n here before after e = omega arith

pub total_less : (s : State) (addr denom : List ℕ) (n : ℕ) (e : List ℕ) → n ≤ balance s addr denom
    → (total (with_less s (keys.balance addr denom) n) e ≡ total s e - cond (bytes_eq denom e) n 0) × (cond (bytes_eq denom e) n 0 ≤ total s e)
total_less s addr denom n e enough =
    total_less_by (bytes_eq denom e) n (balance s addr denom) (total s e) (total (with_less s (keys.balance addr denom) n) e) enough (balance_within s addr denom e) (total_with s addr denom (balance s addr denom - n) e)

pub total_more : (s : State) (addr denom : List ℕ) (n : ℕ) (e : List ℕ) → total (with_more s (keys.balance addr denom) n) e ≡ total s e + cond (bytes_eq denom e) n 0
total_more s addr denom n e =
    total_more_by (bytes_eq denom e) n (balance s addr denom) (total s e) (total (with_more s (keys.balance addr denom) n) e) (total_with s addr denom (balance s addr denom + n) e)

-- ---- records that a lawful state may have

abbrev pub HasLawfulAccounts : State → Type 0
HasLawfulAccounts s = (addr denom : List ℕ) (n : ℕ) → get s.balances (addr, denom) ≡ Some n → (0 < n) × IsDenom denom × IsAddress addr

abbrev pub HasLawfulSupplies : State → Type 0
HasLawfulSupplies s = (denom : List ℕ) (n : ℕ) → get s.supplies denom ≡ Some n → (0 < n) × IsDenom denom

pub accounts_with_amount : (s : State) (addr denom : List ℕ) (n : ℕ) → IsDenom denom → IsAddress addr → HasLawfulAccounts s → HasLawfulAccounts (with_amount s (keys.balance addr denom) n)
accounts_with_amount s addr denom n is_denom is_address lawful a e m found =
    go (eq_by_cmp addressed_cmp (a, e) (addr, denom)) refl (sym (get_with_record addressed_total s.balances (addr, denom) n (a, e)) ∙ found)
  where
    go : (b : Bool) → eq_by_cmp addressed_cmp (a, e) (addr, denom) ≡ b → cond b (record_of n) (get s.balances (a, e)) ≡ Some m → (0 < m) × IsDenom e × IsAddress a
    go true t r =
        let same : ◌≡◌ {A = Addressed} (a, e) (addr, denom) = addressed_exact (a, e) (addr, denom) (equal_of (addressed_cmp (a, e) (addr, denom)) t) in
        ((record_positive n m r).1, subst IsDenom (sym (ap (λ (p : Addressed). p.1) same)) is_denom, subst IsAddress (sym (ap (λ (p : Addressed). p.0) same)) is_address)
    go false t r = lawful a e m r

pub supplies_with_amount : (s : State) (denom : List ℕ) (n : ℕ) → IsDenom denom → HasLawfulSupplies s → HasLawfulSupplies (with_amount s (keys.supply denom) n)
supplies_with_amount s denom n is_denom lawful e m found =
    go (eq_by_cmp (slice_cmp nat_cmp) e denom) refl (sym (get_with_record nat_list_cmp_total s.supplies denom n e) ∙ found)
  where
    go : (b : Bool) → eq_by_cmp (slice_cmp nat_cmp) e denom ≡ b → cond b (record_of n) (get s.supplies e) ≡ Some m → (0 < m) × IsDenom e
    go true t r = ((record_positive n m r).1, subst IsDenom (sym (exact_bytes e denom (equal_of (slice_cmp nat_cmp e denom) t))) is_denom)
    go false t r = lawful e m r

has_record : (found : Option ℕ) → 0 < amount_of found → (n : ℕ) × (found ≡ Some n)
has_record None h = absurd (omega arith)
has_record (Some n) h = (n, refl)

-- what is held is of a denom
pub denom_held : (s : State) (addr denom : List ℕ) → HasLawfulAccounts s → 0 < balance s addr denom → IsDenom denom
denom_held s addr denom lawful some = let r = has_record (get s.balances (addr, denom)) some in (lawful addr denom r.0 r.1).1
