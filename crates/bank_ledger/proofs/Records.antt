-- Amounts written under keys, of which 0 has no record.
use Rattle.std.proofs.Common.{◌≡◌, ℕ, ◌<◌, Bool, true, false, cond, List, [], ◌∷◌, Option, Some, None, refl, sym, ap, ◌∙◌, arith, ◌||◌, eqb, inl, inr}
use Rattle.std.specs.Option.{unwrap_or}
use Rattle.std.specs.List.{list_any}
use Rattle.std.specs.declared.cmp.Ordering.{Ordering}
use Rattle.std.specs.Ordering.{eq_by_cmp}
use Rattle.std.specs.Cmp.{IsTotalOrder}
use Rattle.std.specs.FinMap.{FinMap, get, insert, remove, IsAntisymmetric, same_map, get-insert, get-remove, get-empty}
use Rattle.std.proofs.lemmas.Bool.Decides.{eqb_tells}
use Rattle.bank_ledger.specs.Accounts.{amounts_at}
use Rattle.bank_ledger.specs.Amounts.{with_record}
use Rattle.bank_ledger.proofs.Orders.{equal_of}

abbrev nothing : Option ℕ
nothing = None

-- the record of an amount
abbrev pub record_of : ℕ → Option ℕ
record_of n = cond (eqb n 0) None (Some n)

abbrev pub amount_of : Option ℕ → ℕ
amount_of found = unwrap_or found 0

pub amount_of_record : (n : ℕ) → amount_of (record_of n) ≡ n
amount_of_record n = elim (eqb_tells n 0) [
  | inl p ↦ ap (λ b. amount_of (cond b None (Some n))) p.0 ∙ sym p.1
  | inr p ↦ ap (λ b. amount_of (cond b None (Some n))) p.0
]

pub record_of_zero : (n : ℕ) → n ≡ 0 → record_of n ≡ None
record_of_zero n e = ap record_of e

-- an amount above 0 has the record that it is
pub record_of_amount : (found : Option ℕ) → ((n : ℕ) → found ≡ Some n → 0 < n) → found ≡ record_of (amount_of found)
record_of_amount None positive = refl
record_of_amount (Some n) positive = let some = positive n refl in elim (eqb_tells n 0) [
  | inl p ↦ absurd (omega (arith, p.1))
  | inr p ↦ sym (ap (λ b. cond b None (Some n)) p.0)
]

-- a record is above 0
pub record_positive : (n m : ℕ) → record_of n ≡ Some m → (m ≡ n) × (0 < m)
record_positive n m e = elim (eqb_tells n 0) [
  | inl p ↦ let none = sym e ∙ record_of_zero n p.1 in absurd cc
  | inr p ↦ let some = sym (ap (λ b. cond b None (Some n)) p.0) ∙ e in let same : m ≡ n = cc in (same, omega arith)
]

module _ {K : Type 0} {R : K → K → Ordering} (o : IsTotalOrder R) where
  with_either : (b : Bool) (m : FinMap R ℕ) (k : K) (n : ℕ) (q : K) → get (cond b (remove m k) (insert m k n)) q ≡ cond (eq_by_cmp R q k) (cond b None (Some n)) (get m q)
  with_either true m k n q = get-remove o m k q
  with_either false m k n q = get-insert o m k n q

  pub get_with_record : (m : FinMap R ℕ) (k : K) (n : ℕ) (q : K) → get (with_record m k n) q ≡ cond (eq_by_cmp R q k) (record_of n) (get m q)
  get_with_record m k n q = with_either (eqb n 0) m k n q

  amount_either : (b : Bool) (n : ℕ) (found : Option ℕ) → amount_of (cond b (record_of n) found) ≡ cond b n (amount_of found)
  amount_either true n found = amount_of_record n
  amount_either false n found = refl

  pub amount_with_record : (m : FinMap R ℕ) (k : K) (n : ℕ) (q : K) → amount_of (get (with_record m k n) q) ≡ cond (eq_by_cmp R q k) n (amount_of (get m q))
  amount_with_record m k n q = ap amount_of (get_with_record m k n q) ∙ amount_either (eq_by_cmp R q k) n (get m q)

  -- ---- maps made of the amounts under some keys

  put_first : (same zero : Bool) (n : ℕ) (rest found : Option ℕ) → (same ≡ true → cond zero None (Some n) ≡ found) → (zero ≡ true → same ≡ true → found ≡ None) → (any : Bool) → rest ≡ cond any found None
      → cond zero rest (cond same (Some n) rest) ≡ cond (same || any) found None
  put_first true true n rest found is none any e = e ∙ ap (λ f. cond any f None) (none refl refl) ∙ cond_none any ∙ sym (none refl refl)
    where
      cond_none : (b : Bool) → cond b nothing None ≡ None
      cond_none true = refl
      cond_none false = refl
  put_first true false n rest found is none any e = is refl
  put_first false true n rest found is none any e = e
  put_first false false n rest found is none any e = e

  get_either : (zero : Bool) (m : FinMap R ℕ) (k : K) (n : ℕ) (q : K) → get (cond zero m (insert m k n)) q ≡ cond zero (get m q) (cond (eq_by_cmp R q k) (Some n) (get m q))
  get_either true m k n q = refl
  get_either false m k n q = get-insert o m k n q

  pub get_amounts_at : IsAntisymmetric R → (f : K → ℕ) (ks : List K) (q : K) → get (amounts_at {R = R} f ks) q ≡ cond (list_any (eq_by_cmp R q) ks) (record_of (f q)) None
  get_amounts_at exact f [] q = get-empty R q
  get_amounts_at exact f (k ∷ ks) q =
      get_either (eqb (f k) 0) (amounts_at f ks) k (f k) q
      ∙ put_first (eq_by_cmp R q k) (eqb (f k) 0) (f k) (get (amounts_at {R = R} f ks) q) (record_of (f q)) here none (list_any (eq_by_cmp R q) ks) (get_amounts_at exact f ks q)
    where
      same : eq_by_cmp R q k ≡ true → q ≡ k
      same e = exact q k (equal_of (R q k) e)

      here : eq_by_cmp R q k ≡ true → record_of (f k) ≡ record_of (f q)
      here e = ap (λ (x : K). record_of (f x)) (sym (same e))

      none : eqb (f k) 0 ≡ true → eq_by_cmp R q k ≡ true → record_of (f q) ≡ None
      none z e = sym (here e) ∙ ap (λ (b : Bool). cond b None (Some (f k))) z

  none_else : (any : Bool) (n : ℕ) → (any ≡ false → n ≡ 0) → record_of n ≡ cond any (record_of n) None
  none_else true n zero = refl
  none_else false n zero = record_of_zero n (zero refl)

  -- a map without a record of 0 is the one made of its amounts, under any keys that have all that aren't 0
  pub made : IsAntisymmetric R → (m : FinMap R ℕ) (f : K → ℕ) (ks : List K) → ((q : K) (n : ℕ) → get m q ≡ Some n → 0 < n) → ((q : K) → amount_of (get m q) ≡ f q) → ((q : K) → list_any (eq_by_cmp R q) ks ≡ false → f q ≡ 0)
      → m ≡ amounts_at f ks
  made exact m f ks positive is zero = same_map o exact m (amounts_at f ks) (λ q.
      record_of_amount (get m q) (positive q) ∙ ap record_of (is q) ∙ none_else (list_any (eq_by_cmp R q) ks) (f q) (zero q) ∙ sym (get_amounts_at exact f ks q))
