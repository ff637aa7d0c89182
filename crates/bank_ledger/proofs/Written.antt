-- What writing one amount does to the state.
use Rattle.std.proofs.Common.{◌≡◌, ◌≢◌, ℕ, Bool, true, false, cond, List, Option, Some, None, refl, ap, ◌∙◌, subst, inl, inr}
use Rattle.std.specs.Option.{option_map}
use Rattle.std.specs.Ordering.{eq_by_cmp}
use Rattle.std.specs.Cmp.{IsTotalOrder, eq_by_cmp_equiv}
use Rattle.std.specs.Cmp.Lexicographic.{nat_list_cmp_total}
use Rattle.std.specs.declared.cmp.Ordering.{Ordering}
use Rattle.std.specs.FinMap.{FinMap, get, insert, remove, IsAntisymmetric}
use Rattle.std.proofs.lemmas.Map.Lookups.{exact_bytes}
use Rattle.std.proofs.lemmas.Bool.Decides.{eqb_tells}
use Rattle.chain_records.specs.Keys.{PlainKey, key_bytes, IsKey, IsKeyOf}
use Rattle.chain_records.specs.Keys as keys
use Rattle.chain_records.specs.Records.{PlainStored, amount, IsRecordOf}
use Rattle.chain_records.specs.State.{Bytes, Addressed, State, entry_of, Spells, ChangesOnly}
use Rattle.chain_records.specs.Laws.{SpellsWritten, SpellsRemoved}
use Rattle.bank_ledger.specs.Amounts.{with_record, with_amount}
use Rattle.bank_ledger.specs.Steps.{IsAmountKey}
use Rattle.bank_ledger.proofs.Orders.{addressed_total, addressed_exact, equal_of}
use Rattle.bank_ledger.proofs.Records.{record_of, record_of_zero, get_with_record}

module _ {K : Type 0} {R : K → K → Ordering} (o : IsTotalOrder R) (exact : IsAntisymmetric R) where
  differs : (q k : K) → q ≢ k → eq_by_cmp R q k ≡ false
  differs q k n = go (eq_by_cmp R q k) refl
    where
      go : (b : Bool) → eq_by_cmp R q k ≡ b → b ≡ false
      go true e = absurd (n (exact q k (equal_of (R q k) e)))
      go false e = refl

  record_here : (m : FinMap R ℕ) (k : K) (n : ℕ) → option_map amount (get (with_record m k n) k) ≡ option_map amount (record_of n)
  record_here m k n = ap (option_map amount) (get_with_record o m k n k ∙ ap (λ b. cond b (record_of n) (get m k)) ((eq_by_cmp_equiv o).refl k))

  record_else : (m : FinMap R ℕ) (k : K) (n : ℕ) (q : K) → q ≢ k → option_map amount (get (with_record m k n) q) ≡ option_map amount (get m q)
  record_else m k n q other = ap (option_map amount) (get_with_record o m k n q ∙ ap (λ b. cond b (record_of n) (get m q)) (differs q k other))

pair_of : (a d b e : List ℕ) → keys.balance a d ≢ keys.balance b e → let p : Addressed = (a, d) in let q : Addressed = (b, e) in p ≢ q
pair_of a d b e other same = other (ap (λ (p : Addressed). keys.balance p.0 p.1) same)

-- only the record under the key changes
changes : (s : State) (key : PlainKey) (n : ℕ) → IsAmountKey key → ChangesOnly s (with_amount s key n) key (option_map amount (record_of n))
unfolding entry_of
changes s (keys.balance a d) n is = record { changed = record_here addressed_total addressed_exact s.balances (a, d) n; others = others }
  where
    others : (other : PlainKey) → other ≢ keys.balance a d → entry_of (with_amount s (keys.balance a d) n) other ≡ entry_of s other
    others (keys.balance b e) differ = record_else addressed_total addressed_exact s.balances (a, d) n (b, e) (pair_of b e a d differ)
    others keys.facts differ = refl
    others keys.counters differ = refl
    others (keys.supply denom) differ = refl
    others (keys.code id) differ = refl
    others (keys.code_info id) differ = refl
    others (keys.pin id) differ = refl
    others (keys.contract addr) differ = refl
    others (keys.storage addr key) differ = refl
changes s (keys.supply d) n is = record { changed = record_here nat_list_cmp_total exact_bytes s.supplies d n; others = others }
  where
    others : (other : PlainKey) → other ≢ keys.supply d → entry_of (with_amount s (keys.supply d) n) other ≡ entry_of s other
    others (keys.supply e) differ = record_else nat_list_cmp_total exact_bytes s.supplies d n e (λ same. differ (ap keys.supply same))
    others keys.facts differ = refl
    others keys.counters differ = refl
    others (keys.balance addr denom) differ = refl
    others (keys.code id) differ = refl
    others (keys.code_info id) differ = refl
    others (keys.pin id) differ = refl
    others (keys.contract addr) differ = refl
    others (keys.storage addr key) differ = refl
changes s keys.facts n is = absurd is
changes s keys.counters n is = absurd is
changes s (keys.code id) n is = absurd is
changes s (keys.code_info id) n is = absurd is
changes s (keys.pin id) n is = absurd is
changes s (keys.contract addr) n is = absurd is
changes s (keys.storage addr key) n is = absurd is

abbrev no_record : Option PlainStored
no_record = None

pub spells_removed : SpellsRemoved → (map : Bytes) (s : State) (key : PlainKey) (n : ℕ) (place : List ℕ) → IsAmountKey key → IsKeyOf place key → n ≡ 0 → Spells map s → Spells (remove map place) (with_amount s key n)
spells_removed law map s key n place is of zero spelled =
    let change : ChangesOnly s (with_amount s key n) key no_record = subst (λ (r : Option PlainStored). ChangesOnly s (with_amount s key n) key r) (ap (option_map amount) (record_of_zero n zero)) (changes s key n is) in
    subst (λ (k : List ℕ). Spells (remove map k) (with_amount s key n)) of.same (law map s (with_amount s key n) key spelled of.is_key change)

pub spells_written : SpellsWritten → (map : Bytes) (s : State) (key : PlainKey) (n : ℕ) (place bytes : List ℕ) → IsAmountKey key → IsKeyOf place key → IsRecordOf bytes (amount n) → n ≢ 0 → Spells map s
    → Spells (insert map place bytes) (with_amount s key n)
spells_written law map s key n place bytes is of stored some spelled =
    let is_some : record_of n ≡ Some n = elim (eqb_tells n 0) [ inl p ↦ absurd (some p.1) | inr p ↦ ap (λ b. cond b None (Some n)) p.0 ] in
    let change : ChangesOnly s (with_amount s key n) key (Some (amount n)) = subst (λ (r : Option PlainStored). ChangesOnly s (with_amount s key n) key r) (ap (option_map amount) is_some) (changes s key n is) in
    subst (λ (k : List ℕ). Spells (insert map k bytes) (with_amount s key n)) of.same
    (subst (λ (v : List ℕ). Spells (insert map (key_bytes key) v) (with_amount s key n)) stored.same (law map s (with_amount s key n) key (amount n) spelled of.is_key stored.is_record change))
