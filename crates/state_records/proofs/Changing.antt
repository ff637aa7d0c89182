-- Which one record differs between two states.
use Rattle.std.proofs.Common.{◌≡◌, ◌≢◌, ℕ, Bool, true, false, cond, List, Option, Some, None, refl, ap, ◌∙◌, subst}
use Rattle.std.specs.Option.{option_map}
use Rattle.std.specs.declared.cmp.Ordering.{Ordering}
use Rattle.std.specs.declared.cmp.Ordering.TheVariants.{Less, Equal, Greater}
use Rattle.std.specs.Ordering.{is_eq, eq_by_cmp}
use Rattle.std.specs.Cmp.{IsTotalOrder, eq_by_cmp_equiv}
use Rattle.std.specs.Cmp.Lexicographic.{nat_list_cmp_total}
use Rattle.std.specs.FinMap.{FinMap, get, insert, remove, IsAntisymmetric, get-insert, get-remove, nat_cmp-IsAntisymmetric}
use Rattle.std.proofs.lemmas.Cmp.{nat_cmp_total}
use Rattle.std.proofs.lemmas.Map.Lookups.{exact_bytes}
use Rattle.chain_records.specs.declared.record.Counters.{Counters}
use Rattle.chain_records.specs.Keys.{PlainKey, key_bytes, IsKeyOf}
use Rattle.chain_records.specs.Keys as keys
use Rattle.chain_records.specs.Laws.{SpellsWritten, SpellsRemoved}
use Rattle.chain_records.specs.Records.{PlainFacts, PlainContract, PlainStored, facts, counters, mark, contract, IsRecordOf}
use Rattle.chain_records.specs.State.{Bytes, State, entry_of, Spells, ChangesOnly}
use Rattle.state_records.specs.Records.{with_facts, with_counters, with_contract, with_pin, without_pin}

equal_of : (r : Ordering) → is_eq r ≡ true → r ≡ Equal
equal_of Less e = absurd cc
equal_of Equal e = refl
equal_of Greater e = absurd cc

module _ {K V : Type 0} {R : K → K → Ordering} (o : IsTotalOrder R) (exact : IsAntisymmetric R) (kind : V → PlainStored) where
  differs : (q k : K) → q ≢ k → eq_by_cmp R q k ≡ false
  differs q k n = go (eq_by_cmp R q k) refl
    where
      go : (b : Bool) → eq_by_cmp R q k ≡ b → b ≡ false
      go true e = absurd (n (exact q k (equal_of (R q k) e)))
      go false e = refl

  inserted_here : (m : FinMap R V) (k : K) (v : V) → option_map kind (get (insert m k v) k) ≡ Some (kind v)
  inserted_here m k v = ap (option_map kind) (get-insert o m k v k ∙ ap (λ b. cond b (Some v) (get m k)) ((eq_by_cmp_equiv o).refl k))

  inserted_else : (m : FinMap R V) (k : K) (v : V) (q : K) → q ≢ k → option_map kind (get (insert m k v) q) ≡ option_map kind (get m q)
  inserted_else m k v q other = ap (option_map kind) (get-insert o m k v q ∙ ap (λ b. cond b (Some v) (get m q)) (differs q k other))

  removed_here : (m : FinMap R V) (k : K) → option_map kind (get (remove m k) k) ≡ None
  removed_here m k = ap (option_map kind) (get-remove o m k k ∙ ap (λ b. cond b None (get m k)) ((eq_by_cmp_equiv o).refl k))

  removed_else : (m : FinMap R V) (k q : K) → q ≢ k → option_map kind (get (remove m k) q) ≡ option_map kind (get m q)
  removed_else m k q other = ap (option_map kind) (get-remove o m k q ∙ ap (λ b. cond b None (get m q)) (differs q k other))

pub only_facts : (s : State) (f : PlainFacts) → ChangesOnly s (with_facts s f) keys.facts (Some (facts f))
unfolding entry_of
only_facts s f = record { changed = refl; others = others }
  where
    others : (other : PlainKey) → other ≢ keys.facts → entry_of (with_facts s f) other ≡ entry_of s other
    others keys.facts differ = absurd (differ refl)
    others keys.counters differ = refl
    others (keys.balance addr denom) differ = refl
    others (keys.supply denom) differ = refl
    others (keys.code id) differ = refl
    others (keys.code_info id) differ = refl
    others (keys.pin id) differ = refl
    others (keys.contract addr) differ = refl
    others (keys.storage addr key) differ = refl

pub only_counters : (s : State) (c : Counters) → ChangesOnly s (with_counters s c) keys.counters (Some (counters c))
unfolding entry_of
only_counters s c = record { changed = refl; others = others }
  where
    others : (other : PlainKey) → other ≢ keys.counters → entry_of (with_counters s c) other ≡ entry_of s other
    others keys.facts differ = refl
    others keys.counters differ = absurd (differ refl)
    others (keys.balance addr denom) differ = refl
    others (keys.supply denom) differ = refl
    others (keys.code id) differ = refl
    others (keys.code_info id) differ = refl
    others (keys.pin id) differ = refl
    others (keys.contract addr) differ = refl
    others (keys.storage addr key) differ = refl

pub only_contract : (s : State) (addr : List ℕ) (c : PlainContract) → ChangesOnly s (with_contract s addr c) (keys.contract addr) (Some (contract c))
unfolding entry_of
only_contract s addr c = record { changed = inserted_here nat_list_cmp_total exact_bytes contract s.contracts addr c; others = others }
  where
    others : (other : PlainKey) → other ≢ keys.contract addr → entry_of (with_contract s addr c) other ≡ entry_of s other
    others keys.facts differ = refl
    others keys.counters differ = refl
    others (keys.balance a denom) differ = refl
    others (keys.supply denom) differ = refl
    others (keys.code id) differ = refl
    others (keys.code_info id) differ = refl
    others (keys.pin id) differ = refl
    others (keys.contract a) differ = inserted_else nat_list_cmp_total exact_bytes contract s.contracts addr c a (λ same. differ (ap keys.contract same))
    others (keys.storage a key) differ = refl

abbrev marked : Unit {0} → PlainStored
marked pin = mark

pub only_pin : (s : State) (id : ℕ) → ChangesOnly s (with_pin s id) (keys.pin id) (Some mark)
unfolding entry_of
only_pin s id = record { changed = inserted_here nat_cmp_total nat_cmp-IsAntisymmetric marked s.pins id tt; others = others }
  where
    others : (other : PlainKey) → other ≢ keys.pin id → entry_of (with_pin s id) other ≡ entry_of s other
    others keys.facts differ = refl
    others keys.counters differ = refl
    others (keys.balance a denom) differ = refl
    others (keys.supply denom) differ = refl
    others (keys.code n) differ = refl
    others (keys.code_info n) differ = refl
    others (keys.pin n) differ = inserted_else nat_cmp_total nat_cmp-IsAntisymmetric marked s.pins id tt n (λ same. differ (ap keys.pin same))
    others (keys.contract a) differ = refl
    others (keys.storage a key) differ = refl

pub only_no_pin : (s : State) (id : ℕ) → ChangesOnly s (without_pin s id) (keys.pin id) None
unfolding entry_of
only_no_pin s id = record { changed = removed_here nat_cmp_total nat_cmp-IsAntisymmetric marked s.pins id; others = others }
  where
    others : (other : PlainKey) → other ≢ keys.pin id → entry_of (without_pin s id) other ≡ entry_of s other
    others keys.facts differ = refl
    others keys.counters differ = refl
    others (keys.balance a denom) differ = refl
    others (keys.supply denom) differ = refl
    others (keys.code n) differ = refl
    others (keys.code_info n) differ = refl
    others (keys.pin n) differ = removed_else nat_cmp_total nat_cmp-IsAntisymmetric marked s.pins id n (λ same. differ (ap keys.pin same))
    others (keys.contract a) differ = refl
    others (keys.storage a key) differ = refl

-- ---- the bytes of a record under those of its key

pub spells_written : SpellsWritten → (map : Bytes) (s t : State) (key : PlainKey) (stored : PlainStored) (place bytes : List ℕ) → IsKeyOf place key → IsRecordOf bytes stored → Spells map s → ChangesOnly s t key (Some stored)
    → Spells (insert map place bytes) t
spells_written law map s t key stored place bytes of is spelled change =
    subst (λ (k : List ℕ). Spells (insert map k bytes) t) of.same
    (subst (λ (v : List ℕ). Spells (insert map (key_bytes key) v) t) is.same (law map s t key stored spelled of.is_key is.is_record change))

abbrev no_record : Option PlainStored
no_record = None

pub spells_removed : SpellsRemoved → (map : Bytes) (s t : State) (key : PlainKey) (place : List ℕ) → IsKeyOf place key → Spells map s → ChangesOnly s t key no_record → Spells (remove map place) t
spells_removed law map s t key place of spelled change = subst (λ (k : List ℕ). Spells (remove map k) t) of.same (law map s t key spelled of.is_key change)
