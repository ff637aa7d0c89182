-- A map of bytes spells at most one state, and what it has under a key is the record of that state.
use Rattle.std.proofs.Common.{◌≡◌, ◌≢◌, ℕ, true, false, List, Option, Some, None, refl, sym, ap, subst, ◌∙◌, inl, inr, ◌⊎◌}
use Rattle.std.specs.Option.{option_map}
use Rattle.std.specs.declared.cmp.Ordering.{Ordering}
use Rattle.std.specs.declared.cmp.Ordering.TheVariants.{Less, Equal, Greater}
use Rattle.std.specs.Ordering.{nat_cmp, is_eq, eq_by_cmp}
use Rattle.std.specs.Cmp.Lexicographic.{slice_cmp}
use Rattle.std.specs.Cmp.{IsTotalOrder}
use Rattle.std.specs.FinMap.{get, IsAntisymmetric, same_map, nat_cmp-IsAntisymmetric}
use Rattle.std.proofs.lemmas.Cmp.{nat_cmp_total, nat_list_cmp_total, on_total, then_total, tied_itself}
use Rattle.std.proofs.lemmas.Map.Lookups.{exact_bytes, exact_pairs}
use Rattle.std.proofs.lemmas.Bool.Decides.{eqb_tells}
use Rattle.chain_records.specs.Keys.{PlainKey, key_bytes, IsKey, IsKeyOf}
use Rattle.chain_records.specs.Keys as keys
use Rattle.chain_records.specs.Records.{PlainStored, facts, counters, amount, code_bytes, code_info, mark, contract, value, stored_bytes, Belongs}
use Rattle.chain_records.specs.State.{Bytes, Addressed, addressed_cmp, Code, State, entry_of, Spells, IsFound}
use Rattle.chain_records.proofs.RecordLaws.{same_record}

-- ---- orders

abbrev given : PlainStored → Option PlainStored
given stored = Some stored

abbrev nothing : Option PlainStored
nothing = None

pub addressed_total : IsTotalOrder addressed_cmp
addressed_total = then_total (on_total (λ (p : Addressed). p.0) nat_list_cmp_total) (on_total (λ (p : Addressed). p.1) nat_list_cmp_total)

pub addressed_exact : IsAntisymmetric addressed_cmp
addressed_exact = exact_pairs (slice_cmp nat_cmp) (slice_cmp nat_cmp) exact_bytes exact_bytes

-- ---- lists and keys that are the same or not

pub list_cases : (a b : List ℕ) → (a ≡ b) ⊎ (a ≢ b)
list_cases a b = go (slice_cmp nat_cmp a b) refl
  where
    tied : a ≡ b → slice_cmp nat_cmp a b ≡ Equal
    tied p = ap (λ (c : List ℕ). slice_cmp nat_cmp a c) (sym p) ∙ tied_itself nat_list_cmp_total a

    go : (r : Ordering) → slice_cmp nat_cmp a b ≡ r → (a ≡ b) ⊎ (a ≢ b)
    go Less e = inr (λ p. let t = tied p in absurd cc)
    go Equal e = inl (exact_bytes a b e)
    go Greater e = inr (λ p. let t = tied p in absurd cc)

pub same_bytes : (a b : List ℕ) → a ≡ b → eq_by_cmp (slice_cmp nat_cmp) a b ≡ true
same_bytes a b p = ap (λ (c : List ℕ). eq_by_cmp (slice_cmp nat_cmp) a c) (sym p) ∙ ap is_eq (tied_itself nat_list_cmp_total a)

pub other_bytes : (a b : List ℕ) → a ≢ b → eq_by_cmp (slice_cmp nat_cmp) a b ≡ false
other_bytes a b n = go (slice_cmp nat_cmp a b) refl
  where
    go : (r : Ordering) → slice_cmp nat_cmp a b ≡ r → is_eq r ≡ false
    go Less e = refl
    go Equal e = absurd (n (exact_bytes a b e))
    go Greater e = refl

number_cases : (m n : ℕ) → (m ≡ n) ⊎ (m ≢ n)
number_cases m n = elim (eqb_tells m n) [ inl p ↦ inl p.1 | inr p ↦ inr p.1 ]

pub key_cases : (j k : PlainKey) → (j ≡ k) ⊎ (j ≢ k)
key_cases keys.facts keys.facts = inl refl
key_cases keys.counters keys.counters = inl refl
key_cases (keys.balance a d) (keys.balance b e) =
    elim (list_cases a b) [ inl p ↦ elim (list_cases d e) [ inl q ↦ inl cc | inr n ↦ inr (λ r. n cc) ] | inr n ↦ inr (λ r. n cc) ]
key_cases (keys.supply d) (keys.supply e) = elim (list_cases d e) [ inl p ↦ inl cc | inr n ↦ inr (λ r. n cc) ]
key_cases (keys.code m) (keys.code n) = elim (number_cases m n) [ inl p ↦ inl cc | inr n ↦ inr (λ r. n cc) ]
key_cases (keys.code_info m) (keys.code_info n) = elim (number_cases m n) [ inl p ↦ inl cc | inr n ↦ inr (λ r. n cc) ]
key_cases (keys.pin m) (keys.pin n) = elim (number_cases m n) [ inl p ↦ inl cc | inr n ↦ inr (λ r. n cc) ]
key_cases (keys.contract a) (keys.contract b) = elim (list_cases a b) [ inl p ↦ inl cc | inr n ↦ inr (λ r. n cc) ]
key_cases (keys.storage a d) (keys.storage b e) =
    elim (list_cases a b) [ inl p ↦ elim (list_cases d e) [ inl q ↦ inl cc | inr n ↦ inr (λ r. n cc) ] | inr n ↦ inr (λ r. n cc) ]
key_cases j k = inr (λ e. absurd cc)

-- ---- optional values

map_some : {A B : Type 0} (f : A → B) (o : Option A) (y : B) → option_map f o ≡ Some y → (x : A) × (o ≡ Some x) × (f x ≡ y)
map_some f (Some x) y e = (x, refl, cc)
map_some f None y e = absurd cc

map_injective : {A B : Type 0} (f : A → B) → ((x y : A) → f x ≡ f y → x ≡ y) → (o p : Option A) → option_map f o ≡ option_map f p → o ≡ p
map_injective f injective (Some x) (Some y) e = let same : f x ≡ f y = cc in ap (λ z. Some z) (injective x y same)
map_injective f injective (Some x) None e = absurd cc
map_injective f injective None (Some y) e = absurd cc
map_injective f injective None None e = refl

codes_same : (o p : Option Code) → option_map (λ c. code_bytes c.bytes) o ≡ option_map (λ c. code_bytes c.bytes) p → option_map (λ c. code_info c.info) o ≡ option_map (λ c. code_info c.info) p → o ≡ p
codes_same (Some x) (Some y) e f =
    let bytes : x.bytes ≡ y.bytes = cc in
    let info : x.info ≡ y.info = cc in
    λ i. Some (record { bytes = bytes i; info = info i })
codes_same (Some x) None e f = absurd cc
codes_same None (Some y) e f = absurd cc
codes_same None None e f = refl

pins_same : (o p : Option (Unit {0})) → option_map (λ pin. mark) o ≡ option_map (λ pin. mark) p → o ≡ p
pins_same (Some x) (Some y) e = refl
pins_same (Some x) None e = absurd cc
pins_same None (Some y) e = absurd cc
pins_same None None e = refl

-- ---- what a state has

mapped_belongs : {A : Type 0} (key : PlainKey) (kind : A → PlainStored) (o : Option A) (stored : PlainStored) → ((a : A) → Belongs key (kind a)) → option_map kind o ≡ Some stored → Belongs key stored
mapped_belongs key kind o stored b e = let x = map_some kind o stored e in subst (λ (s : PlainStored). Belongs key s) x.2 (b x.0)

some_belongs : (key : PlainKey) (one stored : PlainStored) → Belongs key one → given one ≡ Some stored → Belongs key stored
some_belongs key one stored b e = let same : one ≡ stored = cc in subst (λ (s : PlainStored). Belongs key s) same b

-- each record stands under a key where it belongs
pub entry_belongs : (s : State) (key : PlainKey) (stored : PlainStored) → entry_of s key ≡ Some stored → Belongs key stored
unfolding entry_of
entry_belongs s keys.facts stored e = some_belongs keys.facts (facts s.facts) stored tt e
entry_belongs s keys.counters stored e = some_belongs keys.counters (counters s.counters) stored tt e
entry_belongs s (keys.balance addr denom) stored e = mapped_belongs (keys.balance addr denom) amount (get s.balances (addr, denom)) stored (λ a. tt) e
entry_belongs s (keys.supply denom) stored e = mapped_belongs (keys.supply denom) amount (get s.supplies denom) stored (λ a. tt) e
entry_belongs s (keys.code id) stored e = mapped_belongs (keys.code id) (λ (c : Code). code_bytes c.bytes) (get s.codes id) stored (λ a. tt) e
entry_belongs s (keys.code_info id) stored e = mapped_belongs (keys.code_info id) (λ (c : Code). code_info c.info) (get s.codes id) stored (λ a. tt) e
entry_belongs s (keys.pin id) stored e = mapped_belongs (keys.pin id) (λ (p : Unit {0}). mark) (get s.pins id) stored (λ a. tt) e
entry_belongs s (keys.contract addr) stored e = mapped_belongs (keys.contract addr) contract (get s.contracts addr) stored (λ a. tt) e
entry_belongs s (keys.storage addr key) stored e = mapped_belongs (keys.storage addr key) value (get s.storage (addr, key)) stored (λ a. tt) e

-- states with the same records are the same
same_state : (s t : State) → ((key : PlainKey) → entry_of s key ≡ entry_of t key) → s ≡ t
unfolding entry_of
same_state s t h =
    let same_facts : s.facts ≡ t.facts = let e = h keys.facts in cc in
    let same_counters : s.counters ≡ t.counters = let e = h keys.counters in cc in
    let same_balances = same_map addressed_total addressed_exact s.balances t.balances (λ q. map_injective amount (λ x y e. cc) (get s.balances q) (get t.balances q) (h (keys.balance q.0 q.1))) in
    let same_supplies = same_map nat_list_cmp_total exact_bytes s.supplies t.supplies (λ q. map_injective amount (λ x y e. cc) (get s.supplies q) (get t.supplies q) (h (keys.supply q))) in
    let same_codes = same_map nat_cmp_total nat_cmp-IsAntisymmetric s.codes t.codes (λ q. codes_same (get s.codes q) (get t.codes q) (h (keys.code q)) (h (keys.code_info q))) in
    let same_pins = same_map nat_cmp_total nat_cmp-IsAntisymmetric s.pins t.pins (λ q. pins_same (get s.pins q) (get t.pins q) (h (keys.pin q))) in
    let same_contracts = same_map nat_list_cmp_total exact_bytes s.contracts t.contracts (λ q. map_injective contract (λ x y e. cc) (get s.contracts q) (get t.contracts q) (h (keys.contract q))) in
    let same_storage = same_map addressed_total addressed_exact s.storage t.storage (λ q. map_injective value (λ x y e. cc) (get s.storage q) (get t.storage q) (h (keys.storage q.0 q.1))) in
    λ i. record {
      facts = same_facts i;
      counters = same_counters i;
      balances = same_balances i;
      supplies = same_supplies i;
      codes = same_codes i;
      pins = same_pins i;
      contracts = same_contracts i;
      storage = same_storage i;
    }

-- ---- a map spells one state, and a state is spelled by one map

entries_same : (map : Bytes) (s t : State) → Spells map s → Spells map t → (key : PlainKey) → entry_of s key ≡ entry_of t key
entries_same map s t of_s of_t key = go (entry_of s key) refl (entry_of t key) refl
  where
    both : IsKey key → option_map stored_bytes (entry_of s key) ≡ option_map stored_bytes (entry_of t key)
    both k = sym (of_s.same key k) ∙ of_t.same key k

    go : (o : Option PlainStored) → entry_of s key ≡ o → (p : Option PlainStored) → entry_of t key ≡ p → o ≡ p
    go (Some x) e (Some y) f =
        let lx = of_s.well_formed key x e in
        let ly = of_t.well_formed key y f in
        let bytes = sym (ap (option_map stored_bytes) e) ∙ both lx.0 ∙ ap (option_map stored_bytes) f in
        let same : stored_bytes x ≡ stored_bytes y = cc bytes in
        ap (λ z. Some z) (same_record key x y (entry_belongs s key x e) (entry_belongs t key y f) lx.1 ly.1 same)
    go (Some x) e None f =
        let lx = of_s.well_formed key x e in
        let bytes = sym (ap (option_map stored_bytes) e) ∙ both lx.0 ∙ ap (option_map stored_bytes) f in
        absurd cc
    go None e (Some y) f =
        let ly = of_t.well_formed key y f in
        let bytes = sym (ap (option_map stored_bytes) e) ∙ both ly.0 ∙ ap (option_map stored_bytes) f in
        absurd cc
    go None e None f = refl

pub spells_once : (map : Bytes) (one other : State) → Spells map one → Spells map other → one ≡ other
spells_once map one other a b = same_state one other (entries_same map one other a b)

pub is_spelled_once : (one other : Bytes) (s : State) → Spells one s → Spells other s → one ≡ other
is_spelled_once one other s a b = same_map nat_list_cmp_total exact_bytes one other (λ q. at q (get one q) refl (get other q) refl)
  where
    at_key : (q : List ℕ) (key : PlainKey) → IsKeyOf q key → get one q ≡ get other q
    at_key q key k = ap (get one) (sym k.same) ∙ a.same key k.is_key ∙ sym (b.same key k.is_key) ∙ ap (get other) k.same

    at : (q : List ℕ) (o : Option (List ℕ)) → get one q ≡ o → (p : Option (List ℕ)) → get other q ≡ p → get one q ≡ get other q
    at q (Some x) e p f = let k = a.only q x e in at_key q k.0 k.1
    at q None e (Some y) f = let k = b.only q y f in at_key q k.0 k.1
    at q None e None f = e ∙ sym f

-- ---- what is found under a key

is_found : (map : Bytes) (s : State) (key : PlainKey) (entry : Option PlainStored) → Spells map s → IsKey key → entry_of s key ≡ entry → IsFound key (option_map stored_bytes entry) (entry_of s key)
is_found map s key (Some stored) spelled k e = (stored, e, record { belongs = entry_belongs s key stored e; is_record = (spelled.well_formed key stored e).1; same = refl })
is_found map s key None spelled k e = e

pub spells_records : (map : Bytes) (s : State) (key : PlainKey) → Spells map s → IsKey key → IsFound key (get map (key_bytes key)) (entry_of s key)
spells_records map s key spelled k = subst (λ (found : Option (List ℕ)). IsFound key found (entry_of s key)) (sym (spelled.same key k)) (is_found map s key (entry_of s key) spelled k refl)
