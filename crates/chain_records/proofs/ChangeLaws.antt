-- Several records that are written and removed in order, and the states before and after.
use Rattle.std.proofs.Common.{◌≡◌, ◌≢◌, ℕ, ◌+◌, ◌<◌, ◌^◌, Bool, true, false, cond, List, [], ◌∷◌, Option, Some, None, refl, sym, ap, subst, ◌∙◌, inl, inr, ◌⊎◌, arith}
use Rattle.std.specs.Option.{option_map}
use Rattle.std.specs.declared.cmp.Ordering.{Ordering}
use Rattle.std.specs.declared.cmp.Ordering.TheVariants.{Less, Equal, Greater}
use Rattle.std.specs.Ordering.{nat_cmp, is_eq, eq_by_cmp}
use Rattle.std.specs.Cmp.{eq_by_cmp_equiv}
use Rattle.std.specs.Cmp.Lexicographic.{slice_cmp}
use Rattle.std.specs.FinMap.{FinMap, get, insert, remove, empty, get-insert, get-remove, get-empty, nat_cmp-IsAntisymmetric}
use Rattle.std.proofs.lemmas.Cmp.{nat_cmp_total, nat_list_cmp_total}
use Rattle.chain_records.specs.declared.record.Counters.{Counters}
use Rattle.chain_records.specs.Keys.{PlainKey, key_bytes, IsKey, IsKeyOf}
use Rattle.chain_records.specs.Keys as keys
use Rattle.chain_records.specs.Pieces.{IsOptional}
use Rattle.chain_records.specs.Records.{PlainFacts, PlainStored, facts, counters, code_bytes, code_info, stored_bytes, IsRecord, AreFacts, AreCounters, IsCodeInfo}
use Rattle.chain_records.specs.State.{Bytes, addressed_cmp, Code, State, entry_of, Spells, ChangesOnly}
use Rattle.chain_records.specs.Changes.{Change, AreChanges, with_record, with_changes, BecomesUnder, ChangesBy, with_next_code, with_code, code_changes, bare, first_changes}
use Rattle.chain_records.proofs.KeyLaws.{same_key}
use Rattle.chain_records.proofs.StateLaws.{list_cases, same_bytes, other_bytes, key_cases}

-- ---- what a map has, whether a state has it or not

abbrev pub Entries : Type 0
Entries = PlainKey → Option PlainStored

abbrev given : PlainStored → Option PlainStored
given stored = Some stored

abbrev nothing : Option PlainStored
nothing = None

-- the bytes of these records, and nothing else
pub record HasRecords (map : Bytes) (entry : Entries) : Type 0 where
  pub well_formed : (key : PlainKey) (stored : PlainStored) → entry key ≡ Some stored → IsKey key × IsRecord stored
  pub same : (key : PlainKey) → IsKey key → get map (key_bytes key) ≡ option_map stored_bytes (entry key)
  pub only : (bytes found : List ℕ) → get map bytes ≡ Some found → (key : PlainKey) × IsKeyOf bytes key

of_spelled : (map : Bytes) (s : State) → Spells map s → HasRecords map (entry_of s)
of_spelled map s spelled = record { well_formed = spelled.well_formed; same = spelled.same; only = spelled.only }

pub spelled_of : (map : Bytes) (s : State) → HasRecords map (entry_of s) → Spells map s
spelled_of map s has = record { well_formed = has.well_formed; same = has.same; only = has.only }

pub same_records : (map : Bytes) (entry new : Entries) → ((key : PlainKey) → new key ≡ entry key) → HasRecords map entry → HasRecords map new
same_records map entry new e has = record {
  well_formed = λ key stored f. has.well_formed key stored (sym (e key) ∙ f);
  same = λ key is. has.same key is ∙ ap (option_map stored_bytes) (sym (e key));
  only = has.only;
}

-- ---- one record

-- what a map has at a key after a change at another
record ChangedMap (old new : Bytes) (bytes : List ℕ) (found : Option (List ℕ)) : Type 0 where
  here : get new bytes ≡ found
  elsewhere : (q : List ℕ) → q ≢ bytes → get new q ≡ get old q

changed_map : (map : Bytes) (key : PlainKey) (value : Option PlainStored) → ChangedMap map (with_record map key value) (key_bytes key) (option_map stored_bytes value)
changed_map map key (Some stored) =
    let bytes = key_bytes key in
    let found = stored_bytes stored in
    record {
      here = get-insert nat_list_cmp_total map bytes found bytes ∙ ap (λ (b : Bool). cond b (Some found) (get map bytes)) (same_bytes bytes bytes refl);
      elsewhere = λ q n. get-insert nat_list_cmp_total map bytes found q ∙ ap (λ (b : Bool). cond b (Some found) (get map q)) (other_bytes q bytes n);
    }
changed_map map key None =
    let bytes = key_bytes key in
    record {
      here = get-remove nat_list_cmp_total map bytes bytes ∙ ap (λ (b : Bool). cond b None (get map bytes)) (same_bytes bytes bytes refl);
      elsewhere = λ q n. get-remove nat_list_cmp_total map bytes q ∙ ap (λ (b : Bool). cond b None (get map q)) (other_bytes q bytes n);
    }

abbrev at_key : (j k : PlainKey) → (j ≡ k) ⊎ (j ≢ k) → Option PlainStored → Option PlainStored → Option PlainStored
at_key j k (inl p) value old = value
at_key j k (inr n) value old = old

abbrev updated : Entries → PlainKey → Option PlainStored → Entries
updated entry key value q = at_key key q (key_cases key q) value (entry q)

value_is : (value : Option PlainStored) (stored : PlainStored) → IsOptional IsRecord value → value ≡ Some stored → IsRecord stored
value_is (Some x) stored is e = let same : x ≡ stored = cc in subst IsRecord same is
value_is None stored is e = absurd cc

has_updated : (map : Bytes) (entry : Entries) (key : PlainKey) (value : Option PlainStored) → HasRecords map entry → IsKey key → IsOptional IsRecord value → HasRecords (with_record map key value) (updated entry key value)
has_updated map entry key value has is_key is_value = record { well_formed = λ q stored. well_formed q stored (key_cases key q); same = λ q is. same q is (key_cases key q); only = only }
  where
    changed : Bytes
    changed = with_record map key value

    m : ChangedMap map (with_record map key value) (key_bytes key) (option_map stored_bytes value)
    m = changed_map map key value

    well_formed : (q : PlainKey) (stored : PlainStored) (d : (key ≡ q) ⊎ (key ≢ q)) → at_key key q d value (entry q) ≡ Some stored → IsKey q × IsRecord stored
    well_formed q stored (inl p) e = (subst IsKey p is_key, value_is value stored is_value e)
    well_formed q stored (inr n) e = has.well_formed q stored e

    same : (q : PlainKey) → IsKey q → (d : (key ≡ q) ⊎ (key ≢ q)) → get (with_record map key value) (key_bytes q) ≡ option_map stored_bytes (at_key key q d value (entry q))
    same q is (inl p) = ap (λ (j : PlainKey). get (with_record map key value) (key_bytes j)) (sym p) ∙ m.here
    same q is (inr n) = m.elsewhere (key_bytes q) (λ e. n (same_key key q is_key is (sym e))) ∙ has.same q is

    only : (bytes found : List ℕ) → get (with_record map key value) bytes ≡ Some found → (k : PlainKey) × IsKeyOf bytes k
    only bytes found e =
        elim (list_cases bytes (key_bytes key)) [
          | inl p ↦ (key, record { is_key = is_key; same = sym p })
          | inr n ↦ has.only bytes found (sym (m.elsewhere bytes n) ∙ e)
        ]

-- ---- several records

has_changed : (changes : List Change) (map : Bytes) (entry new : Entries) → HasRecords map entry → AreChanges changes → ((key : PlainKey) → BecomesUnder key (entry key) changes (new key)) → HasRecords (with_changes map changes) new
has_changed [] map entry new has are by = same_records map entry new by has
has_changed (change ∷ changes) map entry new has are by =
    has_changed changes (with_record map change.0 change.1) (updated entry change.0 change.1) new (has_updated map entry change.0 change.1 has are.0.0 are.0.1) are.1 (λ key. after key (key_cases change.0 key))
  where
    after : (key : PlainKey) (d : (change.0 ≡ key) ⊎ (change.0 ≢ key)) → BecomesUnder key (at_key change.0 key d change.1 (entry key)) changes (new key)
    after key (inl p) = (by key).0 p
    after key (inr n) = (by key).1 n

pub spells_changed : (map : Bytes) (old new : State) (changes : List Change) → Spells map old → AreChanges changes → ChangesBy old new changes → Spells (with_changes map changes) new
spells_changed map old new changes spelled are by = spelled_of (with_changes map changes) new (has_changed changes map (entry_of old) (entry_of new) (of_spelled map old spelled) are by)

-- ---- one record is written or removed

only_there : (old new : State) (key : PlainKey) (value : Option PlainStored) → ChangesOnly old new key value → ChangesBy old new ((key, value) ∷ [])
only_there old new key value changes q = (λ p. subst (λ (k : PlainKey). entry_of new k ≡ value) p changes.changed, λ n. changes.others q (λ e. n (sym e)))

pub spells_written : (map : Bytes) (old new : State) (key : PlainKey) (stored : PlainStored) → Spells map old → IsKey key → IsRecord stored → ChangesOnly old new key (Some stored) → Spells (insert map (key_bytes key) (stored_bytes stored)) new
spells_written map old new key stored spelled is_key is_record changes =
    spells_changed map old new ((key, Some stored) ∷ []) spelled ((is_key, is_record), tt) (only_there old new key (Some stored) changes)

pub spells_removed : (map : Bytes) (old new : State) (key : PlainKey) → Spells map old → IsKey key → ChangesOnly old new key None → Spells (remove map (key_bytes key)) new
spells_removed map old new key spelled is_key changes = spells_changed map old new ((key, None) ∷ []) spelled ((is_key, tt), tt) (only_there old new key None changes)

-- ---- a code is stored

number_itself : (n : ℕ) → eq_by_cmp nat_cmp n n ≡ true
number_itself n = (eq_by_cmp_equiv nat_cmp_total).refl n

other_number : (a b : ℕ) → a ≢ b → eq_by_cmp nat_cmp a b ≡ false
other_number a b n = go (nat_cmp a b) refl
  where
    go : (r : Ordering) → nat_cmp a b ≡ r → is_eq r ≡ false
    go Less e = refl
    go Equal e = absurd (n (nat_cmp-IsAntisymmetric a b e))
    go Greater e = refl

code_here : (codes : FinMap nat_cmp Code) (id : ℕ) (code : Code) → get (insert codes id code) id ≡ Some code
code_here codes id code = get-insert nat_cmp_total codes id code id ∙ ap (λ (b : Bool). cond b (Some code) (get codes id)) (number_itself id)

code_elsewhere : (codes : FinMap nat_cmp Code) (id : ℕ) (code : Code) (other : ℕ) → other ≢ id → get (insert codes id code) other ≡ get codes other
code_elsewhere codes id code other n = get-insert nat_cmp_total codes id code other ∙ ap (λ (b : Bool). cond b (Some code) (get codes other)) (other_number other id n)

module _ (s : State) (code : Code) where
  bytes_there : entry_of (with_code s code) (keys.code s.counters.next_code) ≡ Some (code_bytes code.bytes)
  unfolding entry_of
  bytes_there = ap (option_map (λ (c : Code). code_bytes c.bytes)) (code_here s.codes s.counters.next_code code)

  info_there : entry_of (with_code s code) (keys.code_info s.counters.next_code) ≡ Some (code_info code.info)
  unfolding entry_of
  info_there = ap (option_map (λ (c : Code). code_info c.info)) (code_here s.codes s.counters.next_code code)

  counters_there : entry_of (with_code s code) keys.counters ≡ Some (counters (with_next_code s.counters))
  unfolding entry_of
  counters_there = refl

  as_before : (q : PlainKey) → keys.code s.counters.next_code ≢ q → keys.code_info s.counters.next_code ≢ q → keys.counters ≢ q → entry_of (with_code s code) q ≡ entry_of s q
  unfolding entry_of
  as_before keys.facts a b c = refl
  as_before keys.counters a b c = absurd (c refl)
  as_before (keys.balance addr denom) a b c = refl
  as_before (keys.supply denom) a b c = refl
  as_before (keys.code id) a b c = ap (option_map (λ (c : Code). code_bytes c.bytes)) (code_elsewhere s.codes s.counters.next_code code id (λ e. a (ap keys.code (sym e))))
  as_before (keys.code_info id) a b c = ap (option_map (λ (c : Code). code_info c.info)) (code_elsewhere s.codes s.counters.next_code code id (λ e. b (ap keys.code_info (sym e))))
  as_before (keys.pin id) a b c = refl
  as_before (keys.contract addr) a b c = refl
  as_before (keys.storage addr key) a b c = refl

  code_by : ChangesBy s (with_code s code) (code_changes s.counters code)
  code_by q = (λ p. (λ r. (last, λ _. second r), λ _. (last, λ _. first p)), λ a. (λ r. (last, λ _. second r), λ b. (last, λ c. as_before q a b c)))
    where
      first : keys.code s.counters.next_code ≡ q → entry_of (with_code s code) q ≡ Some (code_bytes code.bytes)
      first p = subst (λ (k : PlainKey). entry_of (with_code s code) k ≡ Some (code_bytes code.bytes)) p bytes_there

      second : keys.code_info s.counters.next_code ≡ q → entry_of (with_code s code) q ≡ Some (code_info code.info)
      second p = subst (λ (k : PlainKey). entry_of (with_code s code) k ≡ Some (code_info code.info)) p info_there

      last : keys.counters ≡ q → entry_of (with_code s code) q ≡ Some (counters (with_next_code s.counters))
      last p = subst (λ (k : PlainKey). entry_of (with_code s code) k ≡ Some (counters (with_next_code s.counters))) p counters_there

counters_are : (map : Bytes) (s : State) → Spells map s → AreCounters s.counters
unfolding entry_of
counters_are map s spelled = (spelled.well_formed keys.counters (counters s.counters) refl).1

pub spells_code : (map : Bytes) (s : State) (code : Code) → Spells map s → IsCodeInfo code.info → s.counters.next_code + 1 < 2 ^ 64 → Spells (with_changes map (code_changes s.counters code)) (with_code s code)
spells_code map s code spelled is_info room =
    let are = counters_are map s spelled in
    let number : s.counters.next_code < 2 ^ 64 = omega arith in
    spells_changed map s (with_code s code) (code_changes s.counters code) spelled ((number, tt), ((number, is_info), ((tt, record { next_code = room; next_instance = are.next_instance }), tt))) (code_by s code)

-- ---- a chain begins

empty_has : HasRecords empty (λ key. None)
empty_has = record {
  well_formed = λ key stored e. absurd (none_is stored e);
  same = λ key is. get-empty (slice_cmp nat_cmp) (key_bytes key);
  only = λ bytes found e. let none = sym (get-empty (slice_cmp nat_cmp) bytes) ∙ e in absurd cc;
}
  where
    none_is : (stored : PlainStored) → nothing ≡ Some stored → ⊥
    none_is stored e = absurd cc

bare_elsewhere : (f : PlainFacts) (c : Counters) (q : PlainKey) → keys.facts ≢ q → keys.counters ≢ q → entry_of (bare f c) q ≡ None
unfolding entry_of
bare_elsewhere f c keys.facts a b = absurd (a refl)
bare_elsewhere f c keys.counters a b = absurd (b refl)
bare_elsewhere f c (keys.balance addr denom) a b = ap (option_map _) (get-empty addressed_cmp (addr, denom))
bare_elsewhere f c (keys.supply denom) a b = ap (option_map _) (get-empty (slice_cmp nat_cmp) denom)
bare_elsewhere f c (keys.code id) a b = ap (option_map _) (get-empty nat_cmp id)
bare_elsewhere f c (keys.code_info id) a b = ap (option_map _) (get-empty nat_cmp id)
bare_elsewhere f c (keys.pin id) a b = ap (option_map _) (get-empty nat_cmp id)
bare_elsewhere f c (keys.contract addr) a b = ap (option_map _) (get-empty (slice_cmp nat_cmp) addr)
bare_elsewhere f c (keys.storage addr key) a b = ap (option_map _) (get-empty addressed_cmp (addr, key))

bare_facts : (f : PlainFacts) (c : Counters) → entry_of (bare f c) keys.facts ≡ Some (facts f)
unfolding entry_of
bare_facts f c = refl

bare_counters : (f : PlainFacts) (c : Counters) → entry_of (bare f c) keys.counters ≡ Some (counters c)
unfolding entry_of
bare_counters f c = refl

pub spells_first : (f : PlainFacts) (c : Counters) → AreFacts f → AreCounters c → Spells (with_changes empty (first_changes f c)) (bare f c)
spells_first f c are_facts are_counters = spelled_of (with_changes empty (first_changes f c)) (bare f c) (has_changed (first_changes f c) empty (λ key. None) (entry_of (bare f c)) empty_has ((tt, are_facts), ((tt, are_counters), tt)) by)
  where
    by : (key : PlainKey) → BecomesUnder key None (first_changes f c) (entry_of (bare f c) key)
    by q = (λ p. (last q, λ _. first q p), λ a. (last q, λ b. bare_elsewhere f c q a b))
      where
        first : (q : PlainKey) → keys.facts ≡ q → entry_of (bare f c) q ≡ Some (facts f)
        first q p = subst (λ (k : PlainKey). entry_of (bare f c) k ≡ Some (facts f)) p (bare_facts f c)

        last : (q : PlainKey) → keys.counters ≡ q → entry_of (bare f c) q ≡ Some (counters c)
        last q p = subst (λ (k : PlainKey). entry_of (bare f c) k ≡ Some (counters c)) p (bare_counters f c)
