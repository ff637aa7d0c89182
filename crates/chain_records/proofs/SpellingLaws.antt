-- A map spells some state exactly where its entries are of keys and records, with facts, counters and whole codes.
use Rattle.std.proofs.Common.{◌≡◌, ◌≢◌, ◌↔◌, ℕ, ◌<◌, ◌^◌, Bool, true, false, cond, ◌||◌, List, [], ◌∷◌, Option, Some, None, refl, sym, ap, subst, ◌∙◌, inl, inr, ◌⊎◌}
use Rattle.std.specs.Option.{option_map, is_some}
use Rattle.std.specs.List.{list_any}
use Rattle.std.specs.declared.cmp.Ordering.{Ordering}
use Rattle.std.specs.declared.cmp.Ordering.TheVariants.{Less, Equal, Greater}
use Rattle.std.specs.Ordering.{nat_cmp, is_eq, eq_by_cmp}
use Rattle.std.specs.Cmp.{IsTotalOrder}
use Rattle.std.specs.Cmp.Lexicographic.{slice_cmp}
use Rattle.std.specs.FinMap.{FinMap, get, insert, empty, keys as places, IsAntisymmetric, get-insert, get-empty, contains_key-keys, nat_cmp-IsAntisymmetric}
use Rattle.std.proofs.lemmas.Cmp.{nat_cmp_total, nat_list_cmp_total, tied_itself}
use Rattle.std.proofs.lemmas.Map.Lookups.{exact_bytes}
use Rattle.chain_records.specs.declared.record.Counters.{Counters}
use Rattle.chain_records.specs.Keys.{PlainKey, key_bytes, IsKey}
use Rattle.chain_records.specs.Keys as keys
use Rattle.chain_records.specs.Reading.{◌>>=◌}
use Rattle.chain_records.specs.KeyReading.{key_of}
use Rattle.chain_records.specs.Records.{PlainFacts, PlainCodeInfo, PlainContract, PlainStored, facts, counters, amount, code_bytes, code_info, mark, contract, value, stored_bytes, IsRecord, Belongs}
use Rattle.chain_records.specs.State.{Bytes, Addressed, addressed_cmp, Code, State, entry_of, Spells, IsFound}
use Rattle.chain_records.specs.Spelling.{IsEntry, IsThere, IsSpelling}
use Rattle.chain_records.proofs.Pieces.{bind_some}
use Rattle.chain_records.proofs.KeyLaws.{same_key, read_again}
use Rattle.chain_records.proofs.StateLaws.{key_cases, addressed_total, addressed_exact, spells_records}
use Rattle.chain_records.proofs.ChangeLaws.{Entries, HasRecords, same_records, spelled_of}

-- ---- a map whose keys are read from bytes

module _ {K X : Type 0} {R : K → K → Ordering} (o : IsTotalOrder R) (exact : IsAntisymmetric R) (read : List ℕ → Option K) (f : K → Option X) where
  abbrev put : Option X → K → FinMap R X → FinMap R X
  put None k m = m
  put (Some x) k m = insert m k x

  abbrev add : Option K → FinMap R X → FinMap R X
  add None m = m
  add (Some k) m = put (f k) k m

  -- the values under the keys that these bytes are
  abbrev table : List (List ℕ) → FinMap R X
  table [] = empty
  table (b ∷ bs) = add (read b) (table bs)

  inserted : (m : FinMap R X) (k : K) (x : X) (q : K) (b : Bool) → eq_by_cmp R q k ≡ b → get (insert m k x) q ≡ cond b (Some x) (get m q)
  inserted m k x q b e = get-insert o m k x q ∙ ap (λ (t : Bool). cond t (Some x) (get m q)) e

  tied : (q k : K) → eq_by_cmp R q k ≡ true → q ≡ k
  tied q k e = go (R q k) refl e
    where
      go : (r : Ordering) → R q k ≡ r → is_eq r ≡ true → q ≡ k
      go Less p e = absurd cc
      go Equal p e = exact q k p
      go Greater p e = absurd cc

  put_keeps : (m : FinMap R X) (k : K) (v : Option X) → f k ≡ v → (q : K) → get m q ≡ f q → get (put v k m) q ≡ f q
  put_keeps m k None is q e = e
  put_keeps m k (Some x) is q e = go (eq_by_cmp R q k) refl
    where
      go : (b : Bool) → eq_by_cmp R q k ≡ b → get (insert m k x) q ≡ f q
      go true p = inserted m k x q true p ∙ sym (ap f (tied q k p) ∙ is)
      go false p = inserted m k x q false p ∙ e

  add_keeps : (k : Option K) (m : FinMap R X) (q : K) → get m q ≡ f q → get (add k m) q ≡ f q
  add_keeps None m q e = e
  add_keeps (Some k) m q e = put_keeps m k (f k) refl q e

  put_none : (m : FinMap R X) (k : K) (v : Option X) → f k ≡ v → (q : K) → f q ≡ None → get m q ≡ None → get (put v k m) q ≡ None
  put_none m k v is q none e = put_keeps m k v is q (e ∙ sym none) ∙ none

  none_in : (bs : List (List ℕ)) (q : K) → f q ≡ None → get (table bs) q ≡ None
  none_in [] q none = get-empty R q
  none_in (b ∷ bs) q none = add_keeps (read b) (table bs) q (none_in bs q none ∙ sym none) ∙ none

  put_here : (m : FinMap R X) (q : K) (v : Option X) (x : X) → v ≡ Some x → get (put v q m) q ≡ v
  put_here m q None x e = absurd cc
  put_here m q (Some y) x e = inserted m q y q true (ap is_eq (tied_itself o q))

  either : (r : Ordering) (rest : Bool) → (is_eq r || rest) ≡ true → (r ≡ Equal) ⊎ (rest ≡ true)
  either Less rest e = inr e
  either Equal rest e = inl refl
  either Greater rest e = inr e

  some_in : (bs : List (List ℕ)) (q : K) (x : X) → f q ≡ Some x → (b : List ℕ) → read b ≡ Some q → list_any (eq_by_cmp (slice_cmp nat_cmp) b) bs ≡ true → get (table bs) q ≡ f q
  some_in [] q x some b is e = absurd cc
  some_in (c ∷ bs) q x some b is e =
      elim (either (slice_cmp nat_cmp b c) (list_any (eq_by_cmp (slice_cmp nat_cmp) b) bs) e) [
        | inl p ↦ ap (λ (k : Option K). get (add k (table bs)) q) (ap read (sym (exact_bytes b c p)) ∙ is) ∙ put_here (table bs) q (f q) x some
        | inr h ↦ add_keeps (read c) (table bs) q (some_in bs q x some b is h)
      ]

-- ---- what is under the keys of a map that may spell a state

-- a record that a map has under a key
pub record IsRead (map : Bytes) (key : PlainKey) (stored : PlainStored) : Type 0 where
  pub is_key : IsKey key
  pub belongs : Belongs key stored
  pub is_record : IsRecord stored
  pub there : get map (key_bytes key) ≡ Some (stored_bytes stored)

abbrev one : PlainStored → Option PlainStored
one stored = Some stored

-- an entry's record, where the key is the one that is looked for
abbrev if_same : (j k : PlainKey) → (j ≡ k) ⊎ (j ≢ k) → PlainStored → Option PlainStored
if_same j k (inl p) stored = Some stored
if_same j k (inr n) stored = None

module _ (map : Bytes) (entries : (bytes found : List ℕ) → get map bytes ≡ Some found → IsEntry bytes found) where
  abbrev record_in : (key : PlainKey) (found : Option (List ℕ)) → get map (key_bytes key) ≡ found → Option PlainStored
  record_in key None e = None
  record_in key (Some found) e = if_same (entries (key_bytes key) found e).key key (key_cases (entries (key_bytes key) found e).key key) (entries (key_bytes key) found e).stored

  pub entry_in : Entries
  entry_in key = record_in key (get map (key_bytes key)) refl

  read_same : (key : PlainKey) (found : List ℕ) → get map (key_bytes key) ≡ Some found → (t : IsEntry (key_bytes key) found) (d : (t.key ≡ key) ⊎ (t.key ≢ key)) (stored : PlainStored) → if_same t.key key d t.stored ≡ Some stored → IsRead map key stored
  read_same key found e t (inl p) stored is =
      let same : t.stored ≡ stored = cc in
      record {
        is_key = subst IsKey p t.is_key.is_key;
        belongs = subst (λ (s : PlainStored). Belongs key s) same (subst (λ (k : PlainKey). Belongs k t.stored) p t.is_record.belongs);
        is_record = subst IsRecord same t.is_record.is_record;
        there = e ∙ ap (λ (bytes : List ℕ). Some bytes) (sym t.is_record.same ∙ ap stored_bytes same);
      }
  read_same key found e t (inr n) stored is = absurd cc

  read_in : (key : PlainKey) (found : Option (List ℕ)) (e : get map (key_bytes key) ≡ found) (stored : PlainStored) → record_in key found e ≡ Some stored → IsRead map key stored
  read_in key None e stored is = absurd cc
  read_in key (Some found) e stored is = read_same key found e (entries (key_bytes key) found e) (key_cases (entries (key_bytes key) found e).key key) stored is

  pub is_read : (key : PlainKey) (stored : PlainStored) → entry_in key ≡ Some stored → IsRead map key stored
  unfolding entry_in
  is_read key stored e = read_in key (get map (key_bytes key)) refl stored e

  found_same : (key : PlainKey) → IsKey key → (found : List ℕ) (t : IsEntry (key_bytes key) found) (d : (t.key ≡ key) ⊎ (t.key ≢ key)) → Some found ≡ option_map stored_bytes (if_same t.key key d t.stored)
  found_same key is found t (inl p) = ap (λ (bytes : List ℕ). Some bytes) (sym t.is_record.same)
  found_same key is found t (inr n) = absurd (n (same_key t.key key t.is_key.is_key is t.is_key.same))

  found_in : (key : PlainKey) → IsKey key → (found : Option (List ℕ)) (e : get map (key_bytes key) ≡ found) → found ≡ option_map stored_bytes (record_in key found e)
  found_in key is None e = refl
  found_in key is (Some found) e = found_same key is found (entries (key_bytes key) found e) (key_cases (entries (key_bytes key) found e).key key)

  pub has_entries : HasRecords map entry_in
  unfolding entry_in
  has_entries = record {
    well_formed = λ key stored e. let r = is_read key stored e in (r.is_key, r.is_record);
    same = λ key is. found_in key is (get map (key_bytes key)) refl;
    only = λ bytes found e. let t = entries bytes found e in (t.key, t.is_key);
  }

  -- ---- maps of one kind of records

  there_is : (key : PlainKey) (stored : PlainStored) → entry_in key ≡ Some stored → is_some (get map (key_bytes key)) ≡ true
  there_is key stored e = ap is_some (is_read key stored e).there

  module _ {K X : Type 0} {R : K → K → Ordering} (o : IsTotalOrder R) (exact : IsAntisymmetric R) (make : K → PlainKey) (pick : PlainKey → Option K) (picks : (q : K) → pick (make q) ≡ Some q) (f : K → Option X)
      (live : (q : K) (x : X) → f q ≡ Some x → (stored : PlainStored) × (entry_in (make q) ≡ Some stored)) where
    abbrev read_place : List ℕ → Option K
    read_place bytes = key_of bytes >>= pick

    place_again : (q : K) (x : X) → f q ≡ Some x → read_place (key_bytes (make q)) ≡ Some q
    place_again q x e = let l = live q x e in ap (λ (k : Option PlainKey). k >>= pick) (read_again (make q) (is_read (make q) l.0 l.1).is_key) ∙ picks q

    pub made : (m : FinMap R X) × ((q : K) → get m q ≡ f q)
    made = (table o exact read_place f (places map), λ q. at q (f q) refl)
      where
        at : (q : K) (v : Option X) → f q ≡ v → get (table o exact read_place f (places map)) q ≡ f q
        at q (Some x) e = let l = live q x e in some_in o exact read_place f (places map) q x e (key_bytes (make q)) (place_again q x e) (sym (contains_key-keys map (key_bytes (make q))) ∙ there_is (make q) l.0 l.1)
        at q None e = none_in o exact read_place f (places map) q e ∙ sym e

  -- of records that are values of one kind
  module _ {K X : Type 0} {R : K → K → Ordering} (o : IsTotalOrder R) (exact : IsAntisymmetric R) (make : K → PlainKey) (pick : PlainKey → Option K) (picks : (q : K) → pick (make q) ≡ Some q) (get_as : PlainStored → Option X) (kind : X → PlainStored)
      (kinds : (q : K) (stored : PlainStored) → Belongs (make q) stored → option_map kind (get_as stored) ≡ Some stored) where
    abbrev value_of : K → Option X
    value_of q = entry_in (make q) >>= get_as

    pub made_of_kind : (m : FinMap R X) × ((q : K) → option_map kind (get m q) ≡ entry_in (make q))
    made_of_kind =
        let m = made o exact make pick picks value_of (λ q x e. let b = bind_some (entry_in (make q)) get_as x e in (b.0, b.1)) in
        (m.0, λ q. ap (option_map kind) (m.1 q) ∙ at q (entry_in (make q)) refl)
      where
        at : (q : K) (v : Option PlainStored) → entry_in (make q) ≡ v → option_map kind (v >>= get_as) ≡ v
        at q None e = refl
        at q (Some stored) e = kinds q stored (is_read (make q) stored e).belongs

-- ---- keys of each kind

pick_balance : PlainKey → Option Addressed
pick_balance (keys.balance addr denom) = Some (addr, denom)
pick_balance key = None

pick_supply : PlainKey → Option (List ℕ)
pick_supply (keys.supply denom) = Some denom
pick_supply key = None

pick_code : PlainKey → Option ℕ
pick_code (keys.code id) = Some id
pick_code key = None

pick_pin : PlainKey → Option ℕ
pick_pin (keys.pin id) = Some id
pick_pin key = None

pick_contract : PlainKey → Option (List ℕ)
pick_contract (keys.contract addr) = Some addr
pick_contract key = None

pick_storage : PlainKey → Option Addressed
pick_storage (keys.storage addr key) = Some (addr, key)
pick_storage key = None

-- ---- records of each kind

as_amount : PlainStored → Option ℕ
as_amount (amount n) = Some n
as_amount stored = None

abbrev as_code : PlainStored → Option (List ℕ)
as_code (code_bytes bytes) = Some bytes
as_code stored = None

abbrev as_info : PlainStored → Option PlainCodeInfo
as_info (code_info info) = Some info
as_info stored = None

as_mark : PlainStored → Option (Unit {0})
as_mark mark = Some tt
as_mark stored = None

as_contract : PlainStored → Option PlainContract
as_contract (contract c) = Some c
as_contract stored = None

as_value : PlainStored → Option (List ℕ)
as_value (value bytes) = Some bytes
as_value stored = None

balance_kinds : (q : Addressed) (stored : PlainStored) → Belongs (keys.balance q.0 q.1) stored → option_map amount (as_amount stored) ≡ Some stored
unfolding as_amount
balance_kinds q (amount n) b = refl
balance_kinds q stored b = absurd b

supply_kinds : (q : List ℕ) (stored : PlainStored) → Belongs (keys.supply q) stored → option_map amount (as_amount stored) ≡ Some stored
unfolding as_amount
supply_kinds q (amount n) b = refl
supply_kinds q stored b = absurd b

code_kinds : (q : ℕ) (stored : PlainStored) → Belongs (keys.code q) stored → option_map code_bytes (as_code stored) ≡ Some stored
code_kinds q (code_bytes bytes) b = refl
code_kinds q stored b = absurd b

info_kinds : (q : ℕ) (stored : PlainStored) → Belongs (keys.code_info q) stored → option_map code_info (as_info stored) ≡ Some stored
info_kinds q (code_info info) b = refl
info_kinds q stored b = absurd b

pin_kinds : (q : ℕ) (stored : PlainStored) → Belongs (keys.pin q) stored → option_map (λ pin. mark) (as_mark stored) ≡ Some stored
unfolding as_mark
pin_kinds q mark b = refl
pin_kinds q stored b = absurd b

contract_kinds : (q : List ℕ) (stored : PlainStored) → Belongs (keys.contract q) stored → option_map contract (as_contract stored) ≡ Some stored
unfolding as_contract
contract_kinds q (contract c) b = refl
contract_kinds q stored b = absurd b

storage_kinds : (q : Addressed) (stored : PlainStored) → Belongs (keys.storage q.0 q.1) stored → option_map value (as_value stored) ≡ Some stored
unfolding as_value
storage_kinds q (value bytes) b = refl
storage_kinds q stored b = absurd b

facts_kind : (stored : PlainStored) → Belongs keys.facts stored → (f : PlainFacts) × (stored ≡ facts f)
facts_kind (facts f) b = (f, refl)
facts_kind stored b = absurd b

counters_kind : (stored : PlainStored) → Belongs keys.counters stored → (c : Counters) × (stored ≡ counters c)
counters_kind (counters c) b = (c, refl)
counters_kind stored b = absurd b

-- ---- codes, whose bytes and info stand apart

-- a code of both, where both are there
abbrev both : Option (List ℕ) → Option PlainCodeInfo → Option Code
both (Some bytes) (Some info) = Some (record { bytes = bytes; info = info })
both None info = None
both (Some bytes) None = None

both_bytes : (bytes : Option (List ℕ)) (info : Option PlainCodeInfo) → is_some bytes ≡ is_some info → option_map (λ (c : Code). code_bytes c.bytes) (both bytes info) ≡ option_map code_bytes bytes
both_bytes (Some bytes) (Some info) e = refl
both_bytes None info e = refl
both_bytes (Some bytes) None e = absurd cc

both_info : (bytes : Option (List ℕ)) (info : Option PlainCodeInfo) → is_some bytes ≡ is_some info → option_map (λ (c : Code). code_info c.info) (both bytes info) ≡ option_map code_info info
both_info (Some bytes) (Some info) e = refl
both_info None None e = refl
both_info None (Some info) e = absurd cc
both_info (Some bytes) None e = absurd cc

both_some : (bytes : Option (List ℕ)) (info : Option PlainCodeInfo) (c : Code) → both bytes info ≡ Some c → (x : List ℕ) × (bytes ≡ Some x)
both_some (Some bytes) (Some info) c e = (bytes, refl)
both_some None info c e = absurd cc
both_some (Some bytes) None c e = absurd cc

some_mapped : {A C : Type 0} (f : A → C) (m : Option A) → is_some (option_map f m) ≡ is_some m
some_mapped f None = refl
some_mapped f (Some x) = refl

-- what is read as one kind is there exactly where anything is
kind_mapped : {A : Type 0} (get_as : PlainStored → Option A) (kind : A → PlainStored) (m : Option PlainStored) → ((stored : PlainStored) → m ≡ Some stored → option_map kind (get_as stored) ≡ Some stored) → option_map kind (m >>= get_as) ≡ m
kind_mapped get_as kind None h = refl
kind_mapped get_as kind (Some stored) h = h stored refl

-- ---- the state

module _ (map : Bytes) (is : IsSpelling map) where
  entry : Entries
  entry = entry_in map is.entries

  reads : (key : PlainKey) (stored : PlainStored) → entry key ≡ Some stored → IsRead map key stored
  unfolding entry
  reads key stored e = is_read map is.entries key stored e

  has : HasRecords map (entry_in map is.entries)
  has = has_entries map is.entries

  -- where something is written under a key, a record is there
  entry_there : (key : PlainKey) → IsKey key → IsThere map key → (stored : PlainStored) × (entry key ≡ Some stored)
  unfolding entry
  entry_there key k there = go (entry_in map is.entries key) refl (sym there.1 ∙ has.same key k)
    where
      go : (o : Option PlainStored) → entry_in map is.entries key ≡ o → Some there.0 ≡ option_map stored_bytes o → (stored : PlainStored) × (entry_in map is.entries key ≡ Some stored)
      go (Some stored) e f = (stored, e)
      go None e f = absurd cc

  the_facts : (f : PlainFacts) × (entry keys.facts ≡ Some (facts f))
  the_facts =
      let t = entry_there keys.facts tt is.facts in
      let k = facts_kind t.0 (reads keys.facts t.0 t.1).belongs in
      (k.0, t.1 ∙ ap one k.1)

  the_counters : (c : Counters) × (entry keys.counters ≡ Some (counters c))
  the_counters =
      let t = entry_there keys.counters tt is.counters in
      let k = counters_kind t.0 (reads keys.counters t.0 t.1).belongs in
      (k.0, t.1 ∙ ap one k.1)

  the_balances : (m : FinMap addressed_cmp ℕ) × ((q : Addressed) → option_map amount (get m q) ≡ entry (keys.balance q.0 q.1))
  unfolding entry pick_balance
  the_balances = made_of_kind map is.entries addressed_total addressed_exact (λ q. keys.balance q.0 q.1) pick_balance (λ q. refl) as_amount amount balance_kinds

  the_supplies : (m : FinMap (slice_cmp nat_cmp) ℕ) × ((q : List ℕ) → option_map amount (get m q) ≡ entry (keys.supply q))
  unfolding entry pick_supply
  the_supplies = made_of_kind map is.entries nat_list_cmp_total exact_bytes (λ q. keys.supply q) pick_supply (λ q. refl) as_amount amount supply_kinds

  the_pins : (m : FinMap nat_cmp (Unit {0})) × ((q : ℕ) → option_map (λ pin. mark) (get m q) ≡ entry (keys.pin q))
  unfolding entry pick_pin
  the_pins = made_of_kind map is.entries nat_cmp_total nat_cmp-IsAntisymmetric (λ q. keys.pin q) pick_pin (λ q. refl) as_mark (λ pin. mark) pin_kinds

  the_contracts : (m : FinMap (slice_cmp nat_cmp) PlainContract) × ((q : List ℕ) → option_map contract (get m q) ≡ entry (keys.contract q))
  unfolding entry pick_contract
  the_contracts = made_of_kind map is.entries nat_list_cmp_total exact_bytes (λ q. keys.contract q) pick_contract (λ q. refl) as_contract contract contract_kinds

  the_storage : (m : FinMap addressed_cmp (List ℕ)) × ((q : Addressed) → option_map value (get m q) ≡ entry (keys.storage q.0 q.1))
  unfolding entry pick_storage
  the_storage = made_of_kind map is.entries addressed_total addressed_exact (λ q. keys.storage q.0 q.1) pick_storage (λ q. refl) as_value value storage_kinds

  -- ---- its codes

  bytes_of : ℕ → Option (List ℕ)
  bytes_of id = entry (keys.code id) >>= as_code

  info_of : ℕ → Option PlainCodeInfo
  info_of id = entry (keys.code_info id) >>= as_info

  bytes_mapped : (id : ℕ) → option_map code_bytes (bytes_of id) ≡ entry (keys.code id)
  unfolding bytes_of
  bytes_mapped id = kind_mapped as_code code_bytes (entry (keys.code id)) (λ stored e. code_kinds id stored (reads (keys.code id) stored e).belongs)

  info_mapped : (id : ℕ) → option_map code_info (info_of id) ≡ entry (keys.code_info id)
  unfolding info_of
  info_mapped id = kind_mapped as_info code_info (entry (keys.code_info id)) (λ stored e. info_kinds id stored (reads (keys.code_info id) stored e).belongs)

  entry_some : (key : PlainKey) → IsKey key → is_some (entry key) ≡ is_some (get map (key_bytes key))
  unfolding entry
  entry_some key k = sym (some_mapped stored_bytes (entry_in map is.entries key)) ∙ sym (ap is_some (has.same key k))

  -- only numbers of 64 bits are in keys, and at these a code is there whole
  alike : (id : ℕ) → is_some (entry (keys.code id)) ≡ is_some (entry (keys.code_info id))
  alike id = go (entry (keys.code id)) refl (entry (keys.code_info id)) refl
    where
      at : id < 2 ^ 64 → is_some (entry (keys.code id)) ≡ is_some (entry (keys.code_info id))
      at lt = entry_some (keys.code id) lt ∙ is.codes id lt ∙ sym (entry_some (keys.code_info id) lt)

      go : (o : Option PlainStored) → entry (keys.code id) ≡ o → (p : Option PlainStored) → entry (keys.code_info id) ≡ p → is_some (entry (keys.code id)) ≡ is_some (entry (keys.code_info id))
      go (Some x) e p f = at (reads (keys.code id) x e).is_key
      go None e (Some y) f = at (reads (keys.code_info id) y f).is_key
      go None e None f = ap is_some e ∙ sym (ap is_some f)

  both_there : (id : ℕ) → is_some (bytes_of id) ≡ is_some (info_of id)
  both_there id = sym (some_mapped code_bytes (bytes_of id)) ∙ ap is_some (bytes_mapped id) ∙ alike id ∙ sym (ap is_some (info_mapped id)) ∙ some_mapped code_info (info_of id)

  live_code : (id : ℕ) (c : Code) → both (bytes_of id) (info_of id) ≡ Some c → (stored : PlainStored) × (entry (keys.code id) ≡ Some stored)
  live_code id c e = let b = both_some (bytes_of id) (info_of id) c e in (code_bytes b.0, sym (bytes_mapped id) ∙ ap (option_map code_bytes) b.1)

  the_codes : (m : FinMap nat_cmp Code) × ((q : ℕ) → get m q ≡ both (bytes_of q) (info_of q))
  unfolding entry pick_code
  the_codes = made map is.entries nat_cmp_total nat_cmp-IsAntisymmetric (λ q. keys.code q) pick_code (λ q. refl) (λ q. both (bytes_of q) (info_of q)) live_code

  the_state : State
  the_state = record {
    facts = the_facts.0;
    counters = the_counters.0;
    balances = the_balances.0;
    supplies = the_supplies.0;
    codes = the_codes.0;
    pins = the_pins.0;
    contracts = the_contracts.0;
    storage = the_storage.0;
  }

  state_has : (key : PlainKey) → entry_of the_state key ≡ entry key
  unfolding the_state entry_of
  state_has keys.facts = sym the_facts.1
  state_has keys.counters = sym the_counters.1
  state_has (keys.balance addr denom) = the_balances.1 (addr, denom)
  state_has (keys.supply denom) = the_supplies.1 denom
  state_has (keys.code id) = ap (option_map (λ (c : Code). code_bytes c.bytes)) (the_codes.1 id) ∙ both_bytes (bytes_of id) (info_of id) (both_there id) ∙ bytes_mapped id
  state_has (keys.code_info id) = ap (option_map (λ (c : Code). code_info c.info)) (the_codes.1 id) ∙ both_info (bytes_of id) (info_of id) (both_there id) ∙ info_mapped id
  state_has (keys.pin id) = the_pins.1 id
  state_has (keys.contract addr) = the_contracts.1 addr
  state_has (keys.storage addr key) = the_storage.1 (addr, key)

  pub spells_gathered : (s : State) × Spells map s
  unfolding entry
  spells_gathered = (the_state, spelled_of map the_state (same_records map (entry_in map is.entries) (entry_of the_state) state_has has))

-- ---- and back

code_some : (m : Option Code) → is_some (option_map stored_bytes (option_map (λ (c : Code). code_bytes c.bytes) m)) ≡ is_some (option_map stored_bytes (option_map (λ (c : Code). code_info c.info) m))
code_some None = refl
code_some (Some c) = refl

pub spelling_of : (map : Bytes) (s : State) → Spells map s → IsSpelling map
unfolding entry_of
spelling_of map s spelled = record {
  entries = λ bytes found e.
      let k = spelled.only bytes found e in
      let there : get map (key_bytes k.0) ≡ Some found = ap (get map) k.1.same ∙ e in
      let r = subst (λ (o : Option (List ℕ)). IsFound k.0 o (entry_of s k.0)) there (spells_records map s k.0 spelled k.1.is_key) in
      record { key = k.0; stored = r.0; is_key = k.1; is_record = r.2 };
  facts = (stored_bytes (facts s.facts), spelled.same keys.facts tt);
  counters = (stored_bytes (counters s.counters), spelled.same keys.counters tt);
  codes = λ id lt. ap is_some (spelled.same (keys.code id) lt) ∙ code_some (get s.codes id) ∙ sym (ap is_some (spelled.same (keys.code_info id) lt));
}

pub spells_some : (map : Bytes) → IsSpelling map ↔ ((s : State) × Spells map s)
spells_some map = (spells_gathered map, λ some. spelling_of map some.0 some.1)
