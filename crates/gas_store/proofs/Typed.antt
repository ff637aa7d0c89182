-- A contract's storage in a map that spells a state, before and after its own keys change.
use Rattle.std.proofs.Common.{◌≡◌, ◌≢◌, ◌⊎◌, inl, inr, ℕ, ◌≤◌, Bool, true, false, cond, not, ◌&&◌, List, [], ◌∷◌, ◌++◌, map, take, drop, length, Option, Some, None, refl, sym, ap, ◌∙◌, subst}
use Rattle.std.specs.Option.{option_map}
use Rattle.std.specs.List.{filter}
use Rattle.std.specs.Str.{bytes_eq}
use Rattle.std.specs.declared.cmp.Ordering.{Ordering}
use Rattle.std.specs.declared.cmp.Ordering.TheVariants.{Less, Equal, Greater}
use Rattle.std.specs.Ordering.{nat_cmp, is_eq, eq_by_cmp, ordering_then}
use Rattle.std.specs.Cmp.{IsTotalOrder}
use Rattle.std.specs.Cmp.Lexicographic.{slice_cmp, nat_list_cmp_total}
use Rattle.std.specs.FinMap.{get, entries, same_map, get-entries, get-from_entries}
use Rattle.std.specs.FinMap.Entries.{find}
use Rattle.std.proofs.Math.Seq.{take-append_seam}
use Rattle.std.proofs.lemmas.Cmp.{on_total, then_total}
use Rattle.std.proofs.lemmas.List.{take-append-drop}
use Rattle.std.proofs.lemmas.Map.Lookups.{exact_bytes}
use Rattle.std.proofs.lemmas.Map.Text.{is_eq-slice_cmp}
use Rattle.std.proofs.lemmas.Slice.Eq.{bytes_eq-Decides}
use Rattle.chain_records.specs.Keys.{PlainKey, key_bytes, IsKey, IsKeyOf}
use Rattle.chain_records.specs.Keys as keys
use Rattle.chain_records.specs.Laws.{TellsKeys}
use Rattle.chain_records.specs.Records.{PlainStored, value, stored_bytes, IsRecord}
use Rattle.chain_records.specs.State.{Addressed, addressed_cmp, State, entry_of, Spells}
use Rattle.kv_layers.specs.Bytes.{Bytes}
use Rattle.gas_store.specs.Storage.{prefix_of, storage_of, IsOther, HasOthers}
use Rattle.gas_store.specs.Typed.{storage_in, with_storage}
use Rattle.gas_store.proofs.Storages.{place_of, get_storage}

abbrev either : Option (List ℕ) → Option (List ℕ) → Option (List ℕ)
either None y = y
either (Some x) y = Some x

addressed_total : IsTotalOrder addressed_cmp
addressed_total = then_total (on_total (λ (p : Addressed). p.0) nat_list_cmp_total) (on_total (λ (p : Addressed). p.1) nat_list_cmp_total)

both_eq : (a b : Ordering) → is_eq (ordering_then a b) ≡ (is_eq a && is_eq b)
both_eq Less b = refl
both_eq Equal b = refl
both_eq Greater b = refl

same_account : (p q : Addressed) → eq_by_cmp addressed_cmp p q ≡ (bytes_eq p.0 q.0 && eq_by_cmp (slice_cmp nat_cmp) p.1 q.1)
same_account p q = both_eq (slice_cmp nat_cmp p.0 q.0) (slice_cmp nat_cmp p.1 q.1) ∙ ap (λ b. b && is_eq (slice_cmp nat_cmp p.1 q.1)) (is_eq-slice_cmp p.0 q.0)

abbrev Held : Type 0
Held = Addressed × List ℕ

abbrev Entry : Type 0
Entry = List ℕ × List ℕ

same_true : (a : List ℕ) → bytes_eq a a ≡ true
same_true a = (bytes_eq-Decides a a).1 refl

other_false : (a b : List ℕ) → a ≢ b → bytes_eq a b ≡ false
other_false a b n = go (bytes_eq a b) refl
  where
    go : (r : Bool) → bytes_eq a b ≡ r → r ≡ false
    go true e = absurd (n ((bytes_eq-Decides a b).0 e))
    go false e = refl

bytes_cases : (a b : List ℕ) → (a ≡ b) ⊎ (a ≢ b)
bytes_cases a b = go (bytes_eq a b) refl
  where
    go : (r : Bool) → bytes_eq a b ≡ r → (a ≡ b) ⊎ (a ≢ b)
    go true e = inl ((bytes_eq-Decides a b).0 e)
    go false e = inr (λ p. let t = sym ((bytes_eq-Decides a b).1 p) ∙ e in absurd cc)

-- ---- look-ups by address

find_held : (addr key : List ℕ) (es : List Held) → find (slice_cmp nat_cmp) key (map (λ (e : Held). (e.0.1, e.1)) (filter (λ (e : Held). bytes_eq e.0.0 addr) es)) ≡ find addressed_cmp (addr, key) es
find_held addr key [] = refl
find_held addr key (e ∷ es) = go (bytes_eq e.0.0 addr) refl (find_held addr key es)
  where
    go : (b : Bool) → bytes_eq e.0.0 addr ≡ b
        → find (slice_cmp nat_cmp) key (map (λ (e : Held). (e.0.1, e.1)) (filter (λ (e : Held). bytes_eq e.0.0 addr) es)) ≡ find addressed_cmp (addr, key) es
        → find (slice_cmp nat_cmp) key (map (λ (e : Held). (e.0.1, e.1)) (cond b (e ∷ filter (λ (e : Held). bytes_eq e.0.0 addr) es) (filter (λ (e : Held). bytes_eq e.0.0 addr) es)))
        ≡ cond (eq_by_cmp addressed_cmp (addr, key) e.0) (Some e.1) (find addressed_cmp (addr, key) es)
    go true p rest =
        let same : addr ≡ e.0.0 = sym ((bytes_eq-Decides e.0.0 addr).0 p) in
        let tied : eq_by_cmp (slice_cmp nat_cmp) key e.0.1 ≡ eq_by_cmp addressed_cmp (addr, key) e.0 =
        sym (same_account (addr, key) e.0 ∙ ap (λ b. b && eq_by_cmp (slice_cmp nat_cmp) key e.0.1) ((bytes_eq-Decides addr e.0.0).1 same)) in
        (λ i. cond (tied i) (Some e.1) (rest i))
    go false p rest =
        let other : bytes_eq addr e.0.0 ≡ false = other_false addr e.0.0 (λ s. let t = sym ((bytes_eq-Decides e.0.0 addr).1 (sym s)) ∙ p in absurd cc) in
        rest ∙ sym (ap (λ b. cond b (Some e.1) (find addressed_cmp (addr, key) es)) (same_account (addr, key) e.0 ∙ ap (λ b. b && eq_by_cmp (slice_cmp nat_cmp) key e.0.1) other))

get_storage_in : (s : State) (addr key : List ℕ) → get (storage_in s addr) key ≡ get s.storage (addr, key)
get_storage_in s addr key = get-from_entries nat_list_cmp_total _ key ∙ find_held addr key (entries s.storage) ∙ sym (get-entries s.storage (addr, key))

find_named : (addr key : List ℕ) (es : List Entry) (more : List Held) → find addressed_cmp (addr, key) (map (λ (e : Entry). ((addr, e.0), e.1)) es ++ more) ≡ either (find (slice_cmp nat_cmp) key es) (find addressed_cmp (addr, key) more)
find_named addr key [] more = refl
find_named addr key (e ∷ es) more =
    let tied = same_account (addr, key) (addr, e.0) ∙ ap (λ b. b && eq_by_cmp (slice_cmp nat_cmp) key e.0) (same_true addr) in
    (λ i. cond (tied i) (Some e.1) (find_named addr key es more i)) ∙ choose (eq_by_cmp (slice_cmp nat_cmp) key e.0) e.1 (find (slice_cmp nat_cmp) key es) (find addressed_cmp (addr, key) more)
  where
    choose : (b : Bool) (v : List ℕ) (x y : Option (List ℕ)) → cond b (Some v) (either x y) ≡ either (cond b (Some v) x) y
    choose true v x y = refl
    choose false v x y = refl

find_unnamed : (addr b key : List ℕ) (es : List Entry) (more : List Held) → b ≢ addr → find addressed_cmp (b, key) (map (λ (e : Entry). ((addr, e.0), e.1)) es ++ more) ≡ find addressed_cmp (b, key) more
find_unnamed addr b key [] more other = refl
find_unnamed addr b key (e ∷ es) more other =
    ap (λ t. cond t (Some e.1) (find addressed_cmp (b, key) (map (λ (e : Entry). ((addr, e.0), e.1)) es ++ more))) (same_account (b, key) (addr, e.0) ∙ ap (λ t. t && eq_by_cmp (slice_cmp nat_cmp) key e.0) (other_false b addr other))
    ∙ find_unnamed addr b key es more other

abbrev Others : List ℕ → List Held → List Held
Others addr es = filter (λ (e : Held). not (bytes_eq e.0.0 addr)) es

find_others : (addr b key : List ℕ) (es : List Held) → find addressed_cmp (b, key) (Others addr es) ≡ cond (bytes_eq b addr) None (find addressed_cmp (b, key) es)
find_others addr b key [] = nothing (bytes_eq b addr)
  where
    none : Option (List ℕ)
    none = None

    nothing : (t : Bool) → none ≡ cond t None None
    nothing true = refl
    nothing false = refl
find_others addr b key (e ∷ es) = go (bytes_eq e.0.0 addr) refl (eq_by_cmp addressed_cmp (b, key) e.0) refl (bytes_eq b addr) refl (find_others addr b key es)
  where
    pair_first : (x y : Bool) → (x && y) ≡ true → x ≡ true
    pair_first true y t = refl
    pair_first false y t = absurd cc

    owner : eq_by_cmp addressed_cmp (b, key) e.0 ≡ true → b ≡ e.0.0
    owner t = (bytes_eq-Decides b e.0.0).0 (pair_first _ _ (sym (same_account (b, key) e.0) ∙ t))

    go : (own : Bool) → bytes_eq e.0.0 addr ≡ own → (here : Bool) → eq_by_cmp addressed_cmp (b, key) e.0 ≡ here → (same : Bool) → bytes_eq b addr ≡ same → find addressed_cmp (b, key) (Others addr es) ≡ cond same None (find addressed_cmp (b, key) es)
        → find addressed_cmp (b, key) (cond (not own) (e ∷ Others addr es) (Others addr es)) ≡ cond same None (cond here (Some e.1) (find addressed_cmp (b, key) es))
    go true p true q true r rest = rest
    go true p false q true r rest = rest
    go true p false q false r rest = rest
    go true p true q false r rest = let own = (bytes_eq-Decides b addr).1 (owner q ∙ (bytes_eq-Decides e.0.0 addr).0 p) in let both = sym own ∙ r in absurd cc
    go false p true q true r rest = let own = (bytes_eq-Decides e.0.0 addr).1 (sym (owner q) ∙ (bytes_eq-Decides b addr).0 r) in let both = sym own ∙ p in absurd cc
    go false p true q false r rest = ap (λ t. cond t (Some e.1) (find addressed_cmp (b, key) (Others addr es))) q
    go false p false q same r rest = ap (λ t. cond t (Some e.1) (find addressed_cmp (b, key) (Others addr es))) q ∙ rest

-- ---- the state with another storage

storage_there : (s : State) (addr : List ℕ) (storage : Bytes) (key : List ℕ) → get (with_storage s addr storage).storage (addr, key) ≡ get storage key
storage_there s addr storage key =
    get-from_entries addressed_total _ (addr, key) ∙ find_named addr key (entries storage) (Others addr (entries s.storage))
    ∙ (λ i. either (sym (get-entries storage key) i) (nothing i)) ∙ left (get storage key)
  where
    none : Option (List ℕ)
    none = None

    nothing : find addressed_cmp (addr, key) (Others addr (entries s.storage)) ≡ none
    nothing = find_others addr addr key (entries s.storage) ∙ ap (λ t. cond t None (find addressed_cmp (addr, key) (entries s.storage))) (same_true addr)

    left : (o : Option (List ℕ)) → either o none ≡ o
    left None = refl
    left (Some v) = refl

storage_else : (s : State) (addr : List ℕ) (storage : Bytes) (b key : List ℕ) → b ≢ addr → get (with_storage s addr storage).storage (b, key) ≡ get s.storage (b, key)
storage_else s addr storage b key other =
    get-from_entries addressed_total _ (b, key) ∙ find_unnamed addr b key (entries storage) (Others addr (entries s.storage)) other
    ∙ find_others addr b key (entries s.storage) ∙ ap (λ t. cond t None (find addressed_cmp (b, key) (entries s.storage))) (other_false b addr other) ∙ sym (get-entries s.storage (b, key))

abbrev IsNot : List ℕ → PlainKey → Type 0
IsNot addr key = (k : List ℕ) → key ≢ keys.storage addr k

key_cases : (addr : List ℕ) (key : PlainKey) → ((k : List ℕ) × (key ≡ keys.storage addr k)) ⊎ IsNot addr key
key_cases addr (keys.storage b k) = elim (bytes_cases b addr) [ inl p ↦ inl (k, λ i. keys.storage (p i) k) | inr n ↦ inr (λ k e. n cc) ]
key_cases addr keys.facts = inr (λ k e. absurd cc)
key_cases addr keys.counters = inr (λ k e. absurd cc)
key_cases addr (keys.balance a d) = inr (λ k e. absurd cc)
key_cases addr (keys.supply d) = inr (λ k e. absurd cc)
key_cases addr (keys.code id) = inr (λ k e. absurd cc)
key_cases addr (keys.code_info id) = inr (λ k e. absurd cc)
key_cases addr (keys.pin id) = inr (λ k e. absurd cc)
key_cases addr (keys.contract a) = inr (λ k e. absurd cc)

entry_else : (s : State) (addr : List ℕ) (storage : Bytes) (key : PlainKey) → IsNot addr key → entry_of (with_storage s addr storage) key ≡ entry_of s key
unfolding entry_of
entry_else s addr storage (keys.storage b k) not_own = ap (option_map value) (storage_else s addr storage b k (λ p. not_own k (λ i. keys.storage (p i) k)))
entry_else s addr storage keys.facts not_own = refl
entry_else s addr storage keys.counters not_own = refl
entry_else s addr storage (keys.balance a d) not_own = refl
entry_else s addr storage (keys.supply d) not_own = refl
entry_else s addr storage (keys.code id) not_own = refl
entry_else s addr storage (keys.code_info id) not_own = refl
entry_else s addr storage (keys.pin id) not_own = refl
entry_else s addr storage (keys.contract a) not_own = refl

entry_there : (s : State) (addr key : List ℕ) → entry_of s (keys.storage addr key) ≡ option_map value (get s.storage (addr, key))
unfolding entry_of
entry_there s addr key = refl

value_bytes : (o : Option (List ℕ)) → option_map stored_bytes (option_map value o) ≡ o
unfolding stored_bytes
value_bytes None = refl
value_bytes (Some v) = refl

value_record : (o : Option (List ℕ)) (stored : PlainStored) → option_map value o ≡ Some stored → IsRecord stored
value_record None stored e = absurd cc
value_record (Some v) stored e = let same : value v ≡ stored = cc in subst IsRecord same tt

-- ---- the laws

pub spells_storage : (m : Bytes) (s : State) (addr : List ℕ) → length addr ≤ 255 → Spells m s → storage_of m addr ≡ storage_in s addr
spells_storage m s addr short spelled = same_map nat_list_cmp_total exact_bytes _ _ (λ key.
    get_storage m addr key ∙ ap (get m) (sym (place_of addr key)) ∙ spelled.same (keys.storage addr key) short ∙ ap (option_map stored_bytes) (entry_there s addr key) ∙ value_bytes (get s.storage (addr, key)) ∙ sym (get_storage_in s addr key))

module _ (tells : TellsKeys) (old new : Bytes) (s : State) (addr : List ℕ) (short : length addr ≤ 255) (spelled : Spells old s) (others : HasOthers addr old new) where
  changed_state : State
  changed_state = with_storage s addr (storage_of new addr)

  other_key : (key : PlainKey) → IsKey key → IsNot addr key → IsOther addr (key_bytes key)
  other_key key is_key not_own k e = not_own k (tells (key_bytes key) key (keys.storage addr k) (record { is_key = is_key; same = refl }) (record { is_key = short; same = sym e }))

  well_formed : (key : PlainKey) (stored : PlainStored) → entry_of changed_state key ≡ Some stored → IsKey key × IsRecord stored
  unfolding changed_state
  well_formed key stored e = elim (key_cases addr key) [
    | inl p ↦ (
      subst IsKey (sym p.1) short,
      value_record (get (with_storage s addr (storage_of new addr)).storage (addr, p.0)) stored (sym (entry_there (with_storage s addr (storage_of new addr)) addr p.0) ∙ ap (entry_of (with_storage s addr (storage_of new addr))) (sym p.1) ∙ e),
    )
    | inr n ↦ spelled.well_formed key stored (sym (entry_else s addr (storage_of new addr) key n) ∙ e)
  ]

  same_own : (k : List ℕ) → get new (key_bytes (keys.storage addr k)) ≡ option_map stored_bytes (entry_of changed_state (keys.storage addr k))
  unfolding changed_state
  same_own k =
      ap (get new) (place_of addr k) ∙ sym (get_storage new addr k) ∙ sym (storage_there s addr (storage_of new addr) k)
      ∙ sym (ap (option_map stored_bytes) (entry_there (with_storage s addr (storage_of new addr)) addr k) ∙ value_bytes (get (with_storage s addr (storage_of new addr)).storage (addr, k)))

  same : (key : PlainKey) → IsKey key → get new (key_bytes key) ≡ option_map stored_bytes (entry_of changed_state key)
  unfolding changed_state
  same key is_key = elim (key_cases addr key) [
    | inl p ↦ ap (λ (k : PlainKey). get new (key_bytes k)) p.1 ∙ same_own p.0 ∙ ap (λ (k : PlainKey). option_map stored_bytes (entry_of (with_storage s addr (storage_of new addr)) k)) (sym p.1)
    | inr n ↦ others (key_bytes key) (other_key key is_key n) ∙ spelled.same key is_key ∙ ap (option_map stored_bytes) (sym (entry_else s addr (storage_of new addr) key n))
  ]

  only : (bytes found : List ℕ) → get new bytes ≡ Some found → (key : PlainKey) × IsKeyOf bytes key
  only bytes found e = elim (bytes_cases (take (length (prefix_of addr)) bytes) (prefix_of addr)) [
    | inl p ↦ (
      keys.storage addr (drop (length (prefix_of addr)) bytes),
      record {
        is_key = short;
        same = place_of addr (drop (length (prefix_of addr)) bytes) ∙ ap (λ (l : List ℕ). l ++ drop (length (prefix_of addr)) bytes) (sym p) ∙ take-append-drop (length (prefix_of addr)) bytes;
      },
    )
    | inr n ↦ spelled.only bytes found (sym (others bytes (λ k is. n (ap (take (length (prefix_of addr))) (is ∙ place_of addr k) ∙ take-append_seam (prefix_of addr) k))) ∙ e)
  ]

  pub spells_changed : Spells new (with_storage s addr (storage_of new addr))
  unfolding changed_state
  spells_changed = record { well_formed = well_formed; same = same; only = only }
