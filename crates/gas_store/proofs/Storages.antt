-- A contract's storage is what its keys have in the map of the chain.
use Rattle.std.proofs.Common.{◌≡◌, ◌≢◌, ℕ, suc, ◌+◌, Bool, true, false, cond, List, [], ◌∷◌, ◌++◌, map, take, drop, length, Some, None, refl, sym, ap, ◌∙◌, arith}
use Rattle.std.proofs.Math.Seq.{take-append_seam}
use Rattle.std.specs.List.{filter}
use Rattle.std.specs.Str.{bytes_eq}
use Rattle.std.specs.declared.cmp.Ordering.{Ordering}
use Rattle.std.specs.declared.cmp.Ordering.TheVariants.{Less, Equal, Greater}
use Rattle.std.specs.Ordering.{nat_cmp, is_eq, eq_by_cmp}
use Rattle.std.specs.Cmp.{tied_itself}
use Rattle.std.specs.Cmp.Lexicographic.{slice_cmp, nat_list_cmp_total}
use Rattle.std.specs.FinMap.{get, insert, remove, entries, same_map, get-insert, get-remove, get-entries, get-from_entries}
use Rattle.std.specs.FinMap.Entries.{find}
use Rattle.std.proofs.lemmas.List.{take-append-drop}
use Rattle.std.proofs.lemmas.Map.Lookups.{exact_bytes}
use Rattle.std.proofs.lemmas.Slice.Eq.{bytes_eq-Decides}
use Rattle.chain_records.specs.Keys.{key_bytes}
use Rattle.chain_records.specs.Keys as keys
use Rattle.kv_layers.specs.Bytes.{Bytes}
use Rattle.gas_store.specs.Storage.{prefix_of, storage_of, IsOther, HasOthers}
use Rattle.gas_store.proofs.Prefixes.{cmp-prefix}

append_nothing : (xs : List ℕ) → xs ++ [] ≡ xs
append_nothing [] = refl
append_nothing (x ∷ xs) = ap (λ l. x ∷ l) (append_nothing xs)

pub place_of : (addr key : List ℕ) → key_bytes (keys.storage addr key) ≡ prefix_of addr ++ key
unfolding key_bytes
place_of addr key = ap (λ (l : List ℕ). 5 ∷ length addr ∷ l ++ key) (sym (append_nothing addr))

pub addr_behind : (addr : List ℕ) → drop 2 (prefix_of addr) ≡ addr
unfolding key_bytes
addr_behind addr = append_nothing addr

abbrev Entry : Type 0
Entry = List ℕ × List ℕ

abbrev same : List ℕ → List ℕ → Bool
same a b = eq_by_cmp (slice_cmp nat_cmp) a b

same_true : (a b : List ℕ) → a ≡ b → same a b ≡ true
same_true a b e = ap (same a) (sym e) ∙ ap is_eq (tied_itself nat_list_cmp_total a)

same_false : (a b : List ℕ) → a ≢ b → same a b ≡ false
same_false a b n = go (slice_cmp nat_cmp a b) refl
  where
    go : (r : Ordering) → slice_cmp nat_cmp a b ≡ r → is_eq r ≡ false
    go Less e = refl
    go Equal e = absurd (n (exact_bytes a b e))
    go Greater e = refl

-- ---- entries behind a prefix

module _ (p : List ℕ) where
  abbrev is_own : Entry → Bool
  is_own e = bytes_eq (take (length p) e.0) p

  abbrev stripped : Entry → Entry
  stripped e = (drop (length p) e.0, e.1)

  own_is : (e : Entry) → is_own e ≡ true → e.0 ≡ p ++ drop (length p) e.0
  own_is e own = sym (take-append-drop (length p) e.0) ∙ ap (λ (l : List ℕ). l ++ drop (length p) e.0) ((bytes_eq-Decides (take (length p) e.0) p).0 own)

  own_not : (e : Entry) (key : List ℕ) → is_own e ≡ false → p ++ key ≢ e.0
  own_not e key other is =
      let own = (bytes_eq-Decides (take (length p) e.0) p).1 (ap (take (length p)) (sym is) ∙ take-append_seam p key) in
      absurd cc

  find_own : (key : List ℕ) (es : List Entry) → find (slice_cmp nat_cmp) key (map stripped (filter is_own es)) ≡ find (slice_cmp nat_cmp) (p ++ key) es
  find_own key [] = refl
  find_own key (e ∷ es) = go (is_own e) refl (find_own key es)
    where
      go : (b : Bool) → is_own e ≡ b → find (slice_cmp nat_cmp) key (map stripped (filter is_own es)) ≡ find (slice_cmp nat_cmp) (p ++ key) es
          → find (slice_cmp nat_cmp) key (map stripped (cond b (e ∷ filter is_own es) (filter is_own es))) ≡ cond (same (p ++ key) e.0) (Some e.1) (find (slice_cmp nat_cmp) (p ++ key) es)
      go true own rest =
          let tied : same key (drop (length p) e.0) ≡ same (p ++ key) e.0 = ap is_eq (sym (cmp-prefix p key (drop (length p) e.0))) ∙ ap (same (p ++ key)) (sym (own_is e own)) in
          (λ i. cond (tied i) (Some e.1) (rest i))
      go false own rest = rest ∙ sym (ap (λ b. cond b (Some e.1) (find (slice_cmp nat_cmp) (p ++ key) es)) (same_false (p ++ key) e.0 (own_not e key own)))

pub get_storage : (m : Bytes) (addr key : List ℕ) → get (storage_of m addr) key ≡ get m (prefix_of addr ++ key)
get_storage m addr key = get-from_entries nat_list_cmp_total _ key ∙ find_own (prefix_of addr) key (entries m) ∙ sym (get-entries m (prefix_of addr ++ key))

same_behind : (p a b : List ℕ) → same (p ++ a) (p ++ b) ≡ same a b
same_behind p a b = ap is_eq (cmp-prefix p a b)

-- ---- one key of the contract written or removed

pub storage_inserted : (m : Bytes) (addr key value : List ℕ) → storage_of (insert m (prefix_of addr ++ key) value) addr ≡ insert (storage_of m addr) key value
storage_inserted m addr key value = same_map nat_list_cmp_total exact_bytes _ _ (λ q.
    get_storage (insert m (prefix_of addr ++ key) value) addr q
    ∙ get-insert nat_list_cmp_total m (prefix_of addr ++ key) value (prefix_of addr ++ q)
    ∙ (λ i. cond (same_behind (prefix_of addr) q key i) (Some value) (sym (get_storage m addr q) i))
    ∙ sym (get-insert nat_list_cmp_total (storage_of m addr) key value q))

pub storage_removed : (m : Bytes) (addr key : List ℕ) → storage_of (remove m (prefix_of addr ++ key)) addr ≡ remove (storage_of m addr) key
storage_removed m addr key = same_map nat_list_cmp_total exact_bytes _ _ (λ q.
    get_storage (remove m (prefix_of addr ++ key)) addr q
    ∙ get-remove nat_list_cmp_total m (prefix_of addr ++ key) (prefix_of addr ++ q)
    ∙ (λ i. cond (same_behind (prefix_of addr) q key i) None (sym (get_storage m addr q) i))
    ∙ sym (get-remove nat_list_cmp_total (storage_of m addr) key q))

other_place : (addr key place : List ℕ) → IsOther addr place → same place (prefix_of addr ++ key) ≡ false
other_place addr key place other = same_false place (prefix_of addr ++ key) (λ is. other key (is ∙ sym (place_of addr key)))

pub others_inserted : (m : Bytes) (addr key value : List ℕ) → HasOthers addr m (insert m (prefix_of addr ++ key) value)
others_inserted m addr key value place other = get-insert nat_list_cmp_total m (prefix_of addr ++ key) value place ∙ ap (λ b. cond b (Some value) (get m place)) (other_place addr key place other)

pub others_removed : (m : Bytes) (addr key : List ℕ) → HasOthers addr m (remove m (prefix_of addr ++ key))
others_removed m addr key place other = get-remove nat_list_cmp_total m (prefix_of addr ++ key) place ∙ ap (λ b. cond b None (get m place)) (other_place addr key place other)

pub prefix_length : (addr : List ℕ) → length (prefix_of addr) ≡ 2 + length addr
unfolding key_bytes
prefix_length addr = ap (λ n. suc (suc n)) (ap length (append_nothing addr)) ∙ omega arith
