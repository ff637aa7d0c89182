-- With another storage of a contract a state stays lawful.
use Rattle.std.proofs.Common.{◌≡◌, ◌≢◌, ◌⊎◌, inl, inr, ℕ, Bool, true, false, cond, not, ◌&&◌, List, [], ◌∷◌, ◌++◌, map, Option, Some, None, refl, sym, ap, ◌∙◌, subst}
use Rattle.std.specs.List.{filter}
use Rattle.std.specs.Str.{bytes_eq}
use Rattle.std.specs.declared.cmp.Ordering.{Ordering}
use Rattle.std.specs.declared.cmp.Ordering.TheVariants.{Less, Equal, Greater}
use Rattle.std.specs.Ordering.{nat_cmp, is_eq, eq_by_cmp, ordering_then}
use Rattle.std.specs.Cmp.{IsTotalOrder}
use Rattle.std.specs.Cmp.Lexicographic.{slice_cmp, nat_list_cmp_total}
use Rattle.std.specs.FinMap.{get, entries, get-entries, get-from_entries}
use Rattle.std.specs.FinMap.Entries.{find}
use Rattle.std.proofs.lemmas.Cmp.{on_total, then_total}
use Rattle.std.proofs.lemmas.Map.Text.{is_eq-slice_cmp}
use Rattle.std.proofs.lemmas.Slice.Eq.{bytes_eq-Decides}
use Rattle.chain_records.specs.Keys.{IsAddress}
use Rattle.chain_records.specs.State.{Addressed, addressed_cmp, Bytes, State}
use Rattle.gas_store.specs.Typed.{with_storage}
use Rattle.query_router.specs.Lawful.{IsLawful}

addressed_total : IsTotalOrder addressed_cmp
addressed_total = then_total (on_total (λ (p : Addressed). p.0) nat_list_cmp_total) (on_total (λ (p : Addressed). p.1) nat_list_cmp_total)

both_eq : (a b : Ordering) → is_eq (ordering_then a b) ≡ (is_eq a && is_eq b)
both_eq Less b = refl
both_eq Equal b = refl
both_eq Greater b = refl

same_account : (p q : Addressed) → eq_by_cmp addressed_cmp p q ≡ (bytes_eq p.0 q.0 && eq_by_cmp (slice_cmp nat_cmp) p.1 q.1)
same_account p q = both_eq (slice_cmp nat_cmp p.0 q.0) (slice_cmp nat_cmp p.1 q.1) ∙ ap (λ b. b && is_eq (slice_cmp nat_cmp p.1 q.1)) (is_eq-slice_cmp p.0 q.0)

abbrev Held : Type 0
Held = Addressed × List ℕ

abbrev Entry : Type 0
Entry = List ℕ × List ℕ

other_false : (a b : List ℕ) → a ≢ b → bytes_eq a b ≡ false
other_false a b n = go (bytes_eq a b) refl
  where
    go : (r : Bool) → bytes_eq a b ≡ r → r ≡ false
    go true e = absurd (n ((bytes_eq-Decides a b).0 e))
    go false e = refl

bytes_cases : (a b : List ℕ) → (a ≡ b) ⊎ (a ≢ b)
bytes_cases a b = go (bytes_eq a b) refl
  where
    go : (r : Bool) → bytes_eq a b ≡ r → (a ≡ b) ⊎ (a ≢ b)
    go true e = inl ((bytes_eq-Decides a b).0 e)
    go false e = inr (λ p. let t = sym ((bytes_eq-Decides a b).1 p) ∙ e in absurd cc)

find_unnamed : (addr b key : List ℕ) (es : List Entry) (more : List Held) → b ≢ addr → find addressed_cmp (b, key) (map (λ (e : Entry). ((addr, e.0), e.1)) es ++ more) ≡ find addressed_cmp (b, key) more
find_unnamed addr b key [] more other = refl
find_unnamed addr b key (e ∷ es) more other =
    ap (λ t. cond t (Some e.1) (find addressed_cmp (b, key) (map (λ (e : Entry). ((addr, e.0), e.1)) es ++ more))) (same_account (b, key) (addr, e.0) ∙ ap (λ t. t && eq_by_cmp (slice_cmp nat_cmp) key e.0) (other_false b addr other))
    ∙ find_unnamed addr b key es more other

abbrev Others : List ℕ → List Held → List Held
Others addr es = filter (λ (e : Held). not (bytes_eq e.0.0 addr)) es

find_others : (addr b key : List ℕ) (es : List Held) → b ≢ addr → find addressed_cmp (b, key) (Others addr es) ≡ find addressed_cmp (b, key) es
find_others addr b key [] other = refl
find_others addr b key (e ∷ es) other = go (bytes_eq e.0.0 addr) refl (eq_by_cmp addressed_cmp (b, key) e.0) refl (find_others addr b key es other)
  where
    pair_first : (x y : Bool) → (x && y) ≡ true → x ≡ true
    pair_first true y t = refl
    pair_first false y t = absurd cc

    owner : eq_by_cmp addressed_cmp (b, key) e.0 ≡ true → b ≡ e.0.0
    owner t = (bytes_eq-Decides b e.0.0).0 (pair_first _ _ (sym (same_account (b, key) e.0) ∙ t))

    go : (own : Bool) → bytes_eq e.0.0 addr ≡ own → (here : Bool) → eq_by_cmp addressed_cmp (b, key) e.0 ≡ here → find addressed_cmp (b, key) (Others addr es) ≡ find addressed_cmp (b, key) es
        → find addressed_cmp (b, key) (cond (not own) (e ∷ Others addr es) (Others addr es)) ≡ cond here (Some e.1) (find addressed_cmp (b, key) es)
    go true p true q rest = absurd (other (owner q ∙ (bytes_eq-Decides e.0.0 addr).0 p))
    go true p false q rest = rest
    go false p true q rest = ap (λ t. cond t (Some e.1) (find addressed_cmp (b, key) (Others addr es))) q
    go false p false q rest = ap (λ t. cond t (Some e.1) (find addressed_cmp (b, key) (Others addr es))) q ∙ rest

storage_else : (s : State) (addr : List ℕ) (storage : Bytes) (b key : List ℕ) → b ≢ addr → get (with_storage s addr storage).storage (b, key) ≡ get s.storage (b, key)
storage_else s addr storage b key other =
    get-from_entries addressed_total _ (b, key) ∙ find_unnamed addr b key (entries storage) (Others addr (entries s.storage)) other
    ∙ find_others addr b key (entries s.storage) other ∙ sym (get-entries s.storage (b, key))

owned : (s : State) (addr : List ℕ) (storage : Bytes) → IsAddress addr → IsLawful s → (x key v : List ℕ) → get (with_storage s addr storage).storage (x, key) ≡ Some v → IsAddress x
owned s addr storage address lawful x key v is = elim (bytes_cases x addr) [
  | inl e ↦ subst IsAddress (sym e) address
  | inr n ↦ lawful.contracts.storage x key v (sym (storage_else s addr storage x key n) ∙ is)
]

pub stored_lawful : (s : State) (addr : List ℕ) (storage : Bytes) → IsAddress addr → IsLawful s → IsLawful (with_storage s addr storage)
stored_lawful s addr storage address lawful = record {
  prefix = lawful.prefix;
  authority = lawful.authority;
  amounts = record { sums = lawful.amounts.sums; bounded = lawful.amounts.bounded; accounts = lawful.amounts.accounts; supplies = lawful.amounts.supplies };
  codes = record {
    first = lawful.codes.first;
    few = lawful.codes.few;
    numbered = lawful.codes.numbered;
    codes = lawful.codes.codes;
    pinned = lawful.codes.pinned;
    few_pinned = lawful.codes.few_pinned;
  };
  contracts = record {
    contracts = λ a c is. let h = lawful.contracts.contracts a c is in (h.0, record { code = h.1.code; creator = h.1.creator; admin = h.1.admin });
    storage = owned s addr storage address lawful;
  };
}
