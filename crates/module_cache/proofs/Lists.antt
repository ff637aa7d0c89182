-- Lists of modules under their codes: what look-ups, uses and puts make of the codes.
use Rattle.std.proofs.Common.{◌≡◌, ℕ, zero, suc, ◌+◌, ◌-◌, ◌<◌, ◌≤◌, Bool, true, false, ◌||◌, not, cond, List, [], ◌∷◌, map, length, take, Option, Some, None, is_some, refl, sym, ap, subst, ◌∙◌, inl, inr, arith}
use Rattle.std.proofs.lemmas.List.{take_all, take-map, length-map}
use Rattle.std.proofs.lemmas.Map.Keys.{IsDistinct-head, IsDistinct-tail}
use Rattle.std.specs.Cmp.Lexicographic.{same_text, nat_list_eq_equiv}
use Rattle.std.specs.List.{IsDistinct, AllByRecursion}
use Rattle.std.specs.Map.{keys_of, lookup, lookup_entry, remove_entry}
use Rattle.std.specs.Option.{option_map_or}
use Rattle.std.specs.Str.{bytes_eq}
use Rattle.std.specs.Global.{Global}
use Rattle.std.specs.declared.sync.Arc.{Arc}
use Rattle.std.specs.Arc.{arc_value}
use Rattle.lru.specs.LruCache.{LruCache, promoted, put_entries}
use Rattle.lru.proofs.CallerLemmas.{Contains-lookup_entry, Contains-lookup, Contains-promoted, Contains-put_entries, IsPut}
use Rattle.wasm_types.specs.declared.module.Module.{Module}
use Rattle.gatekeeper.specs.Cache.{is_among, all_but, to_front}
use Rattle.module_cache.specs.Right.{IsModuleOf, AreRight}

pub flip : (a b : List ℕ) → bytes_eq a b ≡ bytes_eq b a
flip = nat_list_eq_equiv.symm

-- ---- lists of codes

-- a code that isn't there leaves no gap
pub none_to_close : (code : List ℕ) (cs : List (List ℕ)) → is_among code cs ≡ false → all_but code cs ≡ cs
none_to_close code [] h = refl
none_to_close code (c ∷ cs) h =
    elim (bytes_eq c code) as (λ b. (b || is_among code cs) ≡ false → cond (not b) (c ∷ all_but code cs) (all_but code cs) ≡ c ∷ cs) [
      | true ↦ λ g. cc
      | false ↦ λ g. ap (λ l. c ∷ l) (none_to_close code cs g)
    ] h

-- what differs from a code differs from those equal to it
pub not_among_others : (code k : List ℕ) (cs : List (List ℕ)) → bytes_eq code k ≡ true → AllByRecursion (λ y. bytes_eq k y ≡ false) cs → is_among code cs ≡ false
not_among_others code k [] t a = refl
not_among_others code k (c ∷ cs) t a =
    ap (λ b. b || is_among code cs) (flip c code ∙ nat_list_eq_equiv.congr code k c t ∙ a.0) ∙ not_among_others code k cs t a.1

take_first : {A : Type 0} (n : ℕ) (x : A) (xs : List A) → 0 < n → take n (x ∷ xs) ≡ x ∷ take (n - 1) xs
take_first zero x xs h = let no : ⊥ = omega (arith, h) in absurd no
take_first (suc n) x xs h = let e : n ≡ suc n - 1 = omega arith in ap (λ m. x ∷ take m xs) e

abbrev pub is_of : {K : Type 0} → (K → List ℕ) → List ℕ → K → Bool
is_of bytes code k = bytes_eq code (bytes k)

module _ {K V : Type 0} (bytes : K → List ℕ) where
  abbrev codes : List (K × V) → List (List ℕ)
  codes es = map (λ e. bytes e.0) es

  -- codes differ where keys do
  apart : (k : K) (es : List (K × V)) → AllByRecursion (λ y. bytes_eq (bytes k) (bytes y) ≡ false) (keys_of es) → AllByRecursion (λ y. bytes_eq (bytes k) y ≡ false) (codes es)
  apart k [] a = tt
  apart k (e ∷ es) a = (a.0, apart k es a.1)

  pub codes_differ : (es : List (K × V)) → IsDistinct (λ x y. bytes_eq (bytes x) (bytes y)) (keys_of es) → IsDistinct bytes_eq (codes es)
  unfolding IsDistinct
  codes_differ [] d = tt
  codes_differ (e ∷ es) d = (apart e.0 es d.0, codes_differ es d.1)

  module _ (code : List ℕ) where
    -- a look-up finds the code where it is among the codes
    pub is_some-lookup : (es : List (K × V)) → is_some (lookup (is_of bytes code) es) ≡ is_among code (codes es)
    is_some-lookup [] = refl
    is_some-lookup (e ∷ es) =
        rw (flip (bytes e.0) code) (elim (bytes_eq code (bytes e.0)) as (λ b. is_some (cond b (Some e.1) (lookup (is_of bytes code) es)) ≡ (b || is_among code (codes es))) [
          | true ↦ refl
          | false ↦ is_some-lookup es
        ])

    is_some-lookup_entry : (es : List (K × V)) → is_some (lookup_entry (is_of bytes code) es) ≡ is_among code (codes es)
    is_some-lookup_entry [] = refl
    is_some-lookup_entry (e ∷ es) =
        rw (flip (bytes e.0) code) (elim (bytes_eq code (bytes e.0)) as (λ b. is_some (cond b (Some e) (lookup_entry (is_of bytes code) es)) ≡ (b || is_among code (codes es))) [
          | true ↦ refl
          | false ↦ is_some-lookup_entry es
        ])

    codes-remove_entry : (es : List (K × V)) → IsDistinct bytes_eq (codes es) → codes (remove_entry (is_of bytes code) es) ≡ all_but code (codes es)
    codes-remove_entry [] d = refl
    codes-remove_entry (e ∷ es) d =
        rw (flip (bytes e.0) code) ((elim (bytes_eq code (bytes e.0)) as (λ b. bytes_eq code (bytes e.0) ≡ b → codes (cond b es (e ∷ remove_entry (is_of bytes code) es)) ≡ cond (not b) (bytes e.0 ∷ all_but code (codes es)) (all_but code (codes es))) [
          | true ↦ λ t. sym (none_to_close code (codes es) (not_among_others code (bytes e.0) (codes es) t (IsDistinct-head bytes_eq (bytes e.0) (codes es) d)))
          | false ↦ λ t. ap (λ l. bytes e.0 ∷ l) (codes-remove_entry es (IsDistinct-tail bytes_eq (bytes e.0) (codes es) d))
        ]) refl)

    length-remove_entry : (es : List (K × V)) → is_some (lookup_entry (is_of bytes code) es) ≡ true → length (remove_entry (is_of bytes code) es) + 1 ≡ length es
    length-remove_entry [] h = cc
    length-remove_entry (e ∷ es) h =
        elim (bytes_eq code (bytes e.0)) as (λ b. is_some (cond b (Some e) (lookup_entry (is_of bytes code) es)) ≡ true → length (cond b es (e ∷ remove_entry (is_of bytes code) es)) + 1 ≡ length (e ∷ es)) [
          | true ↦ λ g. omega arith
          | false ↦ λ g. let rest = length-remove_entry es g in omega (arith, rest)
        ] h

    key-lookup_entry : (es : List (K × V)) (f : K × V) → lookup_entry (is_of bytes code) es ≡ Some f → bytes f.0 ≡ code
    key-lookup_entry es f h = sym (same_text code (bytes f.0) (sym (Contains-lookup_entry (is_of bytes code) es f h).1))

    -- ---- a use

    front_by : (es : List (K × V)) (o : Option (K × V)) → IsDistinct bytes_eq (codes es) → lookup_entry (is_of bytes code) es ≡ o
        → codes (option_map_or (λ e. e ∷ remove_entry (is_of bytes code) es) o es) ≡ cond (is_some o) (to_front code (codes es)) (codes es)
    front_by es None d h = refl
    front_by es (Some f) d h = ap (λ k. k ∷ codes (remove_entry (is_of bytes code) es)) (key-lookup_entry es f h) ∙ ap (λ l. code ∷ l) (codes-remove_entry es d)

    -- a code that is there comes to the front
    pub codes-promoted : (es : List (K × V)) → IsDistinct bytes_eq (codes es)
        → codes (promoted (is_of bytes code) es) ≡ cond (is_among code (codes es)) (to_front code (codes es)) (codes es)
    codes-promoted es d = front_by es (lookup_entry (is_of bytes code) es) d refl ∙ ap (λ b. cond b (to_front code (codes es)) (codes es)) (is_some-lookup_entry es)

  -- ---- a put

  put_by : (es : List (K × V)) (cap : ℕ) (k : K) (v : V) (o : Option (K × V)) → 0 < cap → length es ≤ cap → IsDistinct bytes_eq (codes es) → lookup_entry (is_of bytes (bytes k)) es ≡ o
      → codes (option_map_or (λ e. (e.0, v) ∷ remove_entry (is_of bytes (bytes k)) es) o ((k, v) ∷ take (cap - 1) es)) ≡ take cap (to_front (bytes k) (codes es))
  put_by es cap k v None some few d h =
      let absent : is_among (bytes k) (codes es) ≡ false = sym (is_some-lookup_entry (bytes k) es) ∙ ap is_some h in
      ap (λ l. bytes k ∷ l) (sym (take-map (λ (e : K × V). bytes e.0) (cap - 1) es) ∙ ap (take (cap - 1)) (sym (none_to_close (bytes k) (codes es) absent)))
      ∙ sym (take_first cap (bytes k) (all_but (bytes k) (codes es)) some)
  put_by es cap k v (Some f) some few d h =
      let closed = codes-remove_entry (bytes k) es d in
      let one_less = length-remove_entry (bytes k) es (ap is_some h) in
      let fits : length (to_front (bytes k) (codes es)) ≤ cap = omega (arith, ap length closed, length-map (remove_entry (is_of bytes (bytes k)) es) (λ (e : K × V). bytes e.0), one_less, few) in
      ap (λ c. c ∷ codes (remove_entry (is_of bytes (bytes k)) es)) (key-lookup_entry (bytes k) es f h) ∙ ap (λ l. bytes k ∷ l) closed
      ∙ sym (take_all cap (to_front (bytes k) (codes es)) fits)

  -- the code comes to the front, and the last one goes where there are too many
  pub codes-put_entries : (c : LruCache K V) (k : K) (v : V) → 0 < c.cap → length c.entries ≤ c.cap → IsDistinct bytes_eq (codes c.entries)
      → codes (put_entries (λ x y. bytes_eq (bytes x) (bytes y)) c k v) ≡ take c.cap (to_front (bytes k) (codes c.entries))
  codes-put_entries c k v some few d = put_by c.entries c.cap k v (lookup_entry (is_of bytes (bytes k)) c.entries) some few d refl

-- ---- right modules

module _ {K : Type 0} (bytes : K → List ℕ) where
  abbrev Entries : Type 0
  Entries = List (K × Arc Module Global)

  -- what a look-up finds is the module of the code
  pub found_is_right : (code : List ℕ) (es : Entries) (m : Arc Module Global) → AreRight bytes es → lookup (is_of bytes code) es ≡ Some m → IsModuleOf code (arc_value m)
  found_is_right code es m right h =
      let at = Contains-lookup (is_of bytes code) es m h in
      subst (λ c. IsModuleOf c (arc_value m)) (sym (same_text code (bytes at.0) (sym at.2))) (right (at.0, m) at.1)

  pub promoted_are_right : (code : List ℕ) (es : Entries) → AreRight bytes es → AreRight bytes (promoted (is_of bytes code) es)
  promoted_are_right code es right e c = right e (Contains-promoted (is_of bytes code) es e c)

  put_is_right : (c : LruCache K (Arc Module Global)) (k : K) (m : Arc Module Global) (e : K × Arc Module Global) → IsModuleOf (bytes k) (arc_value m) → IsPut (λ x y. bytes_eq (bytes x) (bytes y)) c k m e → IsModuleOf (bytes e.0) (arc_value e.1)
  put_is_right c k m e is p =
      let value = subst (λ x. IsModuleOf (bytes k) (arc_value x)) (sym p.0) is in
      elim p.1 as (λ _. IsModuleOf (bytes e.0) (arc_value e.1)) [
        | inl same ↦ subst (λ x. IsModuleOf (bytes x) (arc_value e.1)) (sym same) value
        | inr other ↦ subst (λ x. IsModuleOf x (arc_value e.1)) (same_text (bytes k) (bytes e.0) (sym other.2)) value
      ]

  pub put_are_right : (c : LruCache K (Arc Module Global)) (k : K) (m : Arc Module Global) → AreRight bytes c.entries → IsModuleOf (bytes k) (arc_value m)
      → AreRight bytes (put_entries (λ x y. bytes_eq (bytes x) (bytes y)) c k m)
  put_are_right c k m right is e d =
      elim (Contains-put_entries (λ x y. bytes_eq (bytes x) (bytes y)) c k m e d) [
        | inl was ↦ right e was
        | inr p ↦ put_is_right c k m e is p
      ]
