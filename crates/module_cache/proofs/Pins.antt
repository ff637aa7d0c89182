-- Lists of pinned modules: one more at the end, look-ups, and the codes at the first places.
use Rattle.std.proofs.Common.{◌≡◌, ℕ, suc, ◌+◌, ◌<◌, ◌≤◌, Bool, true, false, ◌||◌, cond, List, [], ◌∷◌, ◌++◌, map, length, take, drop, get_or, drop-cons, Contains, Option, Some, None, IfSome, is_some, option_copied, Bor, refl, sym, ap, subst, ◌∙◌, inl, inr, arith}
use Rattle.std.proofs.lemmas.List.{take-map, take_more, take_all, map-append}
use Rattle.std.proofs.lemmas.List.Elements.{Contains-push_cases}
use Rattle.std.proofs.lemmas.Map.Keys.{IsDistinct-push}
use Rattle.lru.proofs.Splits.{Contains-nil}
use Rattle.std.specs.Cmp.Lexicographic.{nat_list_eq_equiv}
use Rattle.std.specs.List.{list_any, IsDistinct}
use Rattle.std.specs.Map.{lookup}
use Rattle.std.specs.Str.{bytes_eq}
use Rattle.std.specs.Global.{Global}
use Rattle.std.specs.declared.sync.Arc.{Arc}
use Rattle.std.specs.Arc.{arc_value}
use Rattle.wasm_types.specs.declared.module.Module.{Module}
use Rattle.gatekeeper.specs.Cache.{is_among}
use Rattle.module_cache.specs.Right.{IsModuleOf, AreRight, codes_of}
use Rattle.module_cache.proofs.Lists.{flip, is_of, found_is_right, is_some-lookup}

asked_first : (code : List ℕ) (cs : List (List ℕ)) → list_any (bytes_eq code) cs ≡ is_among code cs
asked_first code [] = refl
asked_first code (c ∷ cs) = ap (λ b. b || list_any (bytes_eq code) cs) (flip code c) ∙ ap (λ b. bytes_eq c code || b) (asked_first code cs)

module _ {K : Type 0} (bytes : K → List ℕ) where
  abbrev Pair : Type 0
  Pair = K × Arc Module Global

  -- ---- no module

  pub none_are_right : (es : List Pair) → es ≡ [] → AreRight bytes es
  none_are_right es none e at = absurd (Contains-nil e (subst (λ (l : List Pair). Contains l e) none at))

  pub none_differ : (es : List Pair) → es ≡ [] → IsDistinct bytes_eq (codes_of bytes es)
  unfolding IsDistinct
  none_differ es none = subst (λ (l : List Pair). IsDistinct bytes_eq (codes_of bytes l)) (sym none) tt

  -- ---- one more

  right_more : (es : List Pair) (e : Pair) → AreRight bytes es → IsModuleOf (bytes e.0) (arc_value e.1) → AreRight bytes (es ++ e ∷ [])
  right_more es e right is f at =
      elim (Contains-push_cases es e f at) [
        | inl was ↦ right f was
        | inr same ↦ subst (λ (x : Pair). IsModuleOf (bytes x.0) (arc_value x.1)) same is
      ]

  pub added_are_right : (es new : List Pair) (e : Pair) (ok : Bool) → new ≡ cond ok (es ++ e ∷ []) es → AreRight bytes es → IsModuleOf (bytes e.0) (arc_value e.1) → AreRight bytes new
  added_are_right es new e true is right module_is = subst (λ (l : List Pair). AreRight bytes l) (sym is) (right_more es e right module_is)
  added_are_right es new e false is right module_is = subst (λ (l : List Pair). AreRight bytes l) (sym is) right

  codes_more : (es : List Pair) (e : Pair) → codes_of bytes (es ++ e ∷ []) ≡ codes_of bytes es ++ bytes e.0 ∷ []
  codes_more es e = map-append (λ (x : Pair). bytes x.0) es (e ∷ [])

  pub added_differ : (es new : List Pair) (e : Pair) (ok : Bool) → new ≡ cond ok (es ++ e ∷ []) es → IsDistinct bytes_eq (codes_of bytes es) → is_among (bytes e.0) (codes_of bytes es) ≡ false → IsDistinct bytes_eq (codes_of bytes new)
  added_differ es new e true is differ other =
      subst (λ (l : List Pair). IsDistinct bytes_eq (codes_of bytes l)) (sym is)
      (subst (λ (cs : List (List ℕ)). IsDistinct bytes_eq cs) (sym (codes_more es e))
      (IsDistinct-push nat_list_eq_equiv (codes_of bytes es) (bytes e.0) differ (asked_first (bytes e.0) (codes_of bytes es) ∙ other)))
  added_differ es new e false is differ other = subst (λ (l : List Pair). IsDistinct bytes_eq (codes_of bytes l)) (sym is) differ

  pub added_codes : (es new : List Pair) (e : Pair) → new ≡ es ++ e ∷ [] → codes_of bytes new ≡ codes_of bytes es ++ bytes e.0 ∷ []
  added_codes es new e is = ap (codes_of bytes) is ∙ codes_more es e

  -- ---- look-ups

  pub got_found : (code : List ℕ) (es : List Pair) (o : Option (Bor (Arc Module Global))) → option_copied o ≡ lookup (is_of bytes code) es → is_some o ≡ is_among code (codes_of bytes es)
  got_found code es None h = ap is_some h ∙ is_some-lookup bytes code es
  got_found code es (Some m) h = ap is_some h ∙ is_some-lookup bytes code es

  pub got_right : (code : List ℕ) (es : List Pair) (o : Option (Bor (Arc Module Global))) → option_copied o ≡ lookup (is_of bytes code) es → AreRight bytes es → IfSome o (λ m. IsModuleOf code (arc_value m.now))
  got_right code es None h right = tt
  got_right code es (Some m) h right = found_is_right bytes code es m.now right (sym h)

-- the look-up goes on behind an entry of another key
pub lookup_left : {K V : Type 0} (test : K → Bool) (es : List (K × V)) (i : ℕ) (e : K × V) → i < length es → e ≡ get_or es i e → lookup test (drop i es) ≡ cond (test e.0) (Some e.1) (lookup test (drop (i + 1) es))
lookup_left {K} {V} test es i e lt is =
    let next : suc i ≡ i + 1 = omega arith in
    ap (lookup test) (drop-cons es i e lt ∙ ap (λ (x : K × V). x ∷ drop (suc i) es) (sym is) ∙ ap (λ (n : ℕ). e ∷ drop n es) next)

-- ---- the codes at the first places

entry_more : {X : Type 0} (f : X → List ℕ) (xs : List X) (i : ℕ) (x : X) → i < length xs → x ≡ get_or xs i x → take (i + 1) (map f xs) ≡ take i (map f xs) ++ f x ∷ []
entry_more {X} f xs i x lt is =
    take-map f (i + 1) xs
    ∙ ap (map f) (take_more xs i x lt ∙ ap (λ (y : X). take i xs ++ y ∷ []) (sym is))
    ∙ map-append f (take i xs) (x ∷ [])
    ∙ ap (λ (l : List (List ℕ)). l ++ f x ∷ []) (sym (take-map f i xs))

pub begun_more : {X Y : Type 0} (f : X → List ℕ) (g : Y → List ℕ) (xs : List X) (ys : List Y) (i : ℕ) (x : X) (y : Y)
    → i < length xs → x ≡ get_or xs i x → i < length ys → y ≡ get_or ys i y → f x ≡ g y
    → take i (map f xs) ≡ take i (map g ys) → take (i + 1) (map f xs) ≡ take (i + 1) (map g ys)
begun_more f g xs ys i x y lt is lt' is' same begun =
    entry_more f xs i x lt is
    ∙ ap (λ (l : List (List ℕ)). l ++ f x ∷ []) begun
    ∙ ap (λ (c : List ℕ). take i (map g ys) ++ c ∷ []) same
    ∙ sym (entry_more g ys i y lt' is')

pub begun_is_whole : (cs ds : List (List ℕ)) (n : ℕ) → length cs ≤ n → take n cs ≡ ds → cs ≡ ds
begun_is_whole cs ds n few begun = sym (take_all n cs few) ∙ begun
