-- What finding a module, and pinning one more code, make of the tally.
use Rattle.std.proofs.Common.{◌≡◌, ℕ, ◌+◌, ◌<◌, Bool, true, false, cond, List, [], ◌∷◌, ◌++◌, map, length, take, get_or, Some, None, Result, Ok, Err, IfOk, OnOk, sym, ap, ◌∙◌, inl, inr}
use Rattle.std.proofs.lemmas.List.{take_more, map-append}
use Rattle.std.specs.Bool.{OnTrue}
use Rattle.gatekeeper.specs.declared.served.Served.{Served}
use Rattle.gatekeeper.specs.Cache.{Cache, Tally, is_among, looked, stowed, tallied}
use Rattle.gatekeeper.specs.Fetches.{Tallies, found_in_cache}
use Rattle.module_cache.specs.Found.{Finds}
use Rattle.module_cache.specs.Pinning.{with_one_more, fetched_to_pin, tally_with_one_more}

pub on_true : {P Q : Type 0} (b : Bool) → (P → Q) → OnTrue b P → OnTrue b Q
on_true true f p = f p
on_true false f p = p

-- ---- finding

pub hit_finds : (old new : Cache) (code : List ℕ) (s : Served) → Some s ≡ (looked old code).held → new ≡ (looked old code).cache → Finds old code s new
hit_finds old new code s held is = inl (sym held, is)

pub miss_finds : {A E : Type 0} (old mid new : Cache) (code : List ℕ) (r : Result (A × Served) E) → None ≡ (looked old code).held → mid ≡ (looked old code).cache
    → IfOk r (λ f. found_in_cache f.1 ≡ None) → OnOk r (new ≡ stowed mid code) → IfOk r (λ f. Finds old code f.1 new)
miss_finds old mid new code (Ok f) held is missed stow = inr (sym held, missed, stow ∙ ap (λ (c : Cache). stowed c code) is)
miss_finds old mid new code (Err e) held is missed stow = tt

-- ---- a code that is to be pinned

pub pinned_is_told : (t : Tally) (code : List ℕ) → is_among code t.cache.pinned ≡ true → t ≡ fetched_to_pin t code
pinned_is_told t code there = sym (ap (λ (b : Bool). cond b t (tallied t code)) there)

pub fetched_is_told : (t new : Tally) (code : List ℕ) → is_among code t.cache.pinned ≡ false → Tallies (Some t) (code ∷ []) (Some new) → new ≡ fetched_to_pin t code
fetched_is_told t new code other told = let e : new ≡ tallied t code = cc in e ∙ sym (ap (λ (b : Bool). cond b t (tallied t code)) other)

pub known_is_listed : (codes : List (List ℕ)) (code : List ℕ) → is_among code codes ≡ true → codes ≡ with_one_more codes code
known_is_listed codes code there = sym (ap (λ (b : Bool). cond b codes (codes ++ code ∷ [])) there)

pub known_is_told : (codes : List (List ℕ)) (t : Tally) (code : List ℕ) → is_among code codes ≡ true → t ≡ tally_with_one_more codes t code
known_is_told codes t code there = sym (ap (λ (b : Bool). cond b t (fetched_to_pin t code)) there)

pub new_is_listed : (codes new : List (List ℕ)) (code : List ℕ) → is_among code codes ≡ false → new ≡ codes ++ code ∷ [] → new ≡ with_one_more codes code
new_is_listed codes new code other is = is ∙ sym (ap (λ (b : Bool). cond b codes (codes ++ code ∷ [])) other)

pub new_is_told : (codes : List (List ℕ)) (t new : Tally) (code : List ℕ) → is_among code codes ≡ false → new ≡ fetched_to_pin t code → new ≡ tally_with_one_more codes t code
new_is_told codes t new code other is = is ∙ sym (ap (λ (b : Bool). cond b t (fetched_to_pin t code)) other)

pub on_ok : {A E P Q : Type 0} (r : Result A E) → (P → Q) → OnOk r P → OnOk r Q
on_ok (Ok x) f p = f p
on_ok (Err e) f p = p

pub always_ok : {A E P : Type 0} (r : Result A E) → P → OnOk r P
always_ok (Ok x) p = p
always_ok (Err e) p = tt

-- ---- a loop over codes

pub seen_more : {X : Type 0} (f : X → List ℕ) (xs : List X) (i : ℕ) (x : X) → i < length xs → x ≡ get_or xs i x → map f (take (i + 1) xs) ≡ map f (take i xs) ++ f x ∷ []
seen_more {X} f xs i x lt is =
    ap (map f) (take_more xs i x lt ∙ ap (λ (y : X). take i xs ++ y ∷ []) (sym is)) ∙ map-append f (take i xs) (x ∷ [])
