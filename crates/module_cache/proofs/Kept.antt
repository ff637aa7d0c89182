-- What looks and stows make of the cache, where the recent modules are kept by `lru`.
use Rattle.std.proofs.Common.{◌≡◌, ℕ, ◌<◌, ◌≤◌, Bool, true, false, cond, List, length, take, Option, Some, None, Result, Ok, Err, OnOk, OnErr, refl, sym, ap, subst, ◌∙◌, arith}
use Rattle.std.proofs.lemmas.List.{length-map}
use Rattle.std.specs.List.{IsDistinct}
use Rattle.std.specs.Str.{bytes_eq}
use Rattle.std.specs.Global.{Global, Vec}
use Rattle.std.specs.declared.sync.Arc.{Arc}
use Rattle.std.specs.Arc.{arc_value}
use Rattle.lru.specs.LruCache.{LruCache, lru_cache, promoted, put_entries}
use Rattle.wasm_types.specs.declared.module.Module.{Module}
use Rattle.gatekeeper.specs.declared.served.Served.TheVariants.{Pinned, Recent}
use Rattle.gatekeeper.specs.Cache.{Cache, Look, is_among, to_front, looked, stowed}
use Rattle.module_cache.specs.declared.state.CacheState.{CacheState}
use Rattle.module_cache.specs.Right.{IsModuleOf, AreRight, AreRight-prop, codes_of, vec_bytes}
use Rattle.module_cache.proofs.Lists.{is_of, codes-promoted, codes-put_entries, promoted_are_right, put_are_right}

abbrev pub Recents : Type 0
Recents = LruCache (Vec ℕ) (Arc Module Global)

abbrev same_key : Vec ℕ → Vec ℕ → Bool
same_key x y = bytes_eq (vec_bytes x) (vec_bytes y)

abbrev pub cache_of : List (List ℕ) → Recents → Cache
cache_of pinned r = record { pinned = pinned; recent = codes_of vec_bytes r.entries; size = r.cap }

on_err : {T E : Type 0} {P : Type 0} (r : Result T E) → P → OnErr r P
on_err (Ok x) p = tt
on_err (Err e) p = p

-- ---- looks

abbrev look_by : Cache → List ℕ → Bool → Bool → Look
look_by c code p r =
    cond p (record { held = Some Pinned; cache = c })
    (cond r (record { held = Some Recent; cache = record c { recent = to_front code c.recent } })
    (record { held = None; cache = c }))

look_is : (c : Cache) (code : List ℕ) (p r : Bool) → is_among code c.pinned ≡ p → is_among code c.recent ≡ r → looked c code ≡ look_by c code p r
look_is c code p r ps rs =
    ap (λ (x : Bool). look_by c code x (is_among code c.recent)) ps ∙ ap (λ (x : Bool). look_by c code p x) rs

pub pinned_held : (c : Cache) (code : List ℕ) → is_among code c.pinned ≡ true → Some Pinned ≡ (looked c code).held
pinned_held c code ps = sym (ap (λ (l : Look). l.held) (look_is c code true (is_among code c.recent) ps refl))

pub pinned_stays : (c : Cache) (code : List ℕ) → is_among code c.pinned ≡ true → c ≡ (looked c code).cache
pinned_stays c code ps = sym (ap (λ (l : Look). l.cache) (look_is c code true (is_among code c.recent) ps refl))

pub recent_held : (c : Cache) (code : List ℕ) → is_among code c.pinned ≡ false → is_among code c.recent ≡ true → Some Recent ≡ (looked c code).held
recent_held c code ps rs = sym (ap (λ (l : Look). l.held) (look_is c code false true ps rs))

pub none_held : (c : Cache) (code : List ℕ) → is_among code c.pinned ≡ false → is_among code c.recent ≡ false → None ≡ (looked c code).held
none_held c code ps rs = sym (ap (λ (l : Look). l.held) (look_is c code false false ps rs))

front_by : (c : Cache) (code : List ℕ) (r : Bool) → record c { recent = cond r (to_front code c.recent) c.recent } ≡ (look_by c code false r).cache
front_by c code true = refl
front_by c code false = refl

-- a code that is recent comes to the front
pub promoted_look : (pinned : List (List ℕ)) (old new : Recents) (code : List ℕ) → is_among code pinned ≡ false → IsDistinct bytes_eq (codes_of vec_bytes old.entries)
    → new ≡ lru_cache (promoted (is_of vec_bytes code) old.entries) old.cap → cache_of pinned new ≡ (looked (cache_of pinned old) code).cache
promoted_look pinned old new code ps differ is =
    let c : Cache = cache_of pinned old in
    ap (cache_of pinned) is
    ∙ ap (λ (cs : List (List ℕ)). record c { recent = cs }) (codes-promoted vec_bytes code old.entries differ)
    ∙ front_by c code (is_among code c.recent)
    ∙ ap (λ (l : Look). l.cache) (sym (look_is c code false (is_among code c.recent) ps refl))

pub promoted_right : (old new : Recents) (code : List ℕ) → new ≡ lru_cache (promoted (is_of vec_bytes code) old.entries) old.cap → AreRight vec_bytes old.entries → AreRight vec_bytes new.entries
promoted_right old new code is right = subst (λ (c : Recents). AreRight vec_bytes c.entries) (sym is) (promoted_are_right vec_bytes code old.entries right)

-- ---- stows

pub put_stows : (pinned : List (List ℕ)) (old new : Recents) (k : Vec ℕ) (m : Arc Module Global) (code : List ℕ) → new ≡ lru_cache (put_entries same_key old k m) old.cap → vec_bytes k ≡ code
    → 1 ≤ old.cap → length (codes_of vec_bytes old.entries) ≤ old.cap → IsDistinct bytes_eq (codes_of vec_bytes old.entries) → cache_of pinned new ≡ stowed (cache_of pinned old) code
put_stows pinned old new k m code is key some few differ =
    let c : Cache = cache_of pinned old in
    let positive : 0 < old.cap = omega arith in
    let short : length old.entries ≤ old.cap = omega (arith, length-map old.entries (λ (e : Vec ℕ × Arc Module Global). vec_bytes e.0)) in
    ap (cache_of pinned) is
    ∙ ap (λ (cs : List (List ℕ)). record c { recent = cs }) (codes-put_entries vec_bytes old k m positive short differ)
    ∙ ap (λ (x : List ℕ). record c { recent = take old.cap (to_front x c.recent) }) key

pub put_leaves_right : {E : Type 0} (old new : Recents) (k : Vec ℕ) (m : Arc Module Global) (r : Result (Option (Arc Module Global)) E)
    → OnOk r (new ≡ lru_cache (put_entries same_key old k m) old.cap) → OnErr r (new ≡ old) → AreRight vec_bytes old.entries → IsModuleOf (vec_bytes k) (arc_value m) → AreRight vec_bytes new.entries
put_leaves_right old new k m (Ok x) is same right module_is =
    subst (λ (c : Recents). AreRight vec_bytes c.entries) (sym is) (put_are_right vec_bytes old k m right module_is)
put_leaves_right old new k m (Err e) is same right module_is = subst (λ (c : Recents). AreRight vec_bytes c.entries) (sym same) right

-- the facts of a struct are equal where its fields are
pub state_is_same : {T E : Type 0} (s : CacheState) (r : Recents) (right : AreRight vec_bytes r.entries) (result : Result T E) → r ≡ s.recent
    → OnErr result (record { pinned = s.pinned; recent = r; recent_right = right } ≡ s)
state_is_same s r right result is =
    let same : (x : Recents) → s.recent ≡ x → (p : AreRight vec_bytes x.entries) → record { pinned = s.pinned; recent = x; recent_right = p } ≡ s = λ x e.
    subst (λ (y : Recents). (p : AreRight vec_bytes y.entries) → record { pinned = s.pinned; recent = y; recent_right = p } ≡ s) e
    (λ p. ap (λ (q : AreRight vec_bytes s.recent.entries). record { pinned = s.pinned; recent = s.recent; recent_right = q }) (AreRight-prop vec_bytes s.recent.entries p s.recent_right)) in
    on_err result (same r (sym is) right)
