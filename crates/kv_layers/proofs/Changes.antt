-- What a change at one key does to a layer and to the maps that it leads between.
use Rattle.std.proofs.Common.{◌≡◌, ℕ, Bool, true, false, cond, List, [], ◌∷◌, length, reverse, Option, Some, None, Result, Ok, Err, OnErr, refl, sym, ◌∙◌, ap, subst, arith}
use Rattle.std.specs.Option.{option_map}
use Rattle.std.specs.Ordering.{is_eq, nat_cmp}
use Rattle.std.specs.Cmp.Lexicographic.{slice_cmp, nat_list_cmp_total}
use Rattle.std.specs.Global.{Vec}
use Rattle.std.specs.FinMap.{get, get-insert, get-remove}
use Rattle.std.specs.BTreeMap.{UpdatesBy}
use Rattle.std.specs.Map.{lookup}
use Rattle.kv_layers.specs.Bytes.{Bytes, bytes_cmp}
use Rattle.kv_layers.specs.Changes.{Layer, change_at, after_change, with_change, LeadsTo, IsLeast}
use Rattle.kv_layers.specs.Layers.{Piles, Turns}
use Rattle.kv_layers.specs.declared.layers.Layers.{Layers}
use Rattle.kv_layers.specs.Plain.{value_view}
use Rattle.kv_layers.specs.Sorted.{value_at}
use Rattle.kv_layers.proofs.Keys.{same_of}
use Rattle.kv_layers.proofs.Maps.{value_at-changed}
use Rattle.kv_layers.proofs.Ranges.{vec_cmp, equal_of}

pub get-with_change : (map : Bytes) (key : List ℕ) (value : Option (List ℕ)) (q : List ℕ) → get (with_change map key value) q ≡ cond (is_eq (bytes_cmp q key)) value (get map q)
get-with_change map key None q = get-remove nat_list_cmp_total map key q
get-with_change map key (Some value) q = get-insert nat_list_cmp_total map key value q

-- a layer after a change at one key
abbrev pub Updated : Layer → Layer → List ℕ → Option (Option (Vec ℕ)) → Type 0
Updated old new key change = UpdatesBy vec_cmp (λ k. slice_cmp nat_cmp key k.items) old new change

viewed : (b : Bool) (w o : Option (Option (Vec ℕ))) → option_map value_view (cond b w o) ≡ cond b (option_map value_view w) (option_map value_view o)
viewed true w o = refl
viewed false w o = refl

pub change_at-changed : (old new : Layer) (key : List ℕ) (change : Option (Option (Vec ℕ))) → Updated old new key change → (q : List ℕ) → change_at new q ≡ cond (is_eq (bytes_cmp q key)) (option_map value_view change) (change_at old q)
change_at-changed old new key change h q = ap (option_map value_view) (value_at-changed old new key change h q) ∙ viewed (is_eq (bytes_cmp q key)) change (value_at old q)

pub turn : (b : Bool) (w : Option (List ℕ)) (c : Option (Option (List ℕ))) (v : Option (List ℕ)) → cond b w (after_change c v) ≡ after_change (cond b (Some w) c) v
turn true w c v = refl
turn false w c v = refl

leads-set : (map current : Bytes) (old new : Layer) (key : List ℕ) (change : Option (Vec ℕ)) → Updated old new key (Some change) → LeadsTo map (change_at old) current → LeadsTo map (change_at new) (with_change current key (value_view change))
leads-set map current old new key change h leads q =
    get-with_change current key (value_view change) q ∙ ap (cond (is_eq (bytes_cmp q key)) (value_view change)) (leads q)
    ∙ turn (is_eq (bytes_cmp q key)) (value_view change) (change_at old q) (get map q)
    ∙ ap (λ c. after_change c (get map q)) (sym (change_at-changed old new key (Some change) h q))

leads-unset : (map current : Bytes) (old new : Layer) (key : List ℕ) (value : Option (List ℕ)) → Updated old new key None → get map key ≡ value → LeadsTo map (change_at old) current → LeadsTo map (change_at new) (with_change current key value)
leads-unset map current old new key value h had leads q =
    get-with_change current key value q
    ∙ elim (is_eq (bytes_cmp q key)) as (λ b. is_eq (bytes_cmp q key) ≡ b → cond b value (get current q) ≡ after_change (cond b None (change_at old q)) (get map q)) [
      | true ↦ λ e. sym had ∙ ap (get map) (sym (same_of q key (equal_of _ e)))
      | false ↦ λ _. leads q
    ] refl
    ∙ ap (λ c. after_change c (get map q)) (sym (change_at-changed old new key None h q))

least-set : (map : Bytes) (old new : Layer) (key : List ℕ) (change : Option (Vec ℕ)) → Updated old new key (Some change) → (get map key ≡ value_view change → ⊥) → IsLeast map (change_at old) → IsLeast map (change_at new)
least-set map old new key change h differs least q value is =
    elim (is_eq (bytes_cmp q key)) as (λ b. is_eq (bytes_cmp q key) ≡ b → cond b (Some (value_view change)) (change_at old q) ≡ Some value → get map q ≡ value → ⊥) [
      | true ↦ λ e s had. differs (ap (get map) (sym (same_of q key (equal_of _ e))) ∙ had ∙ sym cc)
      | false ↦ λ _ s. least q value s
    ] refl (sym (change_at-changed old new key (Some change) h q) ∙ is)

least-unset : (map : Bytes) (old new : Layer) (key : List ℕ) → Updated old new key None → IsLeast map (change_at old) → IsLeast map (change_at new)
least-unset map old new key h least q value is =
    elim (is_eq (bytes_cmp q key)) as (λ b. cond b None (change_at old q) ≡ Some value → get map q ≡ value → ⊥) [
      | true ↦ λ s. cc
      | false ↦ λ s. least q value s
    ] (sym (change_at-changed old new key None h q) ∙ is)

pub Piles-upper : (base : Bytes) (old new : Layer) (layers : List Layer) (current : Bytes) (saved : List Bytes) (key : List ℕ) (change : Option (Vec ℕ)) → (length layers ≡ 0 → ⊥) → Updated old new key (Some change) → Piles base old layers current saved → Piles base new layers (with_change current key (value_view change)) saved
Piles-upper base old new [] current saved key change some h piles = absurd (some refl)
Piles-upper base old new (next ∷ layers) current [] key change some h piles = piles
Piles-upper base old new (next ∷ layers) current (map ∷ saved) key change some h piles = (leads-set map current old new key change h piles.0, piles.1)

pub Piles-lowest : (base : Bytes) (old new : Layer) (layers : List Layer) (current : Bytes) (saved : List Bytes) (key : List ℕ) (change : Option (Vec ℕ)) → length layers ≡ 0 → Updated old new key (Some change) → (get base key ≡ value_view change → ⊥) → Piles base old layers current saved → Piles base new layers (with_change current key (value_view change)) saved
Piles-lowest base old new [] current [] key change none h differs piles = (leads-set base current old new key change h piles.0, least-set base old new key change h differs piles.1)
Piles-lowest base old new [] current (map ∷ saved) key change none h differs piles = piles
Piles-lowest base old new (next ∷ layers) current saved key change none h differs piles = absurd (omega arith)

pub Piles-same : (base : Bytes) (old new : Layer) (layers : List Layer) (current : Bytes) (saved : List Bytes) (key : List ℕ) (value : Option (List ℕ)) → length layers ≡ 0 → Updated old new key None → get base key ≡ value → Piles base old layers current saved → Piles base new layers (with_change current key value) saved
Piles-same base old new [] current [] key value none h had piles = (leads-unset base current old new key value h had piles.0, least-unset base old new key h piles.1)
Piles-same base old new [] current (map ∷ saved) key value none h had piles = piles
Piles-same base old new (next ∷ layers) current saved key value none h had piles = absurd (omega arith)

change_at-same : (old new : Layer) → new.entries ≡ old.entries → (q : List ℕ) → change_at new q ≡ change_at old q
change_at-same old new e q = ap (λ es. option_map value_view (lookup (λ k. is_eq (slice_cmp nat_cmp q k.items)) es)) e

leads-same : (map current : Bytes) (old new : Layer) → new.entries ≡ old.entries → LeadsTo map (change_at old) current → LeadsTo map (change_at new) current
leads-same map current old new e leads q = leads q ∙ ap (λ c. after_change c (get map q)) (sym (change_at-same old new e q))

pub Piles-unchanged : (base : Bytes) (old new : Layer) (layers : List Layer) (current : Bytes) (saved : List Bytes) → new.entries ≡ old.entries → Piles base old layers current saved → Piles base new layers current saved
Piles-unchanged base old new [] current [] e piles = (leads-same base current old new e piles.0, λ q value is. piles.1 q value (sym (change_at-same old new e q) ∙ is))
Piles-unchanged base old new [] current (map ∷ saved) e piles = piles
Piles-unchanged base old new (next ∷ layers) current [] e piles = piles
Piles-unchanged base old new (next ∷ layers) current (map ∷ saved) e piles = (leads-same map current old new e piles.0, piles.1)

pub on_err : {T E P : Type 0} (r : Result T E) → P → OnErr r P
on_err (Ok x) p = tt
on_err (Err e) p = p

-- a `Turns` that returns the same maps, where what the relation reads is the same
pub Turns-unchanged : {B : Type 0} (S : B → Bytes → Type 0) (old new : Layers B) → new.base ≡ old.base → new.below.items ≡ old.below.items → new.newest.entries ≡ old.newest.entries → Turns S old new (λ maps. maps)
Turns-unchanged S old new base below newest maps s = record {
  of_base = subst (λ b. S b maps.base) (sym base) s.of_base;
  piled = subst (λ ls. Piles maps.base new.newest (reverse ls) maps.current maps.saved) (sym below) (Piles-unchanged maps.base old.newest new.newest (reverse old.below.items) maps.current maps.saved newest s.piled);
}
