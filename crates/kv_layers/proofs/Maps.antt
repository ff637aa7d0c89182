-- A sorted map of vectors read by bytes, as it is and after a change at one key.
use Rattle.std.proofs.Common.{◌≡◌, ℕ, Bool, true, false, cond, List, [], ◌∷◌, map, Option, Some, None, refl, sym, ◌∙◌, ap, subst}
use denote.Ref.{Bor}
use Rattle.std.specs.Option.{option_map}
use Rattle.std.specs.Ordering.{is_eq, nat_cmp}
use Rattle.std.specs.Cmp.{eq_by_cmp_equiv}
use Rattle.std.specs.Cmp.Lexicographic.{slice_cmp, nat_list_cmp_total}
use Rattle.std.specs.Global.{Vec}
use Rattle.std.specs.FinMap.{get, insert, find, get-from_entries, get-insert, same_map, slice_cmp-IsAntisymmetric, nat_cmp-IsAntisymmetric}
use Rattle.std.specs.BTreeMap.{BTreeMap, UpdatesBy}
use Rattle.std.specs.Map.{lookup, IsKeyTest, AreApart, KeepsOthers}
use Rattle.kv_layers.specs.Bytes.{Bytes, bytes_cmp}
use Rattle.kv_layers.specs.Next.{is_within, IsNext}
use Rattle.kv_layers.specs.declared.order.Order.{Order}
use Rattle.kv_layers.specs.Plain.{bytes_view, entry_view}
use Rattle.kv_layers.specs.PlainMap.{map_of}
use Rattle.kv_layers.specs.Sorted.{value_at, shown_entry, AreInside}
use Rattle.kv_layers.proofs.Keys.{same_of}
use Rattle.kv_layers.proofs.Ranges.{vec_cmp, equal_of}

-- two maps that answer alike are the same
pub same_bytes : (m n : Bytes) → ((q : List ℕ) → get m q ≡ get n q) → m ≡ n
same_bytes m n h = same_map nat_list_cmp_total (slice_cmp-IsAntisymmetric nat_cmp-IsAntisymmetric) m n h

find-views : (q : List ℕ) (es : List (Vec ℕ × Vec ℕ)) → find (slice_cmp nat_cmp) q (map entry_view es) ≡ option_map bytes_view (lookup (λ k. is_eq (slice_cmp nat_cmp q k.items)) es)
find-views q [] = refl
find-views q (e ∷ es) =
    elim (is_eq (slice_cmp nat_cmp q e.0.items)) as (λ b. cond b (Some e.1.items) (find (slice_cmp nat_cmp) q (map entry_view es)) ≡ option_map bytes_view (cond b (Some e.1) (lookup (λ k. is_eq (slice_cmp nat_cmp q k.items)) es))) [
      | true ↦ refl
      | false ↦ find-views q es
    ]

pub get-map_of : (m : BTreeMap (Vec ℕ) (Vec ℕ)) (q : List ℕ) → get (map_of m) q ≡ option_map bytes_view (value_at m q)
get-map_of m q = get-from_entries nat_list_cmp_total (map entry_view m.entries) q ∙ find-views q m.entries

apart : (key q : List ℕ) → is_eq (bytes_cmp q key) ≡ false → (k : Vec ℕ) → is_eq (slice_cmp nat_cmp key k.items) ≡ true → is_eq (slice_cmp nat_cmp q k.items) ≡ false
apart key q differs k same = subst (λ b. is_eq (bytes_cmp q b) ≡ false) (same_of key k.items (equal_of _ same)) differs

module _ {X : Type 0} where
  others_stay : (eq : Vec ℕ → Vec ℕ → Bool) (test : Vec ℕ → Bool) (old new : List (Vec ℕ × X)) → KeepsOthers eq test old new → (other : Vec ℕ → Bool) → IsKeyTest eq other → AreApart test other → lookup other new ≡ lookup other old
  unfolding KeepsOthers
  others_stay eq test old new h = h

  -- after a change at one key the others have what they had
  pub value_at-changed : (m n : BTreeMap (Vec ℕ) X) (key : List ℕ) (w : Option X) → UpdatesBy vec_cmp (λ k. slice_cmp nat_cmp key k.items) m n w → (q : List ℕ) → value_at n q ≡ cond (is_eq (bytes_cmp q key)) w (value_at m q)
  value_at-changed m n key w h q =
      elim (is_eq (bytes_cmp q key)) as (λ b. is_eq (bytes_cmp q key) ≡ b → value_at n q ≡ cond b w (value_at m q)) [
        | true ↦ λ e. ap (value_at n) (same_of q key (equal_of _ e)) ∙ h.1
        | false ↦ λ e. others_stay _ _ _ _ h.3 _ (λ x y. (eq_by_cmp_equiv nat_list_cmp_total).congr q x.items y.items) (apart key q e)
      ] refl

picked : (b : Bool) (v : Vec ℕ) (o : Option (Vec ℕ)) → option_map bytes_view (cond b (Some v) o) ≡ cond b (Some v.items) (option_map bytes_view o)
picked true v o = refl
picked false v o = refl

pub map_of-insert : (m n : BTreeMap (Vec ℕ) (Vec ℕ)) (key value : Vec ℕ) → UpdatesBy vec_cmp (vec_cmp key) m n (Some value) → map_of n ≡ insert (map_of m) key.items value.items
map_of-insert m n key value h = same_bytes _ _ (λ q.
    get-map_of n q ∙ ap (option_map bytes_view) (value_at-changed m n key.items (Some value) h q) ∙ picked (is_eq (bytes_cmp q key.items)) value (value_at m q)
    ∙ ap (cond (is_eq (bytes_cmp q key.items)) (Some value.items)) (sym (get-map_of m q)) ∙ sym (get-insert nat_list_cmp_total (map_of m) key.items value.items q))

-- the next entry of what is seen by a view
pub IsNext-view : {X Y : Type 0} (view : X → Y) (f : List ℕ → Option X) (g : List ℕ → Option Y) → ((q : List ℕ) → g q ≡ option_map view (f q)) → (lo hi : Option (List ℕ)) (order : Order) (r : Option (List ℕ × X)) → IsNext f lo hi order r → IsNext g lo hi order (option_map (λ e. (e.0, view e.1)) r)
IsNext-view view f g same lo hi order None h = λ q w. same q ∙ ap (option_map view) (h q w)
IsNext-view view f g same lo hi order (Some e) h = (h.0, same e.0 ∙ ap (option_map view) h.1, λ q w before. same q ∙ ap (option_map view) (h.2 q w before))

pub shown-views : (r : Option (Bor (Vec ℕ) × Bor (Vec ℕ))) → option_map {U = List ℕ × List ℕ} (λ (e : List ℕ × Vec ℕ). (e.0, bytes_view e.1)) (option_map shown_entry r) ≡ option_map {U = List ℕ × List ℕ} (λ (e : Bor (Vec ℕ) × Bor (Vec ℕ)). (e.0.now.items, e.1.now.items)) r
shown-views None = refl
shown-views (Some e) = refl

-- where there is no entry, there is none within bounds inside
pub IsNext-inside_none : {X : Type 0} (f : List ℕ → Option X) (low high lo hi : Option (List ℕ)) (order : Order) → AreInside low high lo hi → IsNext f lo hi order None → IsNext f low high order None
IsNext-inside_none f low high lo hi order inside h = λ q w. h q (inside q w)

-- the first entry is the first one within bounds inside, if it lies there
pub IsNext-inside : {X : Type 0} (f : List ℕ → Option X) (low high lo hi : Option (List ℕ)) (order : Order) (e : List ℕ × X) → AreInside low high lo hi → is_within low high e.0 ≡ true → IsNext f lo hi order (Some e) → IsNext f low high order (Some e)
IsNext-inside f low high lo hi order e inside within h = (within, h.1, λ q w before. h.2 q (inside q w) before)
