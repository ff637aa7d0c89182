-- The entries of a plain map as the changes that lead to it from the empty one.
use Rattle.std.proofs.Common.{◌≡◌, ℕ, true, false, cond, List, [], ◌∷◌, map, Option, Some, None, refl, sym, ◌∙◌, ap}
use Rattle.std.specs.declared.cmp.Ordering.TheVariants.{Less}
use Rattle.std.specs.Option.{option_map}
use Rattle.std.specs.Ordering.{is_eq, nat_cmp}
use Rattle.std.specs.Cmp.Lexicographic.{slice_cmp, nat_list_cmp_total}
use Rattle.std.specs.Global.{Vec}
use Rattle.std.specs.FinMap.{get, find, empty, from_entries, get-from_entries, get-empty}
use Rattle.std.specs.List.{AllByRecursion}
use Rattle.std.specs.List.Sorted.{IsStrictlySortedBy}
use Rattle.std.specs.Map.{keys_of}
use Rattle.kv_layers.specs.Bytes.{Bytes, bytes_cmp}
use Rattle.kv_layers.specs.Changes.{after_change}
use Rattle.kv_layers.specs.Delta.{IsDelta, change_view, KeysRise}
use Rattle.kv_layers.specs.Plain.{entry_view}
use Rattle.kv_layers.proofs.Ranges.{vec_cmp}

abbrev pub as_changes : List (Vec ℕ × Vec ℕ) → List (Vec ℕ × Option (Vec ℕ))
as_changes entries = map (λ e. (e.0, Some e.1)) entries

pub KeysRise-plain : (entries : List (Vec ℕ × Vec ℕ)) → IsStrictlySortedBy vec_cmp (keys_of entries) → KeysRise (map change_view (as_changes entries))
unfolding IsStrictlySortedBy
KeysRise-plain [] h = tt
KeysRise-plain (e ∷ entries) h = (below e.0 entries h.0, KeysRise-plain entries h.1)
  where
    below : (key : Vec ℕ) (entries : List (Vec ℕ × Vec ℕ)) → AllByRecursion (λ y. vec_cmp key y ≡ Less) (keys_of entries) → AllByRecursion (λ y. bytes_cmp key.items y ≡ Less) (map (λ e. e.0) (map change_view (as_changes entries)))
    below key [] h = tt
    below key (e ∷ entries) h = (h.0, below key entries h.1)

find-plain : (q : List ℕ) (entries : List (Vec ℕ × Vec ℕ)) → find (slice_cmp nat_cmp) q (map change_view (as_changes entries)) ≡ option_map Some (find (slice_cmp nat_cmp) q (map entry_view entries))
find-plain q [] = refl
find-plain q (e ∷ entries) =
    elim (is_eq (slice_cmp nat_cmp q e.0.items)) as (λ b. cond b (Some (Some e.1.items)) (find (slice_cmp nat_cmp) q (map change_view (as_changes entries))) ≡ option_map Some (cond b (Some e.1.items) (find (slice_cmp nat_cmp) q (map entry_view entries)))) [
      | true ↦ refl
      | false ↦ find-plain q entries
    ]

leads_from_none : (o : Option (List ℕ)) (n : Option (List ℕ)) → n ≡ None → o ≡ after_change (option_map Some o) n
leads_from_none None n e = sym e
leads_from_none (Some v) n e = refl

differs_from_none : (o : Option (List ℕ)) (n value : Option (List ℕ)) → n ≡ None → option_map Some o ≡ Some value → n ≡ value → ⊥
differs_from_none None n value e is same = cc
differs_from_none (Some v) n value e is same = cc

pub IsDelta-plain : (entries : List (Vec ℕ × Vec ℕ)) (map_of : Bytes) → IsStrictlySortedBy vec_cmp (keys_of entries) → from_entries (map entry_view entries) ≡ map_of → IsDelta empty (map change_view (as_changes entries)) map_of
IsDelta-plain entries whole rising is =
    let got : (q : List ℕ) → get whole q ≡ find (slice_cmp nat_cmp) q (map entry_view entries) = (λ q. ap (λ m. get m q) (sym is) ∙ get-from_entries nat_list_cmp_total (map entry_view entries) q) in
    record {
      rising = KeysRise-plain entries rising;
      leads = λ q. got q ∙ leads_from_none (find (slice_cmp nat_cmp) q (map entry_view entries)) _ (get-empty (slice_cmp nat_cmp) q) ∙ ap (λ c. after_change c (get (empty {R = slice_cmp nat_cmp}) q)) (sym (find-plain q entries));
      least = λ q value found. differs_from_none (find (slice_cmp nat_cmp) q (map entry_view entries)) _ value (get-empty (slice_cmp nat_cmp) q) (sym (find-plain q entries) ∙ found);
    }
