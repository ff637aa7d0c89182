-- The map of runs: what it has at a key, with one more run, and in one run.
use Rattle.std.proofs.Common.{◌≡◌, ℕ, cond, List, [], ◌∷◌, Option, Some, None, refl, sym, ◌∙◌, ap}
use Rattle.std.specs.Ordering.{is_eq, nat_cmp}
use Rattle.std.specs.Cmp.Lexicographic.{slice_cmp}
use Rattle.std.specs.FinMap.{get, empty, get-empty}
use Rattle.kv_layers.specs.Bytes.{Bytes, bytes_cmp}
use Rattle.kv_layers.specs.Changes.{after_change, LeadsTo}
use Rattle.kv_layers.specs.Delta.{IsDelta}
use Rattle.kv_layers.specs.Rising.{KeysRise}
use Rattle.kv_layers.proofs.Changes.{get-with_change, turn}
use Rattle.kv_layers.proofs.Maps.{same_bytes}
use Rattle.kv_layers.proofs.Merging.{after-after}
use Rattle.state_runs.specs.Runs.{Run, entry_in, value_in, IsMapOf, with_changes, map_of, with_run, IsWhole}
use Rattle.state_runs.proofs.Lists.{found, kept, values_of, rising-values, found-values}

get-with_changes : (map : Bytes) (changes : Run) (q : List ℕ) → get (with_changes map changes) q ≡ after_change (found q changes) (get map q)
get-with_changes map [] q = refl
get-with_changes map (c ∷ changes) q =
    get-with_change (with_changes map changes) c.0 c.1 q
    ∙ ap (cond (is_eq (bytes_cmp q c.0)) c.1) (get-with_changes map changes q)
    ∙ turn (is_eq (bytes_cmp q c.0)) c.1 (found q changes) (get map q)

pub get-map_of : (runs : List Run) (q : List ℕ) → get (map_of runs) q ≡ value_in runs q
get-map_of [] q = get-empty (slice_cmp nat_cmp) q
get-map_of (run ∷ older) q =
    get-with_changes (map_of older) run q ∙ ap (after_change (found q run)) (get-map_of older q) ∙ after-after (found q run) (entry_in older q) None

pub one_map : (runs : List Run) (map other : Bytes) → IsMapOf runs map → IsMapOf runs other → map ≡ other
one_map runs map other h g = same_bytes map other (λ q. h q ∙ sym (g q))

-- one more run leads where its changes lead
LeadsTo-with_run : (changes : Run) (runs : List Run) → LeadsTo (map_of runs) (λ key. found key changes) (map_of (with_run changes runs))
LeadsTo-with_run [] runs q = refl
LeadsTo-with_run (c ∷ changes) runs q = get-with_changes (map_of runs) (c ∷ changes) q

map_of-with_run : (changes : Run) (runs : List Run) (map : Bytes) → IsDelta (map_of runs) changes map → map_of (with_run changes runs) ≡ map
map_of-with_run changes runs map delta = same_bytes _ map (λ q. LeadsTo-with_run changes runs q ∙ sym (delta.leads q))

-- the map of one run that is whole
pub map_of-whole : (runs : List Run) (map : Bytes) → IsWhole runs map → map_of runs ≡ map
map_of-whole runs map whole =
    ap map_of whole.1 ∙ same_bytes _ map (λ q. get-with_changes empty whole.0 q ∙ sym (whole.2.leads q))

after-kept : (c : Option (Option (List ℕ))) (v : Option (List ℕ)) → v ≡ None → after_change c None ≡ after_change (kept c) v
after-kept None v e = sym e
after-kept (Some None) v e = sym e
after-kept (Some (Some w)) v e = refl

kept-differs : (c : Option (Option (List ℕ))) (v value : Option (List ℕ)) → v ≡ None → kept c ≡ Some value → v ≡ value → ⊥
kept-differs None v value e is same = cc
kept-differs (Some None) v value e is same = cc
kept-differs (Some (Some w)) v value e is same = cc

-- a run with all changes, without its removals, is the whole map
pub IsDelta-values : (runs : List Run) (run : Run) → KeysRise run → ((q : List ℕ) → found q run ≡ entry_in runs q) → IsDelta empty (values_of run) (map_of runs)
IsDelta-values runs run rising same = record {
  rising = rising-values run rising;
  leads = λ q.
      get-map_of runs q ∙ ap (λ c. after_change c None) (sym (same q))
      ∙ after-kept (found q run) (get (empty {R = slice_cmp nat_cmp}) q) (get-empty (slice_cmp nat_cmp) q)
      ∙ ap (λ c. after_change c (get (empty {R = slice_cmp nat_cmp}) q)) (sym (found-values q run rising));
  least = λ q value is. kept-differs (found q run) (get (empty {R = slice_cmp nat_cmp}) q) value (get-empty (slice_cmp nat_cmp) q) (sym (found-values q run rising) ∙ is);
}

pub with_run-none : (changes : Run) (runs : List Run) → changes ≡ [] → with_run changes runs ≡ runs
with_run-none [] runs e = refl
with_run-none (c ∷ changes) runs e = cc

pub with_run-some : (changes : Run) (runs : List Run) → (changes ≡ [] → ⊥) → changes ∷ runs ≡ with_run changes runs
with_run-some [] runs some = absurd (some refl)
with_run-some (c ∷ changes) runs some = refl

-- what follows for runs that are those with one more
pub LeadsTo-runs : (changes : Run) (runs more : List Run) → more ≡ with_run changes runs → LeadsTo (map_of runs) (λ key. found key changes) (map_of more)
LeadsTo-runs changes runs more is q = ap (λ rs. get (map_of rs) q) is ∙ LeadsTo-with_run changes runs q

pub map_of-runs : (changes : Run) (runs more : List Run) → more ≡ with_run changes runs → (map : Bytes) → IsDelta (map_of runs) changes map → map_of more ≡ map
map_of-runs changes runs more is map delta = ap map_of is ∙ map_of-with_run changes runs map delta
