-- Ids that are pinned besides others, and ids that aren't any more.
use Rattle.std.proofs.Common.{◌≡◌, ℕ, ◌-◌, ◌≤◌, Bool, true, false, cond, ◌||◌, List, [], ◌∷◌, ◌++◌, length, Option, Some, None, refl, sym, ap, ◌∙◌, subst, arith}
use Rattle.std.proofs.lemmas.Bool.Decides.{nat_tests}
use Rattle.std.proofs.lemmas.List.{length-map}
use Rattle.std.specs.Option.{is_some, option_map}
use Rattle.std.specs.List.{list_any}
use Rattle.std.specs.Ordering.{nat_cmp, eq_by_cmp}
use Rattle.std.specs.Cmp.{nat_cmp_total}
use Rattle.std.specs.FinMap.{get, insert, remove, entries, keys, len, contains_key, get-insert, get-remove, len-entries, len-remove}
use Rattle.chain_records.specs.State.{Code, State}
use Rattle.code_registry.specs.Codes.{Pins, pins_with, pins_without, pinned, unpinned, first_unknown, unpin_refusal, pin_refusal}
use Rattle.code_registry.specs.Lawful.{IsCodeId, HasLawfulCodes}
use Rattle.code_registry.specs.Effects.{IsPinned, IsUnpinned}
use Rattle.code_registry.proofs.Refusing.{known, none_unknown, both_none}

-- ---- one id more

pub with_more : (pins : Pins) (ids : List ℕ) (id : ℕ) → pins_with pins (ids ++ id ∷ []) ≡ insert (pins_with pins ids) id tt
with_more pins [] id = refl
with_more pins (x ∷ ids) id = with_more (insert pins x tt) ids id

pub without_more : (pins : Pins) (ids : List ℕ) (id : ℕ) → pins_without pins (ids ++ id ∷ []) ≡ remove (pins_without pins ids) id
without_more pins [] id = refl
without_more pins (x ∷ ids) id = without_more (remove pins x) ids id

-- ---- which are pinned then

either : (a b : Bool) (o : Option (Unit {0})) → cond a (Some tt) (cond b (Some tt) o) ≡ cond (b || a) (Some tt) o
either true true o = refl
either true false o = refl
either false true o = refl
either false false o = refl

pub get_with : (pins : Pins) (ids : List ℕ) (q : ℕ) → get (pins_with pins ids) q ≡ cond (list_any (eq_by_cmp nat_cmp q) ids) (Some tt) (get pins q)
get_with pins [] q = refl
get_with pins (id ∷ ids) q =
    get_with (insert pins id tt) ids q
    ∙ ap (cond (list_any (eq_by_cmp nat_cmp q) ids) (Some tt)) (get-insert nat_cmp_total pins id tt q)
    ∙ either (list_any (eq_by_cmp nat_cmp q) ids) (eq_by_cmp nat_cmp q id) (get pins q)

still : (b : Bool) (o : Option (Unit {0})) → cond b None o ≡ Some tt → o ≡ Some tt
still true o e = absurd cc
still false o e = e

was_pinned : (pins : Pins) (ids : List ℕ) (q : ℕ) → get (pins_without pins ids) q ≡ Some tt → get pins q ≡ Some tt
was_pinned pins [] q found = found
was_pinned pins (id ∷ ids) q found = still (eq_by_cmp nat_cmp q id) (get pins q) (sym (get-remove nat_cmp_total pins id q) ∙ was_pinned (remove pins id) ids q found)

one_fewer : (b : Bool) (n : ℕ) → cond b (n - 1) n ≤ n
one_fewer true n = omega arith
one_fewer false n = omega arith

fewer : (pins : Pins) (ids : List ℕ) → len (pins_without pins ids) ≤ len pins
fewer pins [] = omega arith
fewer pins (id ∷ ids) =
    let rest = fewer (remove pins id) ids in
    let removed = len-remove nat_cmp_total pins id in
    let one = one_fewer (contains_key pins id) (len pins) in
    omega (arith, rest, removed, one)

count : (pins : Pins) → length (keys pins) ≡ len pins
count pins = length-map (entries pins) (λ e. e.0) ∙ sym (len-entries pins)

-- ---- the state is lawful again

is_code : (s : State) (ids : List ℕ) → HasLawfulCodes s → first_unknown s ids ≡ None → (q : ℕ) → get (pins_with s.pins ids) q ≡ Some tt → IsCodeId s q
is_code s ids lawful none q found = go (list_any (eq_by_cmp nat_cmp q) ids) refl (sym (get_with s.pins ids q) ∙ found)
  where
    go : (b : Bool) → list_any (eq_by_cmp nat_cmp q) ids ≡ b → cond b (Some tt) (get s.pins q) ≡ Some tt → IsCodeId s q
    go true any f = (lawful.numbered q).0 (known s ids none q any)
    go false any f = lawful.pinned q f

pub all_pinned : (s : State) (sender ids : List ℕ) → HasLawfulCodes s → pin_refusal s sender ids ≡ None → IsPinned s sender ids (pinned s ids)
all_pinned s sender ids lawful may =
    let parts = both_none (unpin_refusal s sender ids) (length (keys (pins_with s.pins ids))) may in
    record {
      taken = may;
      state = refl;
      lawful = record {
        first = lawful.first;
        few = lawful.few;
        numbered = lawful.numbered;
        codes = lawful.codes;
        pinned = is_code s ids lawful (none_unknown _ _ parts.0);
        few_pinned = parts.1;
      };
    }

pub all_unpinned : (s : State) (sender ids : List ℕ) → HasLawfulCodes s → unpin_refusal s sender ids ≡ None → IsUnpinned s sender ids (unpinned s ids)
all_unpinned s sender ids lawful may = record {
  taken = may;
  state = refl;
  lawful = record {
    first = lawful.first;
    few = lawful.few;
    numbered = lawful.numbered;
    codes = lawful.codes;
    pinned = λ id found. lawful.pinned id (was_pinned s.pins ids id found);
    few_pinned = omega (arith, count (pins_without s.pins ids), fewer s.pins ids, count s.pins, lawful.few_pinned);
  };
}
