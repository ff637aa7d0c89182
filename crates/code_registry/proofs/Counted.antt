-- A set of ids has those of a map of pins.
use Rattle.std.proofs.Common.{◌≡◌, ℕ, Bool, true, false, cond, List, [], ◌∷◌, map, Option, Some, None, refl, sym, ap, ◌∙◌, length}
use Rattle.std.proofs.lemmas.List.{nil_from_length, length-map}
use Rattle.std.specs.Option.{is_some}
use Rattle.std.specs.List.{list_any}
use Rattle.std.specs.declared.cmp.Ordering.TheVariants.{Less, Equal, Greater}
use Rattle.std.specs.Ordering.{nat_cmp, eq_by_cmp, match_ordering}
use Rattle.std.specs.Cmp.{nat_cmp_total}
use Rattle.std.specs.BTreeSet.{insert_key}
use Rattle.std.specs.FinMap.{get, insert, empty, entries, keys, put, same_map, nat_cmp-IsAntisymmetric, get-empty, entries-insert, len-empty, len-entries, contains_key-keys}
use Rattle.std.specs.FinMap.Entries.{by_order}
use Rattle.code_registry.specs.Codes.{Pins, pins_with}
use Rattle.code_registry.proofs.PinnedIds.{get_with}

abbrev Entry : Type 0
Entry = ℕ × Unit {0}

keys_put : (id : ℕ) (es : List Entry) → map (λ e. e.0) (put nat_cmp id tt es) ≡ insert_key nat_cmp (map (λ e. e.0) es) id
keys_put id [] = refl
keys_put id (e ∷ es) =
    elim (nat_cmp id e.0) as (λ r. map (λ (x : Entry). x.0) (by_order r ((id, tt) ∷ e ∷ es) ((e.0, tt) ∷ es) (e ∷ put nat_cmp id tt es))
    ≡ match_ordering r (id ∷ e.0 ∷ map (λ (x : Entry). x.0) es) (e.0 ∷ map (λ (x : Entry). x.0) es) (e.0 ∷ insert_key nat_cmp (map (λ (x : Entry). x.0) es) id)) [
      | Less ↦ refl
      | Equal ↦ refl
      | Greater ↦ ap (λ (ids : List ℕ). e.0 ∷ ids) (keys_put id es)
    ]

pub keys_inserted : (pins : Pins) (id : ℕ) → keys (insert pins id tt) ≡ insert_key nat_cmp (keys pins) id
keys_inserted pins id = ap (map (λ (e : Entry). e.0)) (entries-insert nat_cmp_total pins id tt) ∙ keys_put id (entries pins)

abbrev pub no_pins : Pins
no_pins = empty

pub no_keys : keys no_pins ≡ []
no_keys = nil_from_length _ (length-map (entries no_pins) (λ e. e.0) ∙ sym (len-entries no_pins) ∙ len-empty nat_cmp (Unit {0}))

marked : (o : Option (Unit {0})) → cond (is_some o) (Some tt) None ≡ o
marked (Some u) = refl
marked None = refl

-- the pins of all keys are the pins
pub of_keys : (pins : Pins) → pins_with no_pins (keys pins) ≡ pins
of_keys pins = same_map nat_cmp_total nat_cmp-IsAntisymmetric (pins_with no_pins (keys pins)) pins (λ q.
    get_with no_pins (keys pins) q
    ∙ ap (cond (list_any (eq_by_cmp nat_cmp q) (keys pins)) (Some tt)) (get-empty nat_cmp q)
    ∙ ap (λ b. cond b (Some tt) None) (sym (contains_key-keys pins q))
    ∙ marked (get pins q))
