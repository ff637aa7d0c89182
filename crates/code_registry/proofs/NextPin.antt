-- The first entry from a place on, before the keys of the next kind, is the first pin.
use Rattle.std.proofs.Common.{◌≡◌, ℕ, ◌<◌, ◌≤◌, ◌^◌, Bool, true, false, ◌&&◌, List, Option, Some, None, refl, sym, ap, ◌∙◌, subst, arith}
use Rattle.std.proofs.lemmas.Bool.Decides.{nat_tests}
use Rattle.std.proofs.lemmas.Map.Keys.{le_from_is_le}
use Rattle.std.specs.Option.{option_map}
use Rattle.std.specs.Ordering.{nat_cmp, is_le, is_lt, ordering_reverse}
use Rattle.std.specs.Cmp.{tied_itself}
use Rattle.std.specs.Cmp.Lexicographic.{slice_cmp, nat_list_cmp_total}
use Rattle.std.specs.FinMap.{get}
use Rattle.chain_records.specs.Keys.{PlainKey, key_bytes, IsKey, IsKeyOf}
use Rattle.chain_records.specs.Keys as keys
use Rattle.chain_records.specs.Order.{kind, OrdersNumbers, OrdersKinds}
use Rattle.chain_records.specs.Records.{mark, stored_bytes}
use Rattle.chain_records.specs.State.{Bytes, State, entry_of, Spells}
use Rattle.kv_layers.specs.declared.order.Order.TheVariants.{Ascending}
use Rattle.kv_layers.specs.Next.{IsNext, is_within}
use Rattle.code_registry.specs.Steps.{IsPlace, IsNextPin}

pin_entry : (s : State) (id : ℕ) → entry_of s (keys.pin id) ≡ option_map (λ pin. mark) (get s.pins id)
unfolding entry_of
pin_entry s id = refl

abbrev stored_pin : Option (Unit {0}) → Option (List ℕ)
stored_pin pin = option_map stored_bytes (option_map (λ p. mark) pin)

both : (a b : Bool) → a ≡ true → b ≡ true → (a && b) ≡ true
both a b p q = rw (p, q) refl

first_of : (a b : Bool) → (a && b) ≡ true → a ≡ true
first_of true b p = refl
first_of false b p = absurd cc

second_of : (a b : Bool) → (a && b) ≡ true → b ≡ true
second_of true b p = p
second_of false b p = absurd cc

false_true : (b : Bool) → b ≡ true → b ≡ false → ⊥
false_true b t f = let same = sym t ∙ f in absurd cc

module _ (numbers : OrdersNumbers keys.pin) (kinds : OrdersKinds) (map : Bytes) (s : State) (spelled : Spells map s) (lo hi : List ℕ) (from : ℕ) (place : IsPlace lo from) (is_hi : hi ≡ key_bytes keys.counters) where
  -- where the map has nothing under the key of an id from the first on, it isn't pinned
  absent : (id : ℕ) → (is_within (Some lo) (Some hi) (key_bytes (keys.pin id)) ≡ true → get map (key_bytes (keys.pin id)) ≡ None) → from ≤ id → get s.pins id ≡ None
  absent id none le = go (get s.pins id) refl
    where
      go : (o : Option (Unit {0})) → get s.pins id ≡ o → o ≡ None
      go None e = refl
      go (Some u) e =
          let entry : entry_of s (keys.pin id) ≡ Some mark = pin_entry s id ∙ ap (option_map (λ pin. mark)) e in
          let small : id < 2 ^ 64 = (spelled.well_formed (keys.pin id) mark entry).0 in
          let reached : is_le (nat_cmp from id) ≡ true = grind (arith, nat_tests) in
          let below : is_lt (slice_cmp nat_cmp (key_bytes (keys.pin id)) hi) ≡ true =
          ap (λ (h : List ℕ). is_lt (slice_cmp nat_cmp (key_bytes (keys.pin id)) h)) is_hi ∙ ap is_lt (kinds (keys.pin id) keys.counters (omega arith)) in
          let nothing = none (both _ _ (place.pins id small ∙ reached) below) in
          let something = spelled.same (keys.pin id) small ∙ ap (option_map stored_bytes) entry in
          let wrong = sym something ∙ nothing in
          absurd cc

  pub next_none : IsNext (get map) (Some lo) (Some hi) Ascending None → IsNextPin s from None
  next_none next id le = absent id (λ within. next (key_bytes (keys.pin id)) within) le

  module _ (key bytes : List ℕ) (next : IsNext (get map) (Some lo) (Some hi) Ascending (Some (key, bytes))) where
    is_from : is_le (slice_cmp nat_cmp lo key) ≡ true
    is_from = first_of _ _ next.0

    is_below : is_lt (slice_cmp nat_cmp key (key_bytes keys.counters)) ≡ true
    is_below = subst (λ (h : List ℕ). is_lt (slice_cmp nat_cmp key h) ≡ true) is_hi (second_of _ _ next.0)

    earlier : (k : PlainKey) → kind k < 6 → key_bytes k ≡ key → ⊥
    earlier k less same = false_true _ is_from (ap (λ (b : List ℕ). is_le (slice_cmp nat_cmp lo b)) (sym same) ∙ place.kinds k less)

    -- the key is that of a pin
    is_pin : (k : PlainKey) → IsKeyOf key k → (id : ℕ) × IsKeyOf key (keys.pin id)
    is_pin (keys.pin id) is = (id, is)
    is_pin keys.facts is = absurd (earlier keys.facts (omega arith) is.same)
    is_pin (keys.balance addr denom) is = absurd (earlier (keys.balance addr denom) (omega arith) is.same)
    is_pin (keys.code id) is = absurd (earlier (keys.code id) (omega arith) is.same)
    is_pin (keys.code_info id) is = absurd (earlier (keys.code_info id) (omega arith) is.same)
    is_pin (keys.contract addr) is = absurd (earlier (keys.contract addr) (omega arith) is.same)
    is_pin (keys.storage addr name) is = absurd (earlier (keys.storage addr name) (omega arith) is.same)
    is_pin keys.counters is =
        absurd (false_true _ is_below (ap (λ (b : List ℕ). is_lt (slice_cmp nat_cmp b (key_bytes keys.counters))) (sym is.same) ∙ ap is_lt (tied_itself nat_list_cmp_total (key_bytes keys.counters))))
    is_pin (keys.supply denom) is =
        absurd (false_true _ is_below (ap (λ (b : List ℕ). is_lt (slice_cmp nat_cmp b (key_bytes keys.counters))) (sym is.same)
        ∙ ap is_lt (nat_list_cmp_total.antisymm (key_bytes (keys.supply denom)) (key_bytes keys.counters) ∙ ap ordering_reverse (kinds keys.counters (keys.supply denom) (omega arith)))))

    pub found_pin : (id : ℕ) × IsKeyOf key (keys.pin id)
    found_pin = let only = spelled.only key bytes next.1 in is_pin only.0 only.1

    some_pin : (o : Option (Unit {0})) → Some bytes ≡ stored_pin o → o ≡ Some tt
    some_pin (Some u) e = refl
    some_pin None e = absurd cc

    pub next_some : (id : ℕ) → IsKeyOf key (keys.pin id) → IsNextPin s from (Some (key, id))
    next_some id is = (is, le_from_is_le from id reached, pinned, others)
      where
        reached : is_le (nat_cmp from id) ≡ true
        reached = sym (place.pins id is.is_key) ∙ ap (λ (b : List ℕ). is_le (slice_cmp nat_cmp lo b)) is.same ∙ is_from

        pinned : get s.pins id ≡ Some tt
        pinned = some_pin (get s.pins id) (sym next.1 ∙ ap (get map) (sym is.same) ∙ spelled.same (keys.pin id) is.is_key ∙ ap (option_map stored_bytes) (pin_entry s id))

        others : (other : ℕ) → from ≤ other → other < id → get s.pins other ≡ None
        others other le less =
            let is_id : id < 2 ^ 64 = is.is_key in
            let before : is_lt (nat_cmp other id) ≡ true = grind (arith, nat_tests) in
            absent other (λ within. next.2 (key_bytes (keys.pin other)) within
            (ap (λ (b : List ℕ). is_lt (slice_cmp nat_cmp (key_bytes (keys.pin other)) b)) (sym is.same) ∙ ap is_lt (numbers other id (omega (arith, is_id, less)) is_id) ∙ before)) le
