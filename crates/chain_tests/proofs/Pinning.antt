-- A state in which one more code is pinned.
use Rattle.std.proofs.Common.{◌≡◌, ◌≢◌, ℕ, Bool, true, false, cond, List, Some, refl, sym, ap, ◌∙◌, subst, arith}
use Rattle.std.proofs.lemmas.Bool.Decides.{nat_tests}
use Rattle.std.specs.Option.{option_map}
use Rattle.std.specs.Ordering.{nat_cmp, eq_by_cmp}
use Rattle.std.specs.Cmp.{nat_cmp_total}
use Rattle.std.specs.FinMap.{get, insert, get-insert}
use Rattle.chain_records.specs.Keys.{PlainKey, key_bytes, IsKey, IsKeyOf}
use Rattle.chain_records.specs.Keys as keys
use Rattle.chain_records.specs.Records.{mark, stored_bytes, IsRecordOf}
use Rattle.chain_records.specs.State.{Bytes, State, entry_of, Spells, ChangesOnly}
use Rattle.chain_records.specs.Laws.{SpellsWritten}
use Rattle.chain_records.specs.Spelled.{HasTyped}

with_pin : State → ℕ → State
with_pin s id = record s { pins = insert s.pins id tt }

pinned_there : (s : State) (id : ℕ) → entry_of (with_pin s id) (keys.pin id) ≡ Some mark
unfolding entry_of with_pin
pinned_there s id =
    let same : eq_by_cmp nat_cmp id id ≡ true = grind (arith, nat_tests) in
    ap (option_map (λ pin. mark)) (get-insert nat_cmp_total s.pins id tt id ∙ ap (λ b. cond b (Some tt) (get s.pins id)) same)

others_stay : (s : State) (id : ℕ) (other : PlainKey) → other ≢ keys.pin id → entry_of (with_pin s id) other ≡ entry_of s other
unfolding entry_of with_pin
others_stay s id keys.facts apart = refl
others_stay s id keys.counters apart = refl
others_stay s id (keys.balance addr denom) apart = refl
others_stay s id (keys.supply denom) apart = refl
others_stay s id (keys.code k) apart = refl
others_stay s id (keys.code_info k) apart = refl
others_stay s id (keys.contract addr) apart = refl
others_stay s id (keys.storage addr key) apart = refl
others_stay s id (keys.pin k) apart = ap (option_map (λ pin. mark)) (get-insert nat_cmp_total s.pins id tt k ∙ go (eq_by_cmp nat_cmp k id) refl)
  where
    go : (b : Bool) → eq_by_cmp nat_cmp k id ≡ b → cond b (Some tt) (get s.pins k) ≡ get s.pins k
    go true is = let same : k ≡ id = grind (arith, nat_tests) in absurd (apart (ap keys.pin same))
    go false is = refl

-- with the record of a pin a map spells the state in which the code is pinned
pub pinned_map : SpellsWritten → (id : ℕ) (key bytes : List ℕ) (map new : Bytes) → IsKeyOf key (keys.pin id) → IsRecordOf bytes mark → new ≡ insert map key bytes → HasTyped (λ m. map ≡ m) → HasTyped (λ m. new ≡ m)
pinned_map law id key bytes map new is_key is_record is typed =
    let s = typed.state in
    let before : Spells map s = subst (λ (m : Bytes). Spells m s) (sym typed.stands) typed.spelled in
    let change : ChangesOnly s (with_pin s id) (keys.pin id) (Some mark) = record { changed = pinned_there s id; others = others_stay s id } in
    let after = law map s (with_pin s id) (keys.pin id) mark before is_key.is_key is_record.is_record change in
    let same : new ≡ insert map (key_bytes (keys.pin id)) (stored_bytes mark) = is ∙ (λ i. insert map (sym is_key.same i) (sym is_record.same i)) in
    record { map = new; state = with_pin s id; stands = refl; spelled = subst (λ (m : Bytes). Spells m (with_pin s id)) (sym same) after; holds = tt }
