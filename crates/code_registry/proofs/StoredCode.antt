-- A code that is stored: the map of bytes, and the state, which is lawful again.
use Rattle.std.proofs.Common.{◌≡◌, ℕ, ◌+◌, ◌<◌, ◌≤◌, ◌^◌, Bool, true, false, cond, List, Option, Some, None, refl, sym, ap, ◌∙◌, subst, arith, nat_le}
use Rattle.std.proofs.lemmas.Bool.Decides.{nat_tests}
use Rattle.std.specs.Option.{option_map, IfSome}
use Rattle.std.specs.List.{All}
use Rattle.std.specs.Ordering.{nat_cmp, eq_by_cmp}
use Rattle.std.specs.Cmp.{nat_cmp_total}
use Rattle.std.specs.FinMap.{get, insert, get-insert}
use Rattle.sha2.specs.Sha256.{sha256}
use Rattle.wasm_types.specs.Plain.{PlainRefusal}
use Rattle.wasm_types.specs.Typing.{or_else}
use Rattle.wasm_types.specs.Gate.{gate}
use Rattle.chain_records.specs.declared.record.Counters.{Counters}
use Rattle.chain_records.specs.Keys.{IsAddress, IsKeyOf}
use Rattle.chain_records.specs.Keys as keys
use Rattle.chain_records.specs.Records.{code_info, counters, stored_bytes, IsRecordOf}
use Rattle.chain_records.specs.State.{Bytes, Code, State, Spells}
use Rattle.chain_records.specs.Changes.{with_code, with_next_code}
use Rattle.chain_records.specs.Laws.{SpellsCode}
use Rattle.code_registry.specs.Codes.{Refusal, refused, too_many_codes, code_of, stored, store_refusal}
use Rattle.code_registry.specs.Lawful.{IsCodeId, IsLawfulCode, HasLawfulCodes}
use Rattle.code_registry.specs.Effects.{IsStored}

-- the bytes of a code, of its info and of the next counters, written under those of their keys
spelled_with : SpellsCode → (map : Bytes) (s : State) (code : Code) (kb ki vi kc vc : List ℕ) → IsKeyOf kb (keys.code s.counters.next_code) → IsKeyOf ki (keys.code_info s.counters.next_code) → IsRecordOf vi (code_info code.info)
    → IsKeyOf kc keys.counters → IsRecordOf vc (counters (with_next_code s.counters)) → s.counters.next_code + 1 < 2 ^ 64 → Spells map s → Spells (insert (insert (insert map kb code.bytes) ki vi) kc vc) (with_code s code)
unfolding stored_bytes
spelled_with law map s code kb ki vi kc vc is_kb is_ki is_vi is_kc is_vc small spelled =
    subst (λ (m : Bytes). Spells m (with_code s code)) (λ i. insert (insert (insert map (is_kb.same i) code.bytes) (is_ki.same i) (is_vi.same i)) (is_kc.same i) (is_vc.same i)) (law map s code spelled is_vi.is_record small)

pub spelled_code : SpellsCode → (map : Bytes) (s : State) (given : Counters) (code : Code) (kb ki vi kc vc : List ℕ) → IsKeyOf kb (keys.code given.next_code) → IsKeyOf ki (keys.code_info given.next_code) → IsRecordOf vi (code_info code.info)
    → IsKeyOf kc keys.counters → IsRecordOf vc (counters (with_next_code given)) → given.next_code + 1 < 2 ^ 64 → given ≡ s.counters → Spells map s → Spells (insert (insert (insert map kb code.bytes) ki vi) kc vc) (with_code s code)
spelled_code law map s given code kb ki vi kc vc is_kb is_ki is_vi is_kc is_vc small same spelled =
    spelled_with law map s code kb ki vi kc vc
    (subst (λ (c : Counters). IsKeyOf kb (keys.code c.next_code)) same is_kb) (subst (λ (c : Counters). IsKeyOf ki (keys.code_info c.next_code)) same is_ki) is_vi is_kc
    (subst (λ (c : Counters). IsRecordOf vc (counters (with_next_code c))) same is_vc) (subst (λ (c : Counters). c.next_code + 1 < 2 ^ 64) same small) spelled

-- ---- the state with a code more

module _ (s : State) (code : Code) (lawful : HasLawfulCodes s) where
  numbered_next : (id : ℕ) → (c : Code) × (get (insert s.codes s.counters.next_code code) id ≡ Some c) → IsCodeId (with_code s code) id
  numbered_next id found = go (eq_by_cmp nat_cmp id s.counters.next_code) refl (sym (get-insert nat_cmp_total s.codes s.counters.next_code code id) ∙ found.1)
    where
      go : (b : Bool) → eq_by_cmp nat_cmp id s.counters.next_code ≡ b → cond b (Some code) (get s.codes id) ≡ Some found.0 → IsCodeId (with_code s code) id
      go true tied e = let same : id ≡ s.counters.next_code = grind (arith, nat_tests) in let first = lawful.first in (omega arith, omega arith)
      go false tied e = let is = (lawful.numbered id).0 (found.0, e) in (is.0, omega (arith, is.1))

  next_numbered : (id : ℕ) → IsCodeId (with_code s code) id → (c : Code) × (get (insert s.codes s.counters.next_code code) id ≡ Some c)
  next_numbered id is = go (eq_by_cmp nat_cmp id s.counters.next_code) refl
    where
      go : (b : Bool) → eq_by_cmp nat_cmp id s.counters.next_code ≡ b → (c : Code) × (get (insert s.codes s.counters.next_code code) id ≡ Some c)
      go true tied = (code, get-insert nat_cmp_total s.codes s.counters.next_code code id ∙ ap (λ b. cond b (Some code) (get s.codes id)) tied)
      go false tied =
          let other : id ≡ s.counters.next_code → ⊥ = λ same. grind (arith, nat_tests) in
          let earlier = (lawful.numbered id).1 (is.0, omega (arith, is.1, other)) in
          (earlier.0, get-insert nat_cmp_total s.codes s.counters.next_code code id ∙ ap (λ b. cond b (Some code) (get s.codes id)) tied ∙ earlier.1)

  lawful_next : IsLawfulCode s.facts.caps code → (id : ℕ) (c : Code) → get (insert s.codes s.counters.next_code code) id ≡ Some c → IsLawfulCode s.facts.caps c
  lawful_next good id c found = go (eq_by_cmp nat_cmp id s.counters.next_code) (sym (get-insert nat_cmp_total s.codes s.counters.next_code code id) ∙ found)
    where
      the_same : Some code ≡ Some c → code ≡ c
      the_same e = cc

      go : (b : Bool) → cond b (Some code) (get s.codes id) ≡ Some c → IsLawfulCode s.facts.caps c
      go true e = subst (IsLawfulCode s.facts.caps) (the_same e) good
      go false e = lawful.codes id c e

  pub stored_lawful : s.counters.next_code < 2 ^ 32 → IsLawfulCode s.facts.caps code → HasLawfulCodes (with_code s code)
  stored_lawful room good = record {
    first = omega (arith, lawful.first);
    few = omega (arith, room);
    numbered = λ id. (numbered_next id, next_numbered id);
    codes = lawful_next good;
    pinned = λ id found. let is = lawful.pinned id found in (is.0, omega (arith, is.1));
    few_pinned = lawful.few_pinned;
  }

-- ---- what storing answers

no_refusal : (refusal : Option PlainRefusal) (next : ℕ) → refusal ≡ None → next < 2 ^ 32 → or_else (option_map refused refusal) (cond (nat_le (2 ^ 32) next) (Some too_many_codes) None) ≡ None
no_refusal refusal next none room =
    ap (λ (r : Option PlainRefusal). or_else (option_map refused r) (cond (nat_le (2 ^ 32) next) (Some too_many_codes) None)) none ∙ below (nat_le (2 ^ 32) next) (grind (arith, nat_tests))
  where
    below : (b : Bool) → b ≡ false → cond b (Some too_many_codes) None ≡ None
    below b e = ap (λ t. cond t (Some too_many_codes) None) e

pub no_id_left : (refusal : Option PlainRefusal) (next : ℕ) → refusal ≡ None → 2 ^ 32 ≤ next → or_else (option_map refused refusal) (cond (nat_le (2 ^ 32) next) (Some too_many_codes) None) ≡ Some too_many_codes
no_id_left refusal next none over =
    ap (λ (r : Option PlainRefusal). or_else (option_map refused r) (cond (nat_le (2 ^ 32) next) (Some too_many_codes) None)) none ∙ above (nat_le (2 ^ 32) next) (grind (arith, nat_tests))
  where
    above : (b : Bool) → b ≡ true → cond b (Some too_many_codes) None ≡ Some too_many_codes
    above b e = ap (λ t. cond t (Some too_many_codes) None) e

pub is_stored : (s : State) (creator bytes : List ℕ) (allow : Option (List (List ℕ))) (given : Counters) → HasLawfulCodes s → gate bytes s.facts.caps ≡ None → given ≡ s.counters → given.next_code < 2 ^ 32 → IsAddress creator → IfSome allow (All IsAddress)
    → IsStored s creator bytes allow given.next_code (stored s creator bytes allow)
is_stored s creator bytes allow given lawful taken same room is_creator is_allow =
    let next : given.next_code ≡ s.counters.next_code = ap (λ (c : Counters). c.next_code) same in
    let below : s.counters.next_code < 2 ^ 32 = omega (arith, next, room) in
    record {
      taken = no_refusal (gate bytes s.facts.caps) s.counters.next_code taken below;
      next = next;
      state = refl;
      lawful = stored_lawful s (code_of creator bytes allow) lawful below (record { taken = taken; checksum = refl; creator = is_creator; allowed = is_allow });
    }

-- the parts of a code, where each is the one that it is to be
pub same_code : (map : Bytes) (s : State) (creator bytes : List ℕ) (allow : Option (List (List ℕ))) (c b sum : List ℕ) → c ≡ creator → b ≡ bytes → sum ≡ sha256 bytes
    → Spells map (with_code s (record { bytes = b; info = record { creator = c; checksum = sum; allow = allow } })) → Spells map (stored s creator bytes allow)
same_code map s creator bytes allow c b sum is_creator is_bytes is_sum =
    subst (λ (code : Code). Spells map (with_code s code)) (λ i. record { bytes = is_bytes i; info = record { creator = is_creator i; checksum = is_sum i; allow = allow } })
