-- Why pins are refused where there is one code, and what pinning an id twice makes.
use Rattle.std.specs.Prelude.{◌≡◌, ℕ, List, [], ◌∷◌, codes, Some, None, refl}
use Rattle.std.specs.Ordering.{nat_cmp}
use Rattle.std.specs.Cmp.{nat_cmp_total}
use Rattle.std.specs.FinMap.{empty, get, len, get-insert, get-empty, len-insert, len-empty}
use Rattle.chain_records.specs.Records.{PlainFacts}
use Rattle.chain_records.specs.State.{Code, State}
use Rattle.chain_records.specs.Changes.{with_code, bare}
use Rattle.code_registry.specs.Codes.{Pins, pins_with, unpin_refusal, pin_refusal, not_authority, no_such_code}

abbrev someone : List ℕ
someone = 0xAA ∷ []

abbrev facts : PlainFacts
facts = record { chain_id = codes "test"; prefix = codes "wasm"; authority = Some someone; caps = []; query_gas = 0; height = 0; time = 0 }

-- there is a code with the id 1, and these ids are pinned
abbrev with_pins : Pins → State
with_pins pins = record (with_code (bare facts (record { next_code = 1; next_instance = 1 })) (record { bytes = []; info = record { creator = someone; checksum = []; allow = None } })) { pins = pins }

by_another : (pins : Pins) → unpin_refusal (with_pins pins) (0xBB ∷ []) (2 ∷ []) ≡ Some not_authority
by_another pins = refl

-- the first id that no code has counts, however many are pinned
unknown : (pins : Pins) → pin_refusal (with_pins pins) someone (1 ∷ 2 ∷ 3 ∷ []) ≡ Some (no_such_code 2)
unknown pins = simp (get-insert {X = Code} nat_cmp_total, get-empty {X = Code} nat_cmp)

-- an id that is pinned twice is one pin
twice : len (pins_with empty (7 ∷ 7 ∷ [])) ≡ 1
twice = simp (len-insert {X = Unit {0}} nat_cmp_total, get-insert {X = Unit {0}} nat_cmp_total, get-empty {X = Unit {0}} nat_cmp, len-empty nat_cmp (Unit {0}))
