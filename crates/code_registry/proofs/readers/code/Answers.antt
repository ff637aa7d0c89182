use Rattle.std.proofs.Common.{Some, None, List, ℕ, sym, ap, ◌∙◌, subst}
use Rattle.std.specs.Option.{option_map}
use Rattle.chain_records.specs.State.{Code}
use Rattle.gatekeeper.specs.Accepted.{IsAccepted}
use Rattle.kv_layers.specs.Plain.{value_view}
use Rattle.code_registry.proofs.Reading.{found_code, found_none}
use Rattle.code_registry.proofs.readers.code.Goals as goal

pub of_checked-requires : goal.of_checked-requires
of_checked-requires g c =
    let t = c.requires in
    let is = sym (ap value_view c.in-Some.is) ∙ rw c.deref.ensures.value at (c.in_ok-bytes.ensures t.map t.stands) in
    let there = found_code c.maps_give_records.ensures t.map t.state c.args.id c.in_ok-place.place.items c.in-Some.bytes.items c.in_ok-place.ensures t.spelled is in
    subst IsAccepted (sym there.2) (c.taken_is_accepted.ensures there.0.bytes t.state.facts.caps (t.holds.codes c.args.id there.0 there.1).taken)

pub returns-in-Some : goal.returns-in-Some
returns-in-Some g c = λ map s stands spelled.
    let is = sym (ap value_view c.in-Some.is) ∙ rw c.deref.ensures.value at (c.in_ok-bytes.ensures map stands) in
    let there = found_code c.maps_give_records.ensures map s c.args.id c.in_ok-place.place.items c.in-Some.bytes.items c.in_ok-place.ensures spelled is in
    ap (λ (b : List ℕ). Some b) (c.in_ok-of_checked-in-Some.ensures ∙ there.2) ∙ sym (ap (option_map (λ (code : Code). code.bytes)) there.1)

pub returns : goal.returns
returns g c = λ map s stands spelled.
    sym (found_none c.maps_give_records.ensures map s c.args.id c.in_ok-place.place.items c.in_ok-place.ensures spelled (sym (ap value_view c.in-None.is) ∙ rw c.deref.ensures.value at (c.in_ok-bytes.ensures map stands)))
