use Rattle.std.proofs.Common.{◌≡◌, ℕ, List, length, sym, ap, ◌∙◌}
use Rattle.std.specs.FinMap.{keys}
use Rattle.code_registry.specs.Codes.{Pins, pins_with}
use Rattle.code_registry.proofs.Counted.{no_pins, no_keys, of_keys}
use Rattle.code_registry.proofs.counting.how_many_with.Goals as goal

pub returns : goal.returns
returns g c = λ m s stands spelled.
    let before = rw c.deref.ensures.value at (c.in_ok-add_all.ensures no_pins (c.new-all.ensures.empty ∙ sym no_keys)) in
    let there = c.in_ok-before.ensures m s stands spelled in
    let first = before ∙ ap (λ (ids : List ℕ). keys (pins_with no_pins ids)) there ∙ ap (λ (p : Pins). keys p) (of_keys s.pins) in
    c.len.ensures.len ∙ ap length (c.in_ok-add_all-2.ensures s.pins first)
