use Rattle.std.proofs.Common.{◌≡◌, ◌+◌, ℕ, List, sym, ap, ◌∙◌, take, get_or}
use Rattle.std.proofs.lemmas.List.{take_more, take_all}
use Rattle.std.specs.Ordering.{nat_cmp}
use Rattle.std.specs.BTreeSet.{insert_key}
use Rattle.std.specs.FinMap.{keys}
use Rattle.code_registry.specs.Codes.{Pins, pins_with}
use Rattle.code_registry.proofs.Counted.{keys_inserted}
use Rattle.code_registry.proofs.PinnedIds.{with_more}
use Rattle.code_registry.proofs.counting.add_all.Goals as goal

pub loop-id-init : goal.loop-id-init
loop-id-init c = λ pins is. is

pub loop-id-preserved : goal.loop-id-preserved
loop-id-preserved c = λ pins is.
    let ids = c.args.ids.now in
    let at = c.loop-id.id-index in
    let id = get_or ids at 0 in
    c.in_ok-insert.ensures.keys
    ∙ ap (λ (before : List ℕ). insert_key nat_cmp before id) (c.loop-id.invariant pins is)
    ∙ sym (keys_inserted (pins_with pins (take at ids)) id)
    ∙ ap (λ (p : Pins). keys p) (sym (with_more pins (take at ids) id))
    ∙ ap (λ (these : List ℕ). keys (pins_with pins these)) (sym (take_more ids at 0 c.loop-id-test.true))

pub returns : goal.returns
returns c = λ pins is.
    let ids = c.args.ids.now in
    let at = c.loop-id.id-index in
    c.loop-id.invariant pins is ∙ ap (λ (these : List ℕ). keys (pins_with pins these)) (take_all at ids c.loop-id-test.false)
