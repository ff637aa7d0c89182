use Rattle.std.proofs.Common.{refl, ◌∙◌, ◌+◌, take, get_or}
use Rattle.std.proofs.lemmas.List.{take_more, take_all}
use Rattle.code_registry.proofs.Marking.{Writes-nothing, one_more_unpinned, these_unpinned}
use Rattle.code_registry.proofs.pinning.remove_pins.Goals as goal

pub loop-id-init : goal.loop-id-init
loop-id-init g c = record { depth = refl; written = Writes-nothing g.B.Base.stands_for c.args.layers.now }

pub loop-id-preserved : goal.loop-id-preserved
loop-id-preserved g c =
    let ids = c.args.ids.now in
    let at = c.loop-id.id-index in
    record {
      depth = c.in_ok-remove_pin.ensures.depth ∙ c.loop-id.invariant.depth;
      written = one_more_unpinned g.B.Base.stands_for c.args.layers.now c.loop-id.layers c.remove_pin.new.layers (take at ids) (take (at + 1) ids) (get_or ids at 0) (take_more ids at 0 c.loop-id-test.true) c.loop-id.invariant.written c.in_ok-remove_pin.ensures.ok;
    }

pub returns-clause-ok : goal.returns-clause-ok
returns-clause-ok g c =
    let ids = c.args.ids.now in
    let at = c.loop-id.id-index in
    these_unpinned g.B.Base.stands_for c.args.layers.now c.loop-id.layers (take at ids) ids (take_all at ids c.loop-id-test.false) c.loop-id.invariant.written
