use Rattle.std.proofs.Common.{refl}
use Rattle.chain_records.specs.State.{State}
use Rattle.code_registry.specs.Codes.{unpinned}
use Rattle.code_registry.specs.Effects.{IsUnpinned}
use Rattle.code_registry.proofs.PinnedIds.{all_unpinned}
use Rattle.code_registry.proofs.Writing.{Becomes-lawful}
use Rattle.code_registry.proofs.pinning.unpin.Goals as goal

pub returns-clause-unpinned : goal.returns-clause-unpinned
returns-clause-unpinned g c = λ maps s stands spelled lawful.
    let ids = c.args.ids.now in
    let written = c.in_ok-remove_pins.ensures.ok maps s stands spelled in
    (written.0, unpinned s ids, written.1, written.2, all_unpinned s c.args.sender.now ids lawful (c.in_ok-may_unpin.ensures.ok maps.current s (maps, stands, refl) spelled lawful))

pub returns-clause-lawful : goal.returns-clause-lawful
returns-clause-lawful g c =
    Becomes-lawful g.B.Base.stands_for c.args.layers.now c.remove_pins.new.layers (λ (s t : State). IsUnpinned s c.args.sender.now c.args.ids.now t) (λ s t is. is.lawful) (returns-clause-unpinned g c) c.requires
