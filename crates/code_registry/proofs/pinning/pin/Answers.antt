use Rattle.std.proofs.Common.{refl}
use Rattle.chain_records.specs.State.{State}
use Rattle.code_registry.specs.Codes.{pinned}
use Rattle.code_registry.specs.Effects.{IsPinned}
use Rattle.code_registry.proofs.PinnedIds.{all_pinned}
use Rattle.code_registry.proofs.Writing.{Becomes-lawful}
use Rattle.code_registry.proofs.pinning.pin.Goals as goal

pub returns-clause-pinned : goal.returns-clause-pinned
returns-clause-pinned g c = λ maps s stands spelled lawful.
    let ids = c.args.ids.now in
    let written = c.in_ok-set_pins.ensures.ok maps s stands spelled in
    (written.0, pinned s ids, written.1, written.2, all_pinned s c.args.sender.now ids lawful (c.in_ok-may_pin.ensures.ok maps.current s (maps, stands, refl) spelled lawful))

pub returns-clause-lawful : goal.returns-clause-lawful
returns-clause-lawful g c =
    Becomes-lawful g.B.Base.stands_for c.args.layers.now c.set_pins.new.layers (λ (s t : State). IsPinned s c.args.sender.now c.args.ids.now t) (λ s t is. is.lawful) (returns-clause-pinned g c) c.requires
