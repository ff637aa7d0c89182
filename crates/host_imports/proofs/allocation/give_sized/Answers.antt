use Rattle.host_imports.specs.Allocation.{gives}
use Rattle.host_imports.specs.Parts.{same_view}
use Rattle.host_imports.proofs.Machines.{fits_so}
use Rattle.host_imports.proofs.Works.{moves_then, moves_stop, done_moves}
use Rattle.host_imports.proofs.allocation.give_sized.Goals as goal

pub returns-in-Err-clause-moves : goal.returns-in-Err-clause-moves
unfolding gives
returns-in-Err-clause-moves c = moves_then _ (fits_so _ c.requires.short) (moves_stop _ c.in-Err.stop c.in-Err.ensures.moves)

pub returns-in-Err-pointer_of-clause-moves : goal.returns-in-Err-pointer_of-clause-moves
unfolding gives
returns-in-Err-pointer_of-clause-moves c =
    moves_then _ (fits_so _ c.requires.short)
    (moves_then _ c.in-Ok.ensures.moves (moves_stop _ c.in-Err-pointer_of.stop (c.in-Err-pointer_of.ensures c.call_own.new.machine c.call_own.new.meter.left)))

pub returns-in-Ok-write_region-clause-moves : goal.returns-in-Ok-write_region-clause-moves
unfolding gives
returns-in-Ok-write_region-clause-moves c =
    moves_then _ (fits_so _ c.requires.short)
    (moves_then _ c.in-Ok.ensures.moves
    (moves_then _ (c.in-Ok-pointer_of.ensures c.call_own.new.machine c.call_own.new.meter.left)
    (moves_then _ (c.in-Ok-write_region.ensures.moves c.call_own.new.meter.left) (done_moves {view = same_view} c.in-Ok-pointer_of.pointer))))

pub returns-in-Err-write_region-clause-moves : goal.returns-in-Err-write_region-clause-moves
unfolding gives
returns-in-Err-write_region-clause-moves c =
    moves_then _ (fits_so _ c.requires.short)
    (moves_then _ c.in-Ok.ensures.moves
    (moves_then _ (c.in-Ok-pointer_of.ensures c.call_own.new.machine c.call_own.new.meter.left)
    (moves_stop _ c.in-Err-write_region.stop (c.in-Err-write_region.ensures.moves c.call_own.new.meter.left))))
