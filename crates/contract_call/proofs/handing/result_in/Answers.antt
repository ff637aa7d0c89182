use Rattle.contract_call.specs.Calls.{results_in}
use Rattle.contract_call.proofs.Works.{moves_then, moves_stop, done_moves}
use Rattle.contract_call.proofs.handing.result_in.Goals as goal

pub returns-in-Err-clause-moves : goal.returns-in-Err-clause-moves
unfolding results_in
returns-in-Err-clause-moves c = moves_stop _ c.in-Err.stop (c.in-Err.ensures c.args.machine.now c.args.meter.now.left)

pub returns-in-Err-read_result-clause-moves : goal.returns-in-Err-read_result-clause-moves
unfolding results_in
returns-in-Err-read_result-clause-moves c =
    moves_then _ (c.in-Ok.ensures c.args.machine.now c.args.meter.now.left) (moves_stop _ c.in-Err-read_result.stop (c.in-Err-read_result.ensures c.args.meter.now.left))

pub returns-in-Ok-take_back-clause-moves : goal.returns-in-Ok-take_back-clause-moves
unfolding results_in
returns-in-Ok-take_back-clause-moves c =
    moves_then _ (c.in-Ok.ensures c.args.machine.now c.args.meter.now.left)
    (moves_then _ (c.in-Ok-read_result.ensures c.args.meter.now.left) (moves_then _ c.in-Ok-take_back.ensures.moves (done_moves c.in-Ok-read_result.bytes)))

pub returns-in-Err-take_back-clause-moves : goal.returns-in-Err-take_back-clause-moves
unfolding results_in
returns-in-Err-take_back-clause-moves c =
    moves_then _ (c.in-Ok.ensures c.args.machine.now c.args.meter.now.left)
    (moves_then _ (c.in-Ok-read_result.ensures c.args.meter.now.left) (moves_stop _ c.in-Err-take_back.stop c.in-Err-take_back.ensures.moves))
