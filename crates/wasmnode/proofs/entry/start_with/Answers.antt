use Rattle.chain_msgs.specs.Plain.{genesis_view}
use Rattle.block_runner.specs.Opening.{opened}
use Rattle.wasmnode.proofs.Starting.{starts}
use Rattle.wasmnode.proofs.entry.start_with.Goals as goal

pub returns-in_ok-genesis_text-in-Ok : goal.returns-in_ok-genesis_text-in-Ok
returns-in_ok-genesis_text-in-Ok c =
    let g = genesis_view c.args.genesis.now in
    starts c.args.keep g c.in-Ok.chain c.in_ok-genesis_text-in-Ok.field-0 (opened g) c.in-Ok.ensures.opens c.in_ok-genesis_text-in-Ok.ensures
