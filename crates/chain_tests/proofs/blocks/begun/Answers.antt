use Rattle.std.proofs.Common.{◌<◌, arith}
use Rattle.chain_records.specs.Records.{plain_facts}
use Rattle.chain_tests.proofs.Heights.{next_height}
use Rattle.chain_tests.proofs.blocks.begun.Goals as goal

pub returns : goal.returns
returns c =
    let low : c.in_ok-chain.chain.height < 1000 = omega arith in
    next_height _ (plain_facts c.in_ok-chain.chain) c.in_ok-plain.ensures c.in_ok-chain.ensures low
