use Rattle.std.proofs.Common.{◌≡◌}
use Rattle.chain_tests.proofs.Storing.{turned}
use Rattle.chain_tests.proofs.smart.told_at.Goals as goal

pub returns-clause-lawful : goal.returns-clause-lawful
returns-clause-lawful c = turned (λ plain map. plain ≡ map) c.args.layers.now c.query-answer.new.view c.query-answer.ensures.unchanged c.requires.lawful
