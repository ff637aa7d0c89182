use Rattle.std.proofs.Common.{◌≡◌}
use Rattle.chain_tests.proofs.Storing.{contracts_of, after_taken}
use Rattle.chain_tests.proofs.stored.take.Goals as goal

pub take_instance-requires : goal.take_instance-requires
take_instance-requires c = contracts_of c.requires.lawful

pub returns-clause-lawful : goal.returns-clause-lawful
returns-clause-lawful c = after_taken (λ plain map. plain ≡ map) c.args.layers.now c.take_instance.new.layers c.in_ok-id.id c.in_ok-id.ensures.taken c.requires.lawful
