use Rattle.std.proofs.Common.{◌≡◌}
use Rattle.chain_tests.proofs.Storing.{contracts_of, after_created}
use Rattle.chain_tests.proofs.stored.put_contract.Goals as goal

pub create-requires-clause-lawful : goal.create-requires-clause-lawful
create-requires-clause-lawful c = contracts_of c.requires.lawful

pub returns-clause-lawful : goal.returns-clause-lawful
returns-clause-lawful c = after_created (λ plain map. plain ≡ map) c.args.layers.now c.create.new.layers _ _ c.in_ok-create.ensures.created c.requires.lawful
