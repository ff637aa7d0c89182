use Rattle.std.proofs.Common.{◌≡◌}
use Rattle.chain_tests.proofs.Storing.{codes_of, after_stored}
use Rattle.chain_tests.proofs.stored.put_code.Goals as goal

pub store-requires-clause-lawful : goal.store-requires-clause-lawful
store-requires-clause-lawful c = codes_of c.requires.lawful

pub returns-clause-lawful : goal.returns-clause-lawful
returns-clause-lawful c = after_stored (λ plain map. plain ≡ map) c.args.layers.now c.store.new.layers c.contracts_stay_lawful.ensures.stored _ _ _ c.in_ok-id.id c.in_ok-id.ensures.stored c.requires.lawful
