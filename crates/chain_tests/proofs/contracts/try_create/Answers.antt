use Rattle.chain_tests.proofs.ListedCodes.{after}
use Rattle.chain_tests.proofs.contracts.try_create.Goals as goal

pub returns : goal.returns
returns c = after c.create-done.result _ c.create-done.ensures.lawful c.create-done.ensures.still_lawful c.in_ok-text.ensures
