use Rattle.chain_tests.proofs.ListedCodes.{after}
use Rattle.chain_tests.proofs.contracts.try_set_code.Goals as goal

pub returns : goal.returns
returns c = after c.set_code-done.result _ c.set_code-done.ensures.lawful c.set_code-done.ensures.still_lawful c.in_ok-text.ensures
