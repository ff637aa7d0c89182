use Rattle.chain_tests.proofs.ListedCodes.{after}
use Rattle.chain_tests.proofs.contracts.try_set_admin.Goals as goal

pub returns : goal.returns
returns c = after c.set_admin-done.result _ c.set_admin-done.ensures.lawful c.set_admin-done.ensures.still_lawful c.in_ok-text.ensures
