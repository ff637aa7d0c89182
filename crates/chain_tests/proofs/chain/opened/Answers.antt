use Rattle.std.proofs.Common.{refl}
use Rattle.chain_tests.proofs.chain.opened.Goals as goal

pub returns : goal.returns
returns c = let found = c.in_ok-plain.ensures in record { map = c.in_ok-plain.plain; state = found.state; stands = refl; spelled = found.spelled; holds = found.lawful }
