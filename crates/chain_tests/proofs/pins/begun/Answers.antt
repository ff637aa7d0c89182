use Rattle.chain_tests.proofs.pins.begun.Goals as goal

pub returns : goal.returns
returns c = let t = c.in_ok-plain.ensures in record { map = t.map; state = t.state; stands = t.stands; spelled = t.spelled; holds = tt }
