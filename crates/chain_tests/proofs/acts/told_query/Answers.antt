use Rattle.chain_tests.proofs.acts.told_query.Goals as goal

pub returns : goal.returns
returns c =
    let t = c.requires.lawful in
    record { map = t.map; state = t.state; stands = (t.stands.0, c.query-answer.ensures.unchanged t.stands.0 t.stands.1, t.stands.2); spelled = t.spelled; holds = t.holds }
