use Rattle.std.proofs.Common.{◌∙◌}
use Rattle.std.specs.Option.{option_map}
use Rattle.chain_records.specs.Records.{plain_facts, plain_stored}
use Rattle.state_records.proofs.Found.{facts_entry, facts_are}
use Rattle.state_records.proofs.reading.facts.Goals as goal

pub facts_in-requires : goal.facts_in-requires
facts_in-requires g c =
    let t = c.requires in
    (t.state.facts, c.in_ok-found.ensures t.map t.state t.stands t.spelled ∙ facts_entry t.state)

pub returns : goal.returns
returns g c = λ m s stands spelled.
    facts_are s (plain_facts c.facts_in.result) (option_map plain_stored c.in_ok-found.found) (c.in_ok-found.ensures m s stands spelled) c.facts_in.ensures
