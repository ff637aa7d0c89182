use Rattle.std.proofs.Common.{◌∙◌}
use Rattle.std.specs.Option.{option_map}
use Rattle.chain_records.specs.Records.{plain_stored}
use Rattle.state_records.proofs.Found.{counters_entry, counters_are}
use Rattle.state_records.proofs.reading.counters.Goals as goal

pub counters_in-requires : goal.counters_in-requires
counters_in-requires g c =
    let t = c.requires in
    (t.state.counters, c.in_ok-found.ensures t.map t.state t.stands t.spelled ∙ counters_entry t.state)

pub returns : goal.returns
returns g c = λ m s stands spelled.
    counters_are s c.counters_in.result (option_map plain_stored c.in_ok-found.found) (c.in_ok-found.ensures m s stands spelled) c.counters_in.ensures
