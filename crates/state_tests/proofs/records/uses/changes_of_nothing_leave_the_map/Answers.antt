use Rattle.chain_records.specs.Changes.{with_changes}
use Rattle.state_tests.proofs.records.uses.changes_of_nothing_leave_the_map.Goals as goal

pub returns : goal.returns
returns c map s changes spelled are by =
    c.maps_tell_states.ensures.only (with_changes map changes) map s (c.records_change_together.ensures map s s changes spelled are by) spelled
