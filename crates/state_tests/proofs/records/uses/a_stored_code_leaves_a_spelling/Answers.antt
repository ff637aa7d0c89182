use Rattle.chain_records.specs.Changes.{with_changes, code_changes, with_code}
use Rattle.state_tests.proofs.records.uses.a_stored_code_leaves_a_spelling.Goals as goal

pub returns : goal.returns
returns c map s added spelled info fits =
    (c.whole_maps_spell_states.ensures (with_changes map (code_changes s.counters added))).1 (with_code s added, c.codes_are_stored_whole.ensures map s added spelled info fits)
