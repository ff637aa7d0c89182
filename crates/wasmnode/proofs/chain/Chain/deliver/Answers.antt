use Rattle.std.proofs.Common.{◌∙◌, ◌+◌, List, [], ◌∷◌, ◌++◌, None, map, sym, ap, subst, refl, arith}
use Rattle.gas_meter.specs.declared.schedule.Schedule.{Schedule}
use Rattle.chain_msgs.specs.Plain.{block_view, result_view}
use Rattle.chain_records.specs.State.{Bytes, Spells}
use Rattle.kv_layers.specs.Delta.{delta_view}
use Rattle.state_runs.specs.Runs.{Run, map_of}
use Rattle.circular_buffer.specs.Buffer.{buffer, keep_last}
use Rattle.block_runner.specs.Delivering.{IsDelivered}
use Rattle.wasmnode.specs.declared.chain.Chain as chain_type
use Rattle.wasmnode.specs.Chain.{block_on}
use Rattle.wasmnode.specs.History.{newest, chain_of, state_of}
use Rattle.wasmnode.proofs.Delivering.{has_next, IsTold, digest_told, stands_more}
use Rattle.wasmnode.proofs.Merges.{few_more}
use Rattle.wasmnode.proofs.chain.Chain.deliver.Goals as goal

pub run_block-requires-clause-lawful : goal.run_block-requires-clause-lawful
run_block-requires-clause-lawful c =
    let stands = c.requires.stands.2 in
    let shows = c.in_ok-base.ensures.shows c.requires.stands.0 c.requires.stands.1 stands in
    has_next c.args.self.now.query_gas c.requires.stands.1 c.in_ok-base.base shows stands.facts (omega (arith, c.requires.low, stands.height))

pub returns-clause-next : goal.returns-clause-next
returns-clause-next c = λ keep h stands.
    let b = block_view c.args.block.now in
    let base = c.in_ok-base.base in
    let state = state_of h (newest h) in
    let shows = c.in_ok-base.ensures.shows keep h stands in
    let with_costs = c.in_ok-done.ensures (map_of base) state refl shows.spelled shows.lawful in
    let done = subst (λ (costs : Schedule). IsDelivered costs None None b (map_of base) state c.in_ok-done.done) c.standard-costs.ensures.numbers with_costs in
    let runs = c.in_ok-with_delta.field-0 in
    let new : chain_type.Chain = record { heights = c.push_back.new.self; height = c.args.self.now.height + 1; query_gas = c.args.self.now.query_gas; digest = c.in_ok-text.digest } in
    let told : IsTold h b (c.args.self.now.height + 1) c.args.self.now.digest (map result_view c.deref.result.now) c.in_ok-text.digest = record {
      height_is = ap (λ n. n + 1) stands.height;
      state_height = stands.facts.heights (newest h) (omega arith);
      last_is = stands.digest;
      results_are = ap (map result_view) c.deref.ensures.value ∙ done.results;
      digest_is = c.in_ok-text.ensures.digest;
    } in
    stands_more keep h b c.args.self.now new runs stands (record {
      shows = record {
        spelled = subst (λ (m : Bytes). Spells m (block_on (chain_of h (newest h)) b).state) (sym (c.in_ok-with_delta.ensures.led done.new done.delta)) done.spelled;
        lawful = done.lawful;
        few = few_more (delta_view c.in_ok-done.done.delta) base runs c.in_ok-with_delta.ensures.runs c.in_ok-base.ensures.few;
      };
      facts = done.facts;
      heights = c.push_back.ensures.items;
      height = refl;
      digest = digest_told h b (c.args.self.now.height + 1) c.args.self.now.digest (map result_view c.deref.result.now) c.in_ok-text.digest told;
      query_gas = refl;
    })

pub returns-clause-runs : goal.returns-clause-runs
returns-clause-runs c =
    let old = c.args.self.now.heights in
    let base = c.in_ok-base.base in
    let changes = delta_view c.in_ok-done.done.delta in
    record {
      base = base;
      changes = changes;
      newest = c.in_ok-base.ensures.merged;
      added = c.push_back.ensures.items ∙ ap (λ (runs : List Run). buffer (keep_last old.capacity (old.items ++ runs ∷ [])) old.capacity) c.in_ok-with_delta.ensures.runs;
    }
