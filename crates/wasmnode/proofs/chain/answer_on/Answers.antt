use Rattle.std.proofs.Common.{ℕ, None, sym, subst, refl}
use Rattle.kv_layers.specs.Maps.{new_maps}
use Rattle.state_runs.specs.Runs.{map_of}
use Rattle.query_router.specs.Calls.{query}
use Rattle.line_protocol.specs.Plain.{query_result_view}
use Rattle.wasmnode.specs.Asking.{IsAnswered}
use Rattle.wasmnode.proofs.Replies.{has_lawful, is_answered}
use Rattle.wasmnode.proofs.chain.answer_on.Goals as goal

pub query-answer-requires-clause-lawful : goal.query-answer-requires-clause-lawful
query-answer-requires-clause-lawful c = has_lawful c.new-layers.result c.args.snapshot c.requires.0 c.new-layers.ensures.maps c.requires.1

pub returns : goal.returns
returns c = λ s shows.
    let request = c.args.request.now in
    let limit = c.args.query_gas in
    let costs = c.standard-costs.result in
    let before = c.new-meter.result in
    let after = c.query-answer.new.meter in
    let map = map_of c.args.snapshot.now in
    let gives = c.query-answer.ensures.answer map s (new_maps map, c.new-layers.ensures.maps map refl, refl) shows.spelled shows.lawful in
    let told = c.in_ok-result.ensures (query costs s request 0 before.left) after.left None None gives in
    let result = query_result_view c.in_ok-result.result in
    let answered = is_answered s request limit costs before after result c.standard-costs.ensures.numbers c.new-meter.ensures c.query-answer.ensures.gas told in
    subst (λ (gas : ℕ). IsAnswered s request limit gas result) (sym c.used.ensures.used) answered
