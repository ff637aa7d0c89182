use Rattle.std.proofs.Common.{◌≡◌, ◌∙◌, ◌+◌, ◌∷◌, [], List, refl, sym, ap, subst, map, drop}
use Rattle.std.proofs.lemmas.List.{drop_more, drop_all, map-append}
use Rattle.serde_json.specs.Data.{Data}
use Rattle.serde_json.specs.View.{view}
use Rattle.submsg_dispatch.specs.declared.stop.HandleStop.TheVariants.{NoMemory}
use Rattle.submsg_dispatch.specs.Messages.{Outcome}
use Rattle.submsg_dispatch.specs.Transactions.{all_handled}
use Rattle.submsg_dispatch.specs.Under.{outcomes_view}
use Rattle.submsg_dispatch.specs.Views.{outcome_view}
use Rattle.submsg_dispatch.proofs.Loops.{Reaches, reach_start, reach_lawful, reach_more, reach_end, reach_stop, no_room, passes_on}
use Rattle.submsg_dispatch.proofs.turns.handle_all.Goals as goal

pub loop-value-init : goal.loop-value-init
loop-value-init g c = record {
  reaches = reach_start (outcomes_view c.new-outcomes.result) (all_handled c.args.costs.now c.args.sender.now c.args.index (map view c.args.values.now)) (ap (map outcome_view) c.new-outcomes.ensures.items);
  gas = refl;
  layers = refl;
}

pub read_and_handle-requires-clause-lawful : goal.read_and_handle-requires-clause-lawful
read_and_handle-requires-clause-lawful g c = reach_lawful c.requires.lawful c.loop-value.invariant.reaches

pub loop-value-preserved : goal.loop-value-preserved
loop-value-preserved g c =
    let items = c.args.values.now in
    let i = c.loop-value.value-index in
    let d : Data = view c.value-item.result in
    let rest : List Data = map view (drop (i + 1) items) in
    let splits : map view (drop i items) ≡ d ∷ rest = ap (map view) (drop_more items i c.value-item.result c.loop-value-test.true) ∙ ap (λ x. view x ∷ rest) (sym c.value-item.is) in
    let costs = c.args.costs.now in
    let sender = c.args.sender.now in
    let all = all_handled costs sender c.args.index (map view items) in
    let so_far = rw splits at c.loop-value.invariant.reaches in
    let front = outcomes_view c.loop-value.outcomes in
    let pushed = ap (map outcome_view) c.in_ok-push.ensures.items ∙ map-append outcome_view c.loop-value.outcomes.items (c.in_ok-outcome.outcome ∷ []) in
    let more = reach_more costs sender c.args.index d rest all front c.in_ok-outcome.outcome c.fetches_join.ensures c.in_ok-outcome.ensures.leads so_far in
    record {
      reaches = subst (λ (f : List Outcome). Reaches c.args.prefix.now g.B.Base.stands_for c.args.layers.now c.read_and_handle.new.layers (g.M.Modules.tally c.args.modules.now) (g.M.Modules.tally c.read_and_handle.new.modules) c.args.meter.now.left c.read_and_handle.new.meter.left f (all_handled costs sender c.args.index rest) all) (sym pushed) more;
      gas = c.in_ok-outcome.ensures.gas ∙ c.loop-value.invariant.gas;
      layers = c.in_ok-outcome.ensures.layers ∙ c.loop-value.invariant.layers;
    }

pub returns-in_err-outcome-clause-leads : goal.returns-in_err-outcome-clause-leads
returns-in_err-outcome-clause-leads g c =
    let items = c.args.values.now in
    let i = c.loop-value.value-index in
    let d : Data = view c.value-item.result in
    let rest : List Data = map view (drop (i + 1) items) in
    let splits : map view (drop i items) ≡ d ∷ rest = ap (map view) (drop_more items i c.value-item.result c.loop-value-test.true) ∙ ap (λ x. view x ∷ rest) (sym c.value-item.is) in
    let costs = c.args.costs.now in
    let sender = c.args.sender.now in
    let all = all_handled costs sender c.args.index (map view items) in
    let so_far = rw splits at c.loop-value.invariant.reaches in
    passes_on c.from_residual.result c.in_err-outcome.field-0.0 c.from_residual.ensures.1
    (reach_stop costs sender c.args.index d rest all c.in_err-outcome.field-0.0 c.fetches_join.ensures c.in_err-outcome.ensures.leads so_far)

pub returns-in_err-push-clause-leads : goal.returns-in_err-push-clause-leads
returns-in_err-push-clause-leads g c = passes_on c.from_residual-in_err-push.result NoMemory c.from_residual-in_err-push.ensures.1 no_room

pub returns-clause-leads : goal.returns-clause-leads
returns-clause-leads g c =
    let items = c.args.values.now in
    let costs = c.args.costs.now in
    let sender = c.args.sender.now in
    let all = all_handled costs sender c.args.index (map view items) in
    let none : map view (drop c.loop-value.value-index items) ≡ [] = ap (map view) (drop_all c.loop-value.value-index items c.loop-value-test.false) in
    let so_far = rw none at c.loop-value.invariant.reaches in
    reach_end costs sender c.args.index all c.loop-value.outcomes so_far
