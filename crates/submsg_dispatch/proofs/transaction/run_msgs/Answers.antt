use Rattle.std.proofs.Common.{◌≡◌, ◌+◌, ◌-◌, ◌<◌, length, ap, ◌∙◌, map, arith}
use Rattle.std.proofs.lemmas.Result.{IfOk-weaker}
use Rattle.std.proofs.lemmas.List.{length-map}
use Rattle.serde_json.specs.View.{view}
use Rattle.chain_msgs.specs.Plain.{result_view}
use Rattle.gas_meter.specs.Gas.{Gas}
use Rattle.submsg_dispatch.specs.Transactions.{all_handled, run}
use Rattle.submsg_dispatch.specs.Under.{Closes, RunsUnder}
use Rattle.submsg_dispatch.proofs.Closing.{closed_runs, of_messages, lawful_pushed}
use Rattle.submsg_dispatch.proofs.transaction.run_msgs.Goals as goal

pub handle_all-done-requires-clause-lawful : goal.handle_all-done-requires-clause-lawful
handle_all-done-requires-clause-lawful g c = lawful_pushed c.in_ok-push_layer.ensures.ok c.requires.lawful

pub returns-clause-ran : goal.returns-clause-ran
returns-clause-ran g c =
    let S = g.B.Base.stands_for in
    let gas = c.args.tx.now.gas in
    let costs = c.args.costs.now in
    let sender = c.args.sender.now in
    let index = c.args.index in
    let ds = map view c.args.tx.now.msgs.items in
    let before = g.M.Modules.tally c.args.modules.now in
    let after = g.M.Modules.tally c.handle_all-done.new.modules in
    let leads = rw (c.new-meter.ensures, c.deref.ensures.value) at c.handle_all-done.ensures.leads in
    let counted : c.handle_all-done.new.meter.left + c.handle_all-done.new.meter.used ≡ gas + 0 = c.handle_all-done.ensures.gas ∙ ap (λ (m : Gas). m.left + m.used) c.new-meter.ensures in
    let used : c.used.result ≡ gas - c.handle_all-done.new.meter.left = omega (arith, c.used.ensures.used) in
    let some : 0 < length ds = omega (arith, length-map c.args.tx.now.msgs.items view, c.args.tx.now.msgs.ok.0, c.requires.some) in
    IfOk-weaker c.close.result (λ answer. Closes S c.handle_all-done.new.layers c.close.new.layers c.handle_all-done.result c.used.result (result_view answer)) (λ answer. RunsUnder c.args.prefix.now S c.args.layers.now c.close.new.layers before after (λ s. run costs s sender gas index ds) (result_view answer))
    (λ answer closes. of_messages costs sender gas index ds some (closed_runs (all_handled costs sender index ds) c.handle_all-done.result (result_view answer) c.in_ok-push_layer.ensures.ok leads closes used)) c.close.ensures.closed
