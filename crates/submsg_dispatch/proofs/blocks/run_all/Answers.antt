use Rattle.std.proofs.Common.{◌≡◌, ◌∙◌, ◌+◌, ◌∷◌, [], ℕ, List, refl, sym, ap, subst, map, drop, length, arith}
use Rattle.std.proofs.lemmas.List.{drop_more, drop_all, map-append, length-append}
use Rattle.chain_records.specs.State.{State}
use Rattle.chain_msgs.specs.Plain.{Tx, TxResult, tx_view, result_view}
use Rattle.submsg_dispatch.specs.Under.{RunsUnder}
use Rattle.submsg_dispatch.specs.Transactions.{tx}
use Rattle.submsg_dispatch.proofs.Running.{Reaches, reach_start, reach_lawful, reach_more, reach_end}
use Rattle.submsg_dispatch.proofs.blocks.run_all.Goals as goal

pub loop-tx-init : goal.loop-tx-init
loop-tx-init g c = record {
  reaches = reach_start (map result_view c.in_ok-results.results.items) (map tx_view c.args.txs.now) (ap (map result_view) c.in_ok-results.ensures.items);
  counted = ap length c.in_ok-results.ensures.items;
  layers = refl;
}

pub run_under-requires : goal.run_under-requires
run_under-requires g c = record { costs = c.requires.costs; lawful = reach_lawful c.requires.lawful c.loop-tx.invariant.reaches }

pub loop-tx-preserved : goal.loop-tx-preserved
loop-tx-preserved g c =
    let S = g.B.Base.stands_for in
    let tally = g.M.Modules.tally in
    let items = c.args.txs.now in
    let i = c.loop-tx.tx-index in
    let t : Tx = tx_view c.tx-item.result in
    let rest : List Tx = map tx_view (drop (i + 1) items) in
    let splits : map tx_view (drop i items) ≡ t ∷ rest = ap (map tx_view) (drop_more items i c.tx-item.result c.loop-tx-test.true) ∙ ap (λ x. tx_view x ∷ rest) (sym c.tx-item.is) in
    let so_far = rw splits at c.loop-tx.invariant.reaches in
    let costs = c.args.costs.now in
    let front = map result_view c.loop-tx.results.items in
    let result = result_view c.in_ok-answer.answer in
    let index : c.len-index.result ≡ i = omega (arith, c.len-index.ensures, c.loop-tx.invariant.counted, c.loop-tx.results.ok.0) in
    let ran = subst (λ (n : ℕ). RunsUnder c.args.prefix.now S c.loop-tx.layers c.run_under.new.layers (tally c.loop-tx.modules) (tally c.run_under.new.modules) (λ (s : State). tx costs s t n) result) index c.in_ok-answer.ensures.ran in
    let more = reach_more front i t rest (map tx_view items) result c.fetches_join.ensures ran so_far in
    let pushed = ap (map result_view) c.in_ok-push.ensures.items ∙ map-append result_view c.loop-tx.results.items (c.in_ok-answer.answer ∷ []) in
    record {
      reaches = subst (λ (f : List TxResult). Reaches c.args.prefix.now S c.args.layers.now c.run_under.new.layers (tally c.args.modules.now) (tally c.run_under.new.modules) costs f (i + 1) rest (map tx_view items)) (sym pushed) more;
      counted = omega (arith, ap length c.in_ok-push.ensures.items, length-append c.loop-tx.results.items (c.in_ok-answer.answer ∷ []), c.loop-tx.invariant.counted);
      layers = c.in_ok-answer.ensures.layers ∙ c.loop-tx.invariant.layers;
    }

pub returns-clause-ran : goal.returns-clause-ran
returns-clause-ran g c =
    let none : map tx_view (drop c.loop-tx.tx-index c.args.txs.now) ≡ [] = ap (map tx_view) (drop_all c.loop-tx.tx-index c.args.txs.now c.loop-tx-test.false) in
    reach_end (rw none at c.loop-tx.invariant.reaches)
