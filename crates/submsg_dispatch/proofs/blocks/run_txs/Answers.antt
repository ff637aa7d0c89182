use Rattle.std.proofs.Common.{List, ℕ, sym, ◌∙◌, subst, map}
use Rattle.std.proofs.lemmas.Result.{IfOk-weaker}
use Rattle.kv_layers.specs.Layers.{HasCurrent}
use Rattle.chain_records.specs.Records.{plain_facts}
use Rattle.chain_msgs.specs.Plain.{tx_view, result_view}
use Rattle.query_router.specs.Lawful.{HasLawful}
use Rattle.submsg_dispatch.specs.Reaching.{RunsAll}
use Rattle.submsg_dispatch.specs.Under.{HasLawfulUnder, RunsAllUnder}
use Rattle.submsg_dispatch.proofs.Lawfulness.{under, each_under}
use Rattle.submsg_dispatch.proofs.Running.{all_for_all, lawful_all}
use Rattle.submsg_dispatch.proofs.blocks.run_txs.Goals as goal

pub run_all-requires-clause-lawful : goal.run_all-requires-clause-lawful
run_all-requires-clause-lawful g c =
    let S = HasCurrent g.B.Base.stands_for c.args.layers.now in
    subst (λ (p : List ℕ). HasLawfulUnder p S) (sym c.as_str-prefix.ensures.value) (under S (plain_facts c.in_ok-chain.chain) c.requires.lawful c.in_ok-chain.ensures)

pub returns-clause-ran : goal.returns-clause-ran
returns-clause-ran g c =
    let S = g.B.Base.stands_for in
    let costs = c.args.costs.now in
    let txs = map tx_view c.args.txs.now in
    let before = g.M.Modules.tally c.args.modules.now in
    let after = g.M.Modules.tally c.run_all.new.modules in
    IfOk-weaker c.run_all.result (λ results. RunsAllUnder c.as_str-prefix.result.now S c.args.layers.now c.run_all.new.layers before after costs txs (map result_view results.items)) (λ results. RunsAll S c.args.layers.now c.run_all.new.layers before after costs txs (map result_view results.items))
    (λ results runs. all_for_all (λ maps s stands spelled. each_under S c.args.layers.now (plain_facts c.in_ok-chain.chain) c.in_ok-chain.ensures maps s stands spelled ∙ sym c.as_str-prefix.ensures.value) runs) c.run_all.ensures.ran

pub returns-clause-lawful : goal.returns-clause-lawful
returns-clause-lawful g c =
    let S = g.B.Base.stands_for in
    let costs = c.args.costs.now in
    let txs = map tx_view c.args.txs.now in
    let before = g.M.Modules.tally c.args.modules.now in
    let after = g.M.Modules.tally c.run_all.new.modules in
    let old = HasCurrent S c.args.layers.now in
    let some = subst (λ (p : List ℕ). HasLawfulUnder p old) (sym c.as_str-prefix.ensures.value) (under old (plain_facts c.in_ok-chain.chain) c.requires.lawful c.in_ok-chain.ensures) in
    IfOk-weaker c.run_all.result (λ results. RunsAllUnder c.as_str-prefix.result.now S c.args.layers.now c.run_all.new.layers before after costs txs (map result_view results.items)) (λ results. HasLawful (HasCurrent S c.run_all.new.layers))
    (λ results runs. lawful_all some runs) c.run_all.ensures.ran
