use Rattle.std.proofs.Common.{List, ℕ, sym, ◌∙◌, subst}
use Rattle.std.specs.Prelude.{IsSome}
use Rattle.std.proofs.lemmas.Result.{IfOk-weaker}
use Rattle.kv_layers.specs.Layers.{HasCurrent}
use Rattle.chain_records.specs.Records.{plain_facts}
use Rattle.chain_records.specs.State.{State}
use Rattle.chain_msgs.specs.Plain.{tx_view, result_view}
use Rattle.query_router.specs.Lawful.{HasLawful}
use Rattle.submsg_dispatch.specs.Reaching.{Runs, Undoes}
use Rattle.submsg_dispatch.specs.Transactions.{tx}
use Rattle.submsg_dispatch.specs.Under.{HasLawfulUnder, RunsUnder}
use Rattle.submsg_dispatch.proofs.Lawfulness.{under, each_under}
use Rattle.submsg_dispatch.proofs.Closing.{some_failure, runs_for_all, undoes_for_all, lawful_run}
use Rattle.submsg_dispatch.proofs.transaction.run_tx.Goals as goal

pub run_under-requires : goal.run_under-requires
run_under-requires g c =
    let S = HasCurrent g.B.Base.stands_for c.args.layers.now in
    record { costs = c.requires.costs; lawful = subst (λ (p : List ℕ). HasLawfulUnder p S) (sym c.as_str-prefix.ensures.value) (under S (plain_facts c.in_ok-chain.chain) c.requires.lawful c.in_ok-chain.ensures) }

pub returns-clause-ran : goal.returns-clause-ran
returns-clause-ran g c =
    let S = g.B.Base.stands_for in
    let run = λ (s : State). tx c.args.costs.now s (tx_view c.args.tx.now) c.args.index in
    let before = g.M.Modules.tally c.args.modules.now in
    let after = g.M.Modules.tally c.run_under.new.modules in
    IfOk-weaker c.run_under.result (λ answer. RunsUnder c.as_str-prefix.result.now S c.args.layers.now c.run_under.new.layers before after run (result_view answer)) (λ answer. Runs S c.args.layers.now c.run_under.new.layers before after run (result_view answer))
    (λ answer runs. runs_for_all (λ maps s stands spelled. each_under S c.args.layers.now (plain_facts c.in_ok-chain.chain) c.in_ok-chain.ensures maps s stands spelled ∙ sym c.as_str-prefix.ensures.value) runs) c.run_under.ensures.ran

pub returns-clause-undone : goal.returns-clause-undone
returns-clause-undone g c =
    let S = g.B.Base.stands_for in
    let run = λ (s : State). tx c.args.costs.now s (tx_view c.args.tx.now) c.args.index in
    let before = g.M.Modules.tally c.args.modules.now in
    let after = g.M.Modules.tally c.run_under.new.modules in
    IfOk-weaker c.run_under.result (λ answer. RunsUnder c.as_str-prefix.result.now S c.args.layers.now c.run_under.new.layers before after run (result_view answer)) (λ answer. IsSome answer.failure → Undoes S c.args.layers.now c.run_under.new.layers)
    (λ answer runs some. undoes_for_all (λ maps s stands spelled. each_under S c.args.layers.now (plain_facts c.in_ok-chain.chain) c.in_ok-chain.ensures maps s stands spelled ∙ sym c.as_str-prefix.ensures.value) runs (some_failure answer.failure some)) c.run_under.ensures.ran

pub returns-clause-lawful : goal.returns-clause-lawful
returns-clause-lawful g c =
    let S = g.B.Base.stands_for in
    let run = λ (s : State). tx c.args.costs.now s (tx_view c.args.tx.now) c.args.index in
    let before = g.M.Modules.tally c.args.modules.now in
    let after = g.M.Modules.tally c.run_under.new.modules in
    let old = HasCurrent S c.args.layers.now in
    let some = subst (λ (p : List ℕ). HasLawfulUnder p old) (sym c.as_str-prefix.ensures.value) (under old (plain_facts c.in_ok-chain.chain) c.requires.lawful c.in_ok-chain.ensures) in
    IfOk-weaker c.run_under.result (λ answer. RunsUnder c.as_str-prefix.result.now S c.args.layers.now c.run_under.new.layers before after run (result_view answer)) (λ answer. HasLawful (HasCurrent S c.run_under.new.layers))
    (λ answer runs. lawful_run some runs) c.run_under.ensures.ran
