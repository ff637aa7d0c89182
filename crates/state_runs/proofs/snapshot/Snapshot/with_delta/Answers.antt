use Rattle.std.proofs.Common.{◌≡◌, [], map, length, ap, ◌∙◌, sym, arith, true≢false, vec_len}
use Rattle.std.proofs.lemmas.Bool.{eqb-true, eq-eqb}
use Rattle.std.proofs.lemmas.List.{length-map}
use Rattle.std.proofs.lemmas.Result.{IfOk-weaker}
use Rattle.kv_layers.specs.Delta.{delta_view}
use Rattle.kv_layers.specs.Rising.{change_view}
use Rattle.state_runs.proofs.Copying.{none-left}
use Rattle.state_runs.proofs.Maps.{with_run-none, with_run-some, LeadsTo-runs, map_of-runs}
use Rattle.state_runs.proofs.snapshot.Snapshot.with_delta.Goals as goal

pub returns-then-is_empty : goal.returns-then-is_empty
returns-then-is_empty c =
    let runs = c.args.self.now in
    let changes = delta_view c.args.delta in
    let zero : vec_len c.args.delta.changes ≡ 0 = eqb-true _ _ (sym c.if-is_empty.ensures) in
    let none = ap (map change_view) (none-left c.args.delta.changes.items (omega (arith, c.args.delta.changes.ok.0, zero))) in
    let more = with_run-none changes runs none in
    record {
      runs = IfOk-weaker c.share.result _ _ (λ s e. e ∙ sym more) c.share.ensures;
      map = IfOk-weaker c.share.result _ _ (λ s e. LeadsTo-runs changes runs s (e ∙ sym more)) c.share.ensures;
      led = IfOk-weaker c.share.result _ _ (λ s e. map_of-runs changes runs s (e ∙ sym more)) c.share.ensures;
    }

pub returns : goal.returns
returns c =
    let runs = c.args.self.now in
    let changes = delta_view c.args.delta in
    let some = λ (none : delta_view c.args.delta ≡ []).
    let zero : vec_len c.args.delta.changes ≡ 0 = omega (arith, c.args.delta.changes.ok.0, simp length-map at (ap length none)) in
    true≢false (sym (eq-eqb _ _ zero) ∙ sym c.if-is_empty.ensures) in
    let more = with_run-some changes runs some in
    record {
      runs = IfOk-weaker c.with_run.result _ _ (λ s e. e ∙ more) c.with_run.ensures;
      map = IfOk-weaker c.with_run.result _ _ (λ s e. LeadsTo-runs changes runs s (e ∙ more)) c.with_run.ensures;
      led = IfOk-weaker c.with_run.result _ _ (λ s e. map_of-runs changes runs s (e ∙ more)) c.with_run.ensures;
    }
