use Rattle.std.proofs.lemmas.Result.{IfOk-weaker}
use Rattle.kv_layers.specs.Delta.{delta_view}
use Rattle.state_runs.proofs.Maps.{map_of-whole}
use Rattle.state_runs.proofs.snapshot.Snapshot.from_plain.Goals as goal

pub returns-clause-map : goal.returns-clause-map
returns-clause-map c =
    IfOk-weaker c.lone.result _ _ (λ snapshot e. map_of-whole snapshot c.args.plain (delta_view c.in_ok-changes.field-0, e, c.in_ok-changes.ensures)) c.lone.ensures
