use Rattle.std.proofs.Common.{ap, ◌∙◌}
use Rattle.std.specs.Ordering.{is_eq}
use Rattle.std.proofs.lemmas.Bool.Decides.{Decides-eqb}
use Rattle.std.proofs.lemmas.Slice.Eq.{slice_eq-Decides}
use Rattle.kv_layers.specs.Bytes.{bytes_cmp}
use Rattle.state_runs.proofs.Keys.{same_test}
use Rattle.state_runs.proofs.run.is_at.Goals as goal

pub returns : goal.returns
returns c =
    same_test c.as_slice.result.now c.args.key.now c.eq.result (slice_eq-Decides Decides-eqb _ _ _ c.eq.ensures)
    ∙ ap (λ k. is_eq (bytes_cmp c.args.key.now k)) c.as_slice.ensures.value
