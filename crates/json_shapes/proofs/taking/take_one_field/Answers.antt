use Rattle.std.proofs.Common.{sym, ap, ◌∙◌}
use Rattle.serde_json.proofs.Views.{view-Object}
use Rattle.serde_json.specs.View.{view}
use Rattle.json_shapes.specs.Json.{variant_of}
use Rattle.json_shapes.proofs.Objects.{variant_none, variant_first}
use Rattle.json_shapes.proofs.taking.take_one_field.Goals as goal

pub returns-then-len-ne1-clause-named : goal.returns-then-len-ne1-clause-named
returns-then-len-ne1-clause-named c =
    let m = c.in-Object.members in
    sym (ap (λ v. variant_of (view v)) c.in-Object.is ∙ ap variant_of (view-Object m) ∙ variant_none m.entries (λ one. c.if-len-ne1.true (c.len.ensures.len ∙ one)))

pub returns-in-Some-clause-named : goal.returns-in-Some-clause-named
returns-in-Some-clause-named c =
    let m = c.in-Object.members in
    sym (ap (λ v. variant_of (view v)) c.in-Object.is ∙ ap variant_of (view-Object m)
    ∙ variant_first m.entries _ (c.in-Some.name, c.in-Some.inner) (sym c.len.ensures.len ∙ c.if-len-ne1.false) c.in-Some.ensures.removal)
