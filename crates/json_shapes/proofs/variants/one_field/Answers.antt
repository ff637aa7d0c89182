use Rattle.std.proofs.Common.{◌≡◌, length, sym, ap, ◌∙◌, arith}
use Rattle.serde_json.proofs.Views.{view-Object}
use Rattle.serde_json.specs.View.{view}
use Rattle.json_shapes.specs.Json.{variant_of}
use Rattle.json_shapes.proofs.Objects.{variant_none, variant_some}
use Rattle.json_shapes.proofs.variants.one_field.Goals as goal

pub returns-then-count-ne1 : goal.returns-then-count-ne1
returns-then-count-ne1 c =
    let m = c.in-Object.members in
    let size : c.len-count.result ≡ length m.entries = c.len-count.ensures.len in
    sym (ap (λ v. variant_of (view v)) c.in-Object.is ∙ ap variant_of (view-Object m) ∙ variant_none m.entries (λ one. omega arith))

pub returns-in-Some : goal.returns-in-Some
returns-in-Some c =
    let m = c.in-Object.members in
    let size : c.len-count.result ≡ length m.entries = c.len-count.ensures.len in
    sym (ap (λ v. variant_of (view v)) c.in-Object.is ∙ ap variant_of (view-Object m)
    ∙ variant_some m.entries c.in-Some.name.now c.in-Some.inner.now _ (omega arith) c.in-Some.ensures.first c.as_str.ensures.value)
