use Rattle.std.proofs.Common.{codes, option_map, Ok, sym, ap, ◌∙◌}
use Rattle.serde_json.specs.Written.{compact_text}
use Rattle.serde_json.specs.View.{view}
use Rattle.json_shapes.specs.Shapes.{within, field_step, found}
use Rattle.json_shapes.specs.declared.stop.Want.TheVariants.{Variant}
use Rattle.line_protocol.proofs.Objects.{found_whole}
use Rattle.line_protocol.proofs.line_form.request_at.Goals as goal

pub returns-in_ok-write_json-in-Some : goal.returns-in_ok-write_json-in-Some
returns-in_ok-write_json-in-Some c =
    let request = sym c.in-Some.ensures in
    let whole = found_whole (codes "request") (view c.args.value.now) _ c.requires request in
    ap (λ o. within (field_step (codes "request")) (found Variant (option_map compact_text o))) request ∙ ap Ok (sym (c.in_ok-write_json-in-Some.ensures.text whole))
