use Rattle.std.proofs.Common.{sym, ◌∙◌}
use Rattle.json_shapes.proofs.Texts.{json_some, json_stopped}
use Rattle.json_shapes.proofs.json.read_json.Goals as goal

pub returns-in-Err : goal.returns-in-Err
returns-in-Err c =
    json_stopped c.args.bytes.now c.is_memory.result c.json_stop.result c.json_stop.ensures
    (λ other. c.in-Err.ensures.err (λ memory. other (c.is_memory.ensures.1 memory)))

pub returns-then-has_float : goal.returns-then-has_float
returns-then-has_float c =
    (_, json_some c.args.bytes.now _ c.in-Ok.ensures.ok.0 c.in-Ok.ensures.ok.1, sym c.has_float.ensures ∙ c.if-has_float.true)

pub returns : goal.returns
returns c =
    (json_some c.args.bytes.now _ c.in-Ok.ensures.ok.0 c.in-Ok.ensures.ok.1, sym c.has_float.ensures ∙ c.if-has_float.false)
