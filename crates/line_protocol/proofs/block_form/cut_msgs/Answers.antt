use Rattle.std.proofs.Common.{codes}
use Rattle.std.proofs.lemmas.Result.{IfOk-weaker}
use Rattle.serde_json.specs.View.{view}
use Rattle.json_shapes.specs.Shapes.{items, field}
use Rattle.line_protocol.proofs.Cuts.{reads_values, payer_same, sender_is_not_msgs, gas_is_not_msgs}
use Rattle.line_protocol.proofs.block_form.cut_msgs.Goals as goal

pub returns-clause-msgs : goal.returns-clause-msgs
returns-clause-msgs c = reads_values c.take_list.result (field (codes "msgs") items (view c.args.value)) c.take_list.ensures.list

pub returns-clause-payer : goal.returns-clause-payer
returns-clause-payer c =
    IfOk-weaker c.take_list.result _ _ (λ cut others. payer_same (view c.args.value) (view cut.1) (others (codes "sender") sender_is_not_msgs) (others (codes "gas") gas_is_not_msgs)) c.take_list.ensures.others
