use Rattle.serde_json.specs.View.{view}
use Rattle.chain_msgs.specs.Messages.{tx_msg_view}
use Rattle.submsg_dispatch.proofs.Refusing.{after_form, no_form}
use Rattle.submsg_dispatch.proofs.turns.read_and_handle.Goals as goal

pub returns-in-Ok-clause-leads : goal.returns-in-Ok-clause-leads
returns-in-Ok-clause-leads g c = after_form c.args.costs.now c.args.sender.now c.args.index (view c.args.value.now) (tx_msg_view c.in-Ok.msg) c.in-Ok.ensures c.handle_tx_msg.ensures.leads

pub returns-in-Err-clause-leads : goal.returns-in-Err-clause-leads
returns-in-Err-clause-leads g c = no_form _ c.in-Err.stop c.message_stop.result c.args.costs.now c.args.sender.now c.args.index (view c.args.value.now) c.in-Err.ensures c.message_stop.ensures
