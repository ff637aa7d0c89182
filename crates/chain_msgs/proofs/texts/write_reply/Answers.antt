use Rattle.chain_msgs.specs.Texts.{reply_text}
use Rattle.chain_msgs.specs.Messages.{reply_view}
use Rattle.chain_msgs.proofs.Whole.{written, reply_whole}
use Rattle.chain_msgs.proofs.texts.write_reply.Goals as goal

pub returns : goal.returns
unfolding reply_text
returns c = written c.write_json.result _ _ c.write_json.ensures.text c.in_ok-value.ensures (reply_whole (reply_view c.args.reply.now))
