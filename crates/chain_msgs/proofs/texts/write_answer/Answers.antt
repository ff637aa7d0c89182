use Rattle.chain_msgs.specs.Texts.{answer_text}
use Rattle.chain_msgs.specs.Plain.{answer_view}
use Rattle.chain_msgs.proofs.Whole.{written, answer_whole}
use Rattle.chain_msgs.proofs.texts.write_answer.Goals as goal

pub returns : goal.returns
unfolding answer_text
returns c = written c.write_json.result _ _ c.write_json.ensures.text c.in_ok-value.ensures (answer_whole (answer_view c.args.answer.now))
