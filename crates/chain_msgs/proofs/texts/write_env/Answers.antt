use Rattle.chain_msgs.specs.Texts.{env_text}
use Rattle.chain_msgs.specs.Messages.{env_view}
use Rattle.chain_msgs.proofs.Whole.{written, env_whole}
use Rattle.chain_msgs.proofs.texts.write_env.Goals as goal

pub returns : goal.returns
unfolding env_text
returns c = written c.write_json.result _ _ c.write_json.ensures.text c.in_ok-value.ensures (env_whole (env_view c.args.env.now))
