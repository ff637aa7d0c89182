use Rattle.chain_msgs.specs.Texts.{info_text}
use Rattle.coin_amounts.specs.Coins.{coins_view}
use Rattle.chain_msgs.proofs.Whole.{written, info_whole}
use Rattle.chain_msgs.proofs.texts.write_info.Goals as goal

pub returns : goal.returns
unfolding info_text
returns c = written c.write_json.result _ _ c.write_json.ensures.text c.in_ok-value.ensures (info_whole c.args.sender.now (coins_view c.args.funds.now))
