use Rattle.coin_amounts.specs.Coins.{coins_view}
use Rattle.query_router.proofs.Whole.{text_of_whole, coins_whole}
use Rattle.query_router.proofs.answers.coins_answer.Goals as goal

pub returns : goal.returns
returns c = text_of_whole c.written.result _ _ c.written.ensures c.in_ok-value.ensures (coins_whole (coins_view c.args.coins.now))
