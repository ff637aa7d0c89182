use Rattle.std.proofs.Common.{map}
use Rattle.coin_amounts.specs.Coins.{coins_view}
use Rattle.coin_amounts.specs.Plain.{raw_coin_view}
use Rattle.block_runner.proofs.holdings.coins_of.Goals as goal

pub returns-in-Ok-clause-denoms : goal.returns-in-Ok-clause-denoms
returns-in-Ok-clause-denoms c = (c.coins_are_lawful.ensures (map raw_coin_view c.args.list.now) (coins_view c.in-Ok.coins) c.in-Ok.ensures.ok).denoms
