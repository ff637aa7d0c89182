use Rattle.coin_amounts.proofs.Laws.{read_are_lawful}
use Rattle.coin_amounts.proofs.read.coins_are_lawful.Goals as goal

pub returns : goal.returns
returns c = read_are_lawful
