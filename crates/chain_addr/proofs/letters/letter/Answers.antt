use Rattle.std.proofs.Common.{refl}
use Rattle.chain_addr.specs.Letters.{letters}
use Rattle.chain_addr.proofs.Lettering.{all_ascii}
use Rattle.chain_addr.proofs.letters.letter.Goals as goal

pub returns-clause-ascii : goal.returns-clause-ascii
returns-clause-ascii c = all_ascii letters c.from.result refl
