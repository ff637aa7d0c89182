use Rattle.std.proofs.Common.{ap, ◌∙◌}
use Rattle.chain_addr.specs.Reading.{mixed_after}
use Rattle.chain_addr.proofs.characters.mixed_letter.Goals as goal

pub returns-in-Some : goal.returns-in-Some
returns-in-Some c = c.mixed_after.ensures ∙ ap (mixed_after c.args.text.now) c.in-Some.ensures

pub returns-in-None : goal.returns-in-None
returns-in-None c = ap (mixed_after c.args.text.now) c.in-None.ensures
