use Rattle.std.proofs.lemmas.List.{drop-set-add}
use Rattle.wasm_machine.specs.Piles.{span}
use Rattle.wasm_machine.proofs.pile.Pile.set.Goals as goal

pub returns-clause-span : goal.returns-clause-span
unfolding span
returns-clause-span g c = drop-set-add c.args.self.now.floor c.args.self.now.items.items c.args.i c.args.item
