use Rattle.wasm_machine.proofs.Piles.{lowered_span}
use Rattle.wasm_machine.specs.Piles.{below, span}
use Rattle.wasm_machine.proofs.pile.Pile.reset.Goals as goal

pub returns-clause-span : goal.returns-clause-span
unfolding below span
returns-clause-span g c = rw c.min-self.ensures (lowered_span c.args.self.now.items.items c.args.self.now.floor c.args.floor c.args.self.now.raised)
