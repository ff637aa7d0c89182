use Rattle.std.proofs.Common.{◌≡◌, ◌∙◌, ap, reverse, length, arith}
use Rattle.std.proofs.lemmas.List.{reverse-reverse}
use Rattle.wasm_machine.proofs.Piles.{raised_span, raised_rest}
use Rattle.wasm_machine.specs.Piles.{below, span}
use Rattle.wasm_machine.proofs.pile.Pile.raise_over.Goals as goal

pub returns-clause-rest : goal.returns-clause-rest
unfolding below span
returns-clause-rest g c =
    let size : c.len.result ≡ length c.args.self.now.items.items = omega (arith, c.len.ensures, c.args.self.now.items.ok.0) in
    rw size (raised_rest c.args.self.now.items.items c.args.self.now.floor c.args.count c.args.self.now.raised c.requires)

pub returns-clause-own : goal.returns-clause-own
unfolding below span
returns-clause-own g c =
    let size : c.len.result ≡ length c.args.self.now.items.items = omega (arith, c.len.ensures, c.args.self.now.items.ok.0) in
    rw size (ap reverse (raised_span c.args.self.now.items.items c.args.self.now.floor c.args.count c.args.self.now.raised c.requires) ∙ reverse-reverse _)

pub returns-clause-span : goal.returns-clause-span
unfolding below span
returns-clause-span g c =
    let size : c.len.result ≡ length c.args.self.now.items.items = omega (arith, c.len.ensures, c.args.self.now.items.ok.0) in
    rw size (raised_span c.args.self.now.items.items c.args.self.now.floor c.args.count c.args.self.now.raised c.requires)
