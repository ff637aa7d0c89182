use Rattle.std.proofs.Common.{◌≡◌, sym, ◌∙◌, ap, refl, true≢false, length, reverse}
use Rattle.std.specs.FinMap.{get}
use Rattle.std.proofs.lemmas.List.{length-reverse}
use Rattle.kv_layers.proofs.Changes.{Piles-lowest, Piles-same}
use Rattle.kv_layers.proofs.layers.Layers.write_lowest.Goals as goal

pub returns-then-are_same-clause-ok : goal.returns-then-are_same-clause-ok
returns-then-are_same-clause-ok g c = λ maps s.
    let old = c.args.self.now in
    let none : length (reverse old.below.items) ≡ 0 = length-reverse old.below.items ∙ c.requires in
    let had = ap (get maps.base) (sym c.deref.ensures.value) ∙ sym (c.in_ok-had.ensures maps.base s.of_base) ∙ c.if-are_same.ensures.0 refl in
    let updates = rw c.as_slice.ensures.value at c.remove.ensures.updates in
    record {
      of_base = s.of_base;
      piled = Piles-same maps.base old.newest c.remove.new.self (reverse old.below.items) maps.current maps.saved c.args.key.items _ none updates had s.piled;
    }

pub returns-clause-ok : goal.returns-clause-ok
returns-clause-ok g c = λ maps s.
    let old = c.args.self.now in
    let none : length (reverse old.below.items) ≡ 0 = length-reverse old.below.items ∙ c.requires in
    let had = ap (get maps.base) (sym c.deref.ensures.value) ∙ sym (c.in_ok-had.ensures maps.base s.of_base) in
    record {
      of_base = s.of_base;
      piled = Piles-lowest maps.base old.newest c.insert.new.self (reverse old.below.items) maps.current maps.saved c.args.key.items c.args.change none
          c.in_ok-insert.ensures.updates (λ is. true≢false (sym (c.if-are_same.ensures.1 (sym had ∙ is)))) s.piled;
    }
