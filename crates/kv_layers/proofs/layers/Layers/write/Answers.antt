use Rattle.std.proofs.Common.{◌≡◌, ◌∙◌, sym, refl, eq-eqb, arith, length, reverse, true≢false}
use Rattle.std.proofs.lemmas.List.{length-reverse}
use Rattle.kv_layers.proofs.Changes.{Piles-upper, Turns-unchanged, on_err}
use Rattle.kv_layers.proofs.layers.Layers.write.Goals as goal

pub returns-in_err-insert-clause-err : goal.returns-in_err-insert-clause-err
returns-in_err-insert-clause-err g c = on_err _ (Turns-unchanged g.B.Base.stands_for c.args.self.now _ refl refl c.in_err-insert.ensures.err)

pub returns-in_ok-insert-clause-ok : goal.returns-in_ok-insert-clause-ok
returns-in_ok-insert-clause-ok g c = λ maps s.
    let old = c.args.self.now in
    let some = λ (none : length (reverse old.below.items) ≡ 0). true≢false (sym (eq-eqb _ 0 (omega (arith, old.below.ok.0, length-reverse old.below.items))) ∙ sym c.if-is_empty.ensures) in
    record {
      of_base = s.of_base;
      piled = Piles-upper maps.base old.newest c.insert.new.self (reverse old.below.items) maps.current maps.saved c.args.key.items c.args.change some c.in_ok-insert.ensures.updates s.piled;
    }
