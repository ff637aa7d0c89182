use Rattle.std.proofs.Common.{ℕ, Option, ◌+◌, sym, ◌∙◌, ap, subst, reverse}
use Rattle.std.specs.Global.{Vec}
use Rattle.std.proofs.lemmas.Map.Iter.{rest_all, rest_more}
use Rattle.kv_layers.specs.Changes.{with_change}
use Rattle.kv_layers.specs.Layers.{Stands, Piles}
use Rattle.kv_layers.specs.Maps.{changed, kept, others}
use Rattle.kv_layers.specs.Plain.{value_view}
use Rattle.kv_layers.proofs.Keeping.{IsRising, LeftTo, IsRising-rest, LeftTo-rest, LeftTo-end, LeftTo-layer, reverse-popped, length-popped}
use Rattle.kv_layers.proofs.layers.Layers.keep_layer.Goals as goal

pub loop-key-init : goal.loop-key-init
loop-key-init g c =
    let old = c.args.self.now in
    let entries = c.into_iter-key-iterator.ensures.into_iter_gives in
    let taken = c.replace-upper.ensures.value in
    record {
      depth = length-popped old.below.items c.pop.new.self.items c.pop.result c.unwrap-below.result c.pop.ensures.items c.unwrap-below.ensures;
      rising = subst IsRising (sym entries.0) entries.5;
      maps = λ maps s.
          let layers = reverse-popped old.below.items c.pop.new.self.items c.pop.result c.unwrap-below.result c.pop.ensures.items c.unwrap-below.ensures in
          let piles = subst (λ ls. Piles maps.base old.newest ls maps.current maps.saved) layers s.piled in
          let under = LeftTo-layer maps.base old.newest c.unwrap-below.result (reverse c.pop.new.self.items) maps.current maps.saved piles in (
            under.0,
            record {
              of_base = s.of_base;
              piled = subst (λ layer. Piles maps.base layer (reverse c.pop.new.self.items) under.0 (others maps.saved)) (sym c.replace-upper.ensures.after)
                  (subst (λ saved. Piles maps.base c.unwrap-below.result (reverse c.pop.new.self.items) under.0 (others saved)) (sym under.2) under.3);
            },
            subst (λ es. LeftTo es under.0 maps.current) (sym (entries.0 ∙ ap (λ layer. layer.entries) taken)) under.4,
          );
    }

pub loop-key-preserved : goal.loop-key-preserved
loop-key-preserved g c =
    let change : Vec ℕ × Option (Vec ℕ) = (c.in-Some.key, c.in-Some.change) in
    let step = rest_more (λ p. p) c.loop-key.key-iterator c.next.new.self c.next.result change c.in-Some.is c.next.ensures.steps in
    let rising = subst IsRising step c.loop-key.invariant.rising in
    record {
      depth = ap (λ n. n + 1) c.in_ok-write.ensures.depth ∙ c.loop-key.invariant.depth;
      rising = IsRising-rest change c.next.new.self rising;
      maps = λ maps s.
          let before = c.loop-key.invariant.maps maps s in (
            with_change before.0 c.in-Some.key.items (value_view c.in-Some.change),
            c.in_ok-write.ensures.ok _ before.1,
            LeftTo-rest c.in-Some.key c.in-Some.change c.next.new.self before.0 maps.current rising (subst (λ es. LeftTo es before.0 maps.current) step before.2),
          );
    }

pub returns-clause-ok : goal.returns-clause-ok
returns-clause-ok g c = λ maps s.
    let none = rest_all (λ p. p) c.loop-key.key-iterator c.next.new.self c.next.result c.in-None.is c.next.ensures.steps in
    let after = c.loop-key.invariant.maps maps s in
    let same = LeftTo-end after.0 maps.current (subst (λ es. LeftTo es after.0 maps.current) none after.2) in
    subst (λ map. Stands g.B.Base.stands_for c.loop-key.self (changed (kept maps) map)) (sym same) after.1
