use Rattle.std.proofs.Common.{ℕ, List, ◌++◌, Err, refl, ap, ◌∙◌}
use Rattle.gas_store.specs.declared.stop.StoreStop.{StoreStop}
use Rattle.gas_store.specs.Effects.{Does, store_in}
use Rattle.gas_store.specs.Store.{erase}
use Rattle.gas_store.proofs.Steps.{out_of_gas, erase_refused, erase_does, erase_stops}
use Rattle.gas_store.proofs.scoped.Scoped.remove.Goals as goal

pub returns-then-self-clause-step : goal.returns-then-self-clause-step
returns-then-self-clause-step g c = λ maps stands.
    let scoped = c.args.self.now in
    (maps.current, stands, λ place other. refl, erase_refused scoped.read_only c.args.costs.now c.args.key.now (store_in maps.current scoped c.args.meter.now) c.if-self.true)

pub returns-in-Ok-clause-step : goal.returns-in-Ok-clause-step
returns-in-Ok-clause-step g c =
    let scoped = c.args.self.now in
    let key = c.args.key.now in
    let at = c.in_ok-place.ensures ∙ ap (λ (p : List ℕ). p ++ key) c.deref.ensures.value in
    erase_does g.B.Base.stands_for c.args.layers.now c.remove.new.self scoped c.args.meter.now c.charge.new.meter c.args.costs.now key c.in_ok-place.place.items c.if-self.false at
    (rw c.deref-in-Ok.ensures.value at c.in_ok-remove-in-Ok.ensures.ok) (rw c.from.ensures at c.in-Ok.ensures.ok.0) (rw c.from.ensures at c.in-Ok.ensures.ok.1)

pub returns-clause-step : goal.returns-clause-step
returns-clause-step g c =
    let scoped = c.args.self.now in
    out_of_gas (λ (stop : StoreStop). Does g.B.Base.stands_for c.args.layers.now c.args.layers.now scoped scoped c.args.meter.now c.charge.new.meter (erase scoped.read_only c.args.costs.now c.args.key.now) (Err stop)) c.in-Err.stop
    c.in-Err.ensures.err.0
    (erase_stops g.B.Base.stands_for c.args.layers.now scoped c.args.meter.now c.charge.new.meter c.args.costs.now c.args.key.now c.if-self.false (rw c.from.ensures at c.in-Err.ensures.err.1) c.in-Err.ensures.err.2)
