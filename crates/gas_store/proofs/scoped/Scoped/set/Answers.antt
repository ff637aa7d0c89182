use Rattle.std.proofs.Common.{ℕ, List, ◌++◌, Err, refl, sym, ap, ◌∙◌}
use Rattle.gas_store.specs.declared.stop.StoreStop.{StoreStop}
use Rattle.gas_store.specs.Effects.{Does, store_in}
use Rattle.gas_store.specs.Store.{write}
use Rattle.gas_store.proofs.Steps.{out_of_gas, write_refused, write_empty, write_does, write_stops}
use Rattle.gas_store.proofs.scoped.Scoped.set.Goals as goal

pub returns-then-self-clause-step : goal.returns-then-self-clause-step
returns-then-self-clause-step g c = λ maps stands.
    let scoped = c.args.self.now in
    (maps.current, stands, λ place other. refl, write_refused scoped.read_only c.args.costs.now c.args.key.now c.args.value.now (store_in maps.current scoped c.args.meter.now) c.if-self.true)

pub returns-then-is_empty-clause-step : goal.returns-then-is_empty-clause-step
returns-then-is_empty-clause-step g c = λ maps stands.
    let scoped = c.args.self.now in
    (maps.current, stands, λ place other. refl, write_empty scoped.read_only c.args.costs.now c.args.key.now c.args.value.now (store_in maps.current scoped c.args.meter.now) c.if-self.false (sym c.if-is_empty.ensures))

pub returns-in-Ok-clause-step : goal.returns-in-Ok-clause-step
returns-in-Ok-clause-step g c =
    let scoped = c.args.self.now in
    let key = c.args.key.now in
    let at = c.in_ok-place.ensures ∙ ap (λ (p : List ℕ). p ++ key) c.deref.ensures.value in
    write_does g.B.Base.stands_for c.args.layers.now c.set.new.self scoped c.args.meter.now c.charge.new.meter c.args.costs.now key c.args.value.now c.in_ok-place.place.items c.cost_of.result c.if-self.false (sym c.if-is_empty.ensures) at
    (rw c.deref-in-Ok.ensures.value at c.in_ok-set-in-Ok.ensures.ok) c.cost_of.ensures c.in-Ok.ensures.ok.0 c.in-Ok.ensures.ok.1

pub returns-clause-step : goal.returns-clause-step
returns-clause-step g c =
    let scoped = c.args.self.now in
    out_of_gas (λ (stop : StoreStop). Does g.B.Base.stands_for c.args.layers.now c.args.layers.now scoped scoped c.args.meter.now c.charge.new.meter (write scoped.read_only c.args.costs.now c.args.key.now c.args.value.now) (Err stop)) c.in-Err.stop
    c.in-Err.ensures.err.0
    (write_stops g.B.Base.stands_for c.args.layers.now scoped c.args.meter.now c.charge.new.meter c.args.costs.now c.args.key.now c.args.value.now c.cost_of.result c.if-self.false (sym c.if-is_empty.ensures) c.cost_of.ensures c.in-Err.ensures.err.1
    c.in-Err.ensures.err.2)
