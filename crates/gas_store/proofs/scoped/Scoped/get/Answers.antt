use Rattle.std.proofs.Common.{◌+◌, ◌*◌, ℕ, List, ◌++◌, length, Err, refl, ap, ◌∙◌}
use Rattle.kv_layers.specs.Plain.{value_view}
use Rattle.gas_store.specs.declared.stop.StoreStop.{StoreStop}
use Rattle.gas_store.specs.Effects.{Does}
use Rattle.gas_store.specs.Store.{read}
use Rattle.gas_store.proofs.Steps.{out_of_gas, read_does, read_stops}
use Rattle.gas_store.proofs.scoped.Scoped.get.Goals as goal

pub returns-in-Ok-clause-step : goal.returns-in-Ok-clause-step
returns-in-Ok-clause-step g c =
    let scoped = c.args.self.now in
    let key = c.args.key.now in
    let value = value_view c.in_ok-value.value in
    let at = c.in_ok-place.ensures ∙ ap (λ (p : List ℕ). p ++ key) c.deref.ensures.value in
    let cost = c.cost_of.ensures ∙ ap (λ (n : ℕ). c.args.costs.now.db_read + 3 * (length key + n)) c.size_of.ensures in
    read_does g.B.Base.stands_for c.args.layers.now scoped c.args.meter.now c.charge.new.meter c.args.costs.now key c.in_ok-place.place.items value c.cost_of.result at
    (λ maps stands. rw c.deref-2.ensures.value at (c.in_ok-value.ensures maps.current (maps, stands, refl))) cost c.in-Ok.ensures.ok.0 c.in-Ok.ensures.ok.1

pub returns-clause-step : goal.returns-clause-step
returns-clause-step g c =
    let scoped = c.args.self.now in
    let key = c.args.key.now in
    let value = value_view c.in_ok-value.value in
    let at = c.in_ok-place.ensures ∙ ap (λ (p : List ℕ). p ++ key) c.deref.ensures.value in
    let cost = c.cost_of.ensures ∙ ap (λ (n : ℕ). c.args.costs.now.db_read + 3 * (length key + n)) c.size_of.ensures in
    out_of_gas (λ (stop : StoreStop). Does g.B.Base.stands_for c.args.layers.now c.args.layers.now scoped scoped c.args.meter.now c.charge.new.meter (read c.args.costs.now key) (Err stop)) c.in-Err.stop c.in-Err.ensures.err.0
    (read_stops g.B.Base.stands_for c.args.layers.now scoped c.args.meter.now c.charge.new.meter c.args.costs.now key c.in_ok-place.place.items value c.cost_of.result at
    (λ maps stands. rw c.deref-2.ensures.value at (c.in_ok-value.ensures maps.current (maps, stands, refl))) cost c.in-Err.ensures.err.1 c.in-Err.ensures.err.2)
