use Rattle.std.proofs.Common.{◌≡◌, ◌+◌, ◌*◌, ◌<◌, ◌≤◌, ℕ, length, get_or, set, Ok, Err, refl, sym, ap, ◌∙◌, subst, arith}
use Rattle.std.proofs.lemmas.List.{get_or-map, length-map}
use Rattle.gas_meter.specs.Costs.{next_cost}
use Rattle.gas_meter.specs.Gas.{spent}
use Rattle.kv_layers.specs.Bytes.{Bytes}
use Rattle.kv_layers.specs.Layers.{Stands}
use Rattle.kv_layers.specs.Maps.{Maps, changed}
use Rattle.gas_store.specs.Scans.{Scan, narrowed}
use Rattle.gas_store.specs.Storage.{storage_of, HasOthers}
use Rattle.gas_store.specs.declared.stop.StoreStop.{StoreStop}
use Rattle.gas_store.specs.Effects.{store_in}
use Rattle.gas_store.specs.Store.{next, entry_bytes}
use Rattle.gas_store.specs.Views.{scan_view, scans_of, addr_of, entries_view}
use Rattle.gas_store.proofs.Steps.{out_of_gas}
use Rattle.gas_store.proofs.Advances.{next_paid, next_unpaid, next_none}
use Rattle.gas_store.proofs.scoped.Scoped.next.Goals as goal

pub returns-in_default-clause-step : goal.returns-in_default-clause-step
returns-in_default-clause-step g c = λ maps stands.
    (maps.current, stands, λ place other. refl, next_none c.args.costs.now c.args.scan (store_in maps.current c.args.self.now c.args.meter.now) c.in_default.ensures)

pub returns-in_ok-narrow_scan-in-Ok-clause-step : goal.returns-in_ok-narrow_scan-in-Ok-clause-step
returns-in_ok-narrow_scan-in-Ok-clause-step g c = λ maps stands.
    let scoped = c.args.self.now in
    let costs = c.args.costs.now in
    let index = c.in-Some.index in
    let scan = scan_view c.index.result.now in
    let found = entries_view c.in_ok-found.found in
    let within : index < length scoped.scans.items = omega (arith, c.in-Some.ensures.1, length-map scoped.scans.items scan_view) in
    let at : scan ≡ get_or (scans_of scoped) index scan = ap scan_view c.index.ensures ∙ sym (get_or-map scan_view scoped.scans.items index c.index.result.now scan within) in
    let cost : c.cost_of.result ≡ next_cost costs (entry_bytes found) = c.cost_of.ensures ∙ ap (λ (n : ℕ). costs.db_next + 3 * n) c.sizes_of-key.ensures in
    let first = rw c.deref.ensures.value at (c.in_ok-found.ensures maps.current (maps, stands, refl)) in
    let new = c.in_ok-narrow_scan-in-Ok.ensures.scans scan ∙ ap (λ (s : Scan). set (scans_of scoped) index (narrowed s found)) (sym at) in (
      maps.current,
      stands,
      λ place other. refl,
      next_paid costs c.args.scan index (store_in maps.current scoped c.args.meter.now) scan found (scans_of c.narrow_scan.new.self) c.charge.new.meter c.in-Some.ensures.0 c.in-Some.ensures.1 at first new
          (subst (λ (n : ℕ). n ≤ c.args.meter.now.left) cost c.in-Ok.ensures.ok.0) (c.in-Ok.ensures.ok.1 ∙ ap (spent c.args.meter.now) cost)
          ∙ (λ i. (Ok found, record { storage = storage_of maps.current (sym c.in_ok-narrow_scan-in-Ok.ensures.scope.addr i); scans = scans_of c.narrow_scan.new.self; gas = c.charge.new.meter })),
    )

pub returns-in-Err-clause-step : goal.returns-in-Err-clause-step
returns-in-Err-clause-step g c =
    let scoped = c.args.self.now in
    let costs = c.args.costs.now in
    let index = c.in-Some.index in
    let scan = scan_view c.index.result.now in
    let found = entries_view c.in_ok-found.found in
    let within : index < length scoped.scans.items = omega (arith, c.in-Some.ensures.1, length-map scoped.scans.items scan_view) in
    let at : scan ≡ get_or (scans_of scoped) index scan = ap scan_view c.index.ensures ∙ sym (get_or-map scan_view scoped.scans.items index c.index.result.now scan within) in
    let cost : c.cost_of.result ≡ next_cost costs (entry_bytes found) = c.cost_of.ensures ∙ ap (λ (n : ℕ). costs.db_next + 3 * n) c.sizes_of-key.ensures in
    out_of_gas
    (λ (stop : StoreStop). (maps : Maps) → Stands g.B.Base.stands_for c.args.layers.now maps
    → (map : Bytes) × Stands g.B.Base.stands_for c.args.layers.now (changed maps map) × HasOthers (addr_of scoped) maps.current map × (next costs c.args.scan (store_in maps.current scoped c.args.meter.now) ≡ (Err stop, store_in map scoped c.charge.new.meter)))
    c.in-Err.stop c.in-Err.ensures.err.0 (λ maps stands.
    let first = rw c.deref.ensures.value at (c.in_ok-found.ensures maps.current (maps, stands, refl)) in (
      maps.current,
      stands,
      λ place other. refl,
      next_unpaid costs c.args.scan index (store_in maps.current scoped c.args.meter.now) scan found c.charge.new.meter c.in-Some.ensures.0 c.in-Some.ensures.1 at first (subst (λ (n : ℕ). c.args.meter.now.left < n) cost c.in-Err.ensures.err.1)
          c.in-Err.ensures.err.2,
    ))
