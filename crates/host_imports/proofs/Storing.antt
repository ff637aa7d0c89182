-- Steps on what a contract keeps and on its scans.
use Rattle.std.proofs.Common.{◌≡◌, ◌+◌, ◌-◌, Bool, true, false, nat_lt, refl, sym, ◌∙◌, ap, ℕ, List, [], ◌∷◌, ◌++◌, length, Option, Some, None, Result, Ok, Err}
use Rattle.std.specs.Prelude.{if◌then◌else◌, slice_set}
use Rattle.std.specs.FinMap.{get, insert, remove}
use Rattle.gas_meter.specs.declared.schedule.Schedule.{Schedule}
use Rattle.gas_meter.specs.Costs.{read_cost, write_cost, scan_cost, next_cost}
use Rattle.gas_meter.specs.Gas.{Gas, unused, spent, exhausted}
use Rattle.kv_layers.specs.declared.layers.Layers.{Layers}
use Rattle.kv_layers.specs.declared.order.Order.{Order}
use Rattle.kv_layers.specs.Bytes.{Bytes}
use Rattle.kv_layers.specs.Maps.{Maps}
use Rattle.gas_store.specs.declared.scoped.Scoped.{Scoped}
use Rattle.gas_store.specs.declared.stop.StoreStop.{StoreStop}
use Rattle.gas_store.specs.declared.stop.StoreStop.TheVariants as refusals
use Rattle.gas_store.specs.Effects as effects
use Rattle.gas_store.specs.Scans.{Scan, next_of, narrowed}
use Rattle.gas_store.specs.Storage.{storage_of}
use Rattle.gas_store.specs.Store.{Store, Step, refused, charged, is_nothing, too_many, bytes_in, entry_bytes, numbered, advance, read, write, erase, start, next}
use Rattle.gas_store.specs.Views.{addr_of, scans_of}
use Rattle.wasm_machine.specs.declared.machine.Machine.{Machine}
use Rattle.host_imports.specs.Faults.{write_in_query, empty_value, no_such_scan, too_many_scans}
use Rattle.host_imports.specs.Imports.{store_at, refusal, took, stored}
use Rattle.host_imports.specs.Parts.{Scanned, Scans, Does}
use Rattle.host_imports.specs.Reaching.{IsAt, IsLeft, Holds, Reaches}
use Rattle.host_imports.specs.Refusals.{stop_at}
use Rattle.host_imports.specs.Work.{Place, Ended, faulted, ran_out, Ran, ends, done}
use Rattle.host_imports.proofs.Works.{reach_along, scanned_along}

-- ---- what was used of the gas before changes nothing

-- a step's answer, and what is there afterwards, but for what was used of the gas
abbrev Outcome : Type 0 → Type 0
Outcome A = Result A StoreStop × Bytes × List Scan × ℕ

abbrev outcome : {A : Type 0} → Step A → Outcome A
outcome r = (r.0, r.1.storage, r.1.scans, r.1.gas.left)

abbrev store_with : Bytes → List Scan → Gas → Store
store_with storage scans gas = record { storage = storage; scans = scans; gas = gas }

abbrev pub Ignores : {A : Type 0} → (Store → Step A) → Type 0
Ignores step = (storage : Bytes) (scans : List Scan) (gas : Gas) → outcome (step (store_with storage scans gas)) ≡ outcome (step (store_with storage scans (unused gas.left)))

abbrev charged_if : {A : Type 0} → Bool → ℕ → Store → A → Bytes → List Scan → Step A
charged_if short cost store answer storage scans =
    if short then (Err refusals.OutOfGas, record store { gas = exhausted store.gas })
    else (Ok answer, record { storage = storage; scans = scans; gas = spent store.gas cost })

charge_ignores : {A : Type 0} (short : Bool) (cost : ℕ) (storage : Bytes) (scans : List Scan) (gas : Gas) (answer : A) (new : Bytes) (more : List Scan) → outcome (charged_if short cost (store_with storage scans gas) answer new more) ≡ outcome (charged_if short cost (store_with storage scans (unused gas.left)) answer new more)
charge_ignores true cost storage scans gas answer new more = refl
charge_ignores false cost storage scans gas answer new more = refl

pub read_ignores : (costs : Schedule) (key : List ℕ) → Ignores (read costs key)
read_ignores costs key storage scans gas =
    let value = get storage key in
    let cost = read_cost costs (length key + bytes_in value) in
    charge_ignores (nat_lt gas.left cost) cost storage scans gas value storage scans

write_by : (nothing : Bool) (costs : Schedule) (key value : List ℕ) (storage : Bytes) (scans : List Scan) (gas : Gas) → outcome {A = Unit {0}} (if nothing then refused refusals.EmptyValue (store_with storage scans gas) else charged (write_cost costs (length key + length value)) (store_with storage scans gas) tt (insert storage key value) scans) ≡ outcome {A = Unit {0}} (if nothing then refused refusals.EmptyValue (store_with storage scans (unused gas.left)) else charged (write_cost costs (length key + length value)) (store_with storage scans (unused gas.left)) tt (insert storage key value) scans)
write_by true costs key value storage scans gas = refl
write_by false costs key value storage scans gas =
    let cost = write_cost costs (length key + length value) in
    charge_ignores (nat_lt gas.left cost) cost storage scans gas tt (insert storage key value) scans

pub write_ignores : (read_only : Bool) (costs : Schedule) (key value : List ℕ) → Ignores (write read_only costs key value)
write_ignores true costs key value storage scans gas = refl
write_ignores false costs key value storage scans gas = write_by (is_nothing value) costs key value storage scans gas

pub erase_ignores : (read_only : Bool) (costs : Schedule) (key : List ℕ) → Ignores (erase read_only costs key)
erase_ignores true costs key storage scans gas = refl
erase_ignores false costs key storage scans gas = charge_ignores (nat_lt gas.left costs.db_remove) costs.db_remove storage scans gas tt (remove storage key) scans

start_by : (full : Bool) (cost number : ℕ) (scan : Scan) (storage : Bytes) (scans : List Scan) (gas : Gas) → outcome (if full then refused refusals.TooManyScans (store_with storage scans gas) else charged cost (store_with storage scans gas) number storage (scans ++ scan ∷ [])) ≡ outcome (if full then refused refusals.TooManyScans (store_with storage scans (unused gas.left)) else charged cost (store_with storage scans (unused gas.left)) number storage (scans ++ scan ∷ []))
start_by true cost number scan storage scans gas = refl
start_by false cost number scan storage scans gas = charge_ignores (nat_lt gas.left cost) cost storage scans gas number storage (scans ++ scan ∷ [])

pub start_ignores : (costs : Schedule) (lo hi : Option (List ℕ)) (order : Order) → Ignores (start costs lo hi order)
start_ignores costs lo hi order storage scans gas =
    let given = bytes_in lo + bytes_in hi in
    start_by (too_many scans given) (scan_cost costs given) (length scans + 1) (record { lo = lo; hi = hi; order = order; given = given }) storage scans gas

advance_ignores : (costs : Schedule) (number : ℕ) (scan : Option Scan) (storage : Bytes) (scans : List Scan) (gas : Gas) → outcome (advance costs number scan (store_with storage scans gas)) ≡ outcome (advance costs number scan (store_with storage scans (unused gas.left)))
advance_ignores costs number None storage scans gas = refl
advance_ignores costs number (Some scan) storage scans gas =
    let found = next_of storage scan in
    let cost = next_cost costs (entry_bytes found) in
    charge_ignores (nat_lt gas.left cost) cost storage scans gas found storage (slice_set scans (number - 1) (narrowed scan found))

pub next_ignores : (costs : Schedule) (number : ℕ) → Ignores (next costs number)
next_ignores costs number storage scans gas = advance_ignores costs number (numbered scans number) storage scans gas

-- ---- a step that was done

abbrev taken : {A : Type 0} → Outcome A → Place → Ran A
taken (Ok a, storage, scans, left) p = done a (record p { storage = storage; scans = scans; left = left })
taken (Err stop, storage, scans, left) p = ends (refusal stop) (record p { storage = storage; scans = scans; left = left })

took_is : {A : Type 0} (r : Step A) (p : Place) → took r p ≡ taken (outcome r) p
took_is (Ok a, store) p = refl
took_is (Err stop, store) p = refl

stored_is : {A : Type 0} (step : Store → Step A) (p : Place) (storage : Bytes) (scans : List Scan) (gas : Gas) (answer : Result A StoreStop) (store : Store) → Ignores step → p.storage ≡ storage → p.scans ≡ scans → p.left ≡ gas.left → step (store_with storage scans gas) ≡ (answer, store) → stored step p ≡ taken (outcome (answer, store)) p
unfolding stored
stored_is step p storage scans gas answer store ignores same_storage same_scans same_left e =
    let here : store_at p ≡ store_with storage scans (unused gas.left) = λ i. store_with (same_storage i) (same_scans i) (unused (same_left i)) in
    took_is (step (store_at p)) p
    ∙ ap (λ (o : Outcome _). taken o p) (ap (λ (s : Store). outcome (step s)) here ∙ sym (ignores storage scans gas) ∙ ap (λ (r : Step _). outcome r) e)

pub stored_does : {B X A : Type 0} {S : B → Bytes → Type 0} {l0 l1 : Layers B} {s0 s1 : Scoped} {k : Machine} {gas0 gas1 : Gas} {view : X → A} (step : Store → Step A) (x : X) → Ignores step → addr_of s1 ≡ addr_of s0 → effects.Does S l0 l1 s0 s1 gas0 gas1 step (Ok (view x)) → Does S l0 l1 s0 s1 k k gas0.left gas1.left (stored step) view (Ok x)
unfolding done
stored_does {s0 = s0} {s1 = s1} {gas0 = gas0} {gas1 = gas1} {view = view} step x ignores same d = record {
  does = λ maps p at holds.
      let r = d maps holds.stands in
      let so = stored_is step p (storage_of maps.current (addr_of s0)) (scans_of s0) gas0 (Ok (view x)) (effects.store_in r.0 s1 gas1) ignores holds.storage holds.scans at.gas r.3 in
      reach_along so
      (record {
        ended_so = refl;
        machine_left = record { runs = at.runs; acts = at.acts; gas = refl };
        map = r.0;
        holds = record { stands = r.1; storage = refl; scans = refl };
        others = r.2;
        same = same;
      });
}

refused_reaches : {B A : Type 0} {S : B → Bytes → Type 0} {l0 l1 : Layers B} {s0 s1 : Scoped} {k : Machine} (gas0 gas1 : Gas) (step : Store → Step A) (stop : StoreStop) (ended : Ended A) → ((q : Place) → q.left ≡ gas1.left → IsLeft k gas1.left ended q) → refusal stop ≡ ended → Ignores step → addr_of s1 ≡ addr_of s0 → effects.Does S l0 l1 s0 s1 gas0 gas1 step (Err stop) → (maps : Maps) (p : Place) → IsAt k gas0.left p → Holds S l0 maps s0 p → Reaches S l1 maps (addr_of s0) s1 k gas1.left (stored step p) ended
refused_reaches {s0 = s0} {s1 = s1} gas0 gas1 step stop ended left e ignores same d maps p at holds =
    let r = d maps holds.stands in
    let so = stored_is step p (storage_of maps.current (addr_of s0)) (scans_of s0) gas0 (Err stop) (effects.store_in r.0 s1 gas1) ignores holds.storage holds.scans at.gas r.3 in
    reach_along so
    (record {
      ended_so = e;
      machine_left = left (record p { storage = storage_of r.0 (addr_of s1); scans = scans_of s1; left = gas1.left }) refl;
      map = r.0;
      holds = record { stands = r.1; storage = refl; scans = refl };
      others = r.2;
      same = same;
    })

pub refused_does : {B X A : Type 0} {S : B → Bytes → Type 0} {l0 l1 : Layers B} {s0 s1 : Scoped} {k : Machine} {view : X → A} (gas0 gas1 : Gas) (step : Store → Step A) (stop : StoreStop) → Ignores step → addr_of s1 ≡ addr_of s0 → effects.UnlessNoMemory stop (effects.Does S l0 l1 s0 s1 gas0 gas1 step (Err stop)) → Does S l0 l1 s0 s1 k k gas0.left gas1.left (stored step) view (Err (stop_at stop))
refused_does gas0 gas1 step refusals.OutOfGas ignores same d = record { does = refused_reaches gas0 gas1 step refusals.OutOfGas ran_out (λ q e. e) refl ignores same d }
refused_does gas0 gas1 step refusals.WriteInQuery ignores same d = record { does = refused_reaches gas0 gas1 step refusals.WriteInQuery (faulted write_in_query) (λ q e. e) refl ignores same d }
refused_does gas0 gas1 step refusals.EmptyValue ignores same d = record { does = refused_reaches gas0 gas1 step refusals.EmptyValue (faulted empty_value) (λ q e. e) refl ignores same d }
refused_does gas0 gas1 step refusals.NoSuchScan ignores same d = record { does = refused_reaches gas0 gas1 step refusals.NoSuchScan (faulted no_such_scan) (λ q e. e) refl ignores same d }
refused_does gas0 gas1 step refusals.TooManyScans ignores same d = record { does = refused_reaches gas0 gas1 step refusals.TooManyScans (faulted too_many_scans) (λ q e. e) refl ignores same d }
refused_does gas0 gas1 step refusals.NoMemory ignores same d = record { does = λ maps p at holds. tt }

-- ---- a step without layers

pub started_scans : {X A : Type 0} {s0 s1 : Scoped} {k : Machine} {gas0 gas1 : Gas} {view : X → A} (step : Store → Step A) (x : X) → Ignores step → effects.DoesAlone s0 s1 gas0 gas1 step (Ok (view x)) → Scans s0 s1 k k gas0.left gas1.left (stored step) view (Ok x)
unfolding done
started_scans {s0 = s0} {s1 = s1} {gas0 = gas0} {gas1 = gas1} {view = view} step x ignores d = record {
  scans = λ p at scans.
      let so = stored_is step p p.storage (scans_of s0) gas0 (Ok (view x)) (record { storage = p.storage; scans = scans_of s1; gas = gas1 }) ignores refl scans at.gas (d p.storage) in
      scanned_along so (record { ended_so = refl; machine_left = record { runs = at.runs; acts = at.acts; gas = refl }; storage = refl; scans = refl });
}

refused_scanned : {A : Type 0} {s1 : Scoped} {k : Machine} (s0 : Scoped) (gas0 gas1 : Gas) (step : Store → Step A) (stop : StoreStop) (ended : Ended A) → ((q : Place) → q.left ≡ gas1.left → IsLeft k gas1.left ended q) → refusal stop ≡ ended → Ignores step → effects.DoesAlone s0 s1 gas0 gas1 step (Err stop) → (p : Place) → IsAt k gas0.left p → p.scans ≡ scans_of s0 → Scanned s1 k gas1.left p (stored step p) ended
refused_scanned {s1 = s1} s0 gas0 gas1 step stop ended left e ignores d p at scans =
    let so = stored_is step p p.storage (scans_of s0) gas0 (Err stop) (record { storage = p.storage; scans = scans_of s1; gas = gas1 }) ignores refl scans at.gas (d p.storage) in
    scanned_along so (record { ended_so = e; machine_left = left (record p { scans = scans_of s1; left = gas1.left }) refl; storage = refl; scans = refl })

pub refused_scans : {X A : Type 0} {s1 : Scoped} {k : Machine} {view : X → A} (s0 : Scoped) (gas0 gas1 : Gas) (step : Store → Step A) (stop : StoreStop) → Ignores step → effects.UnlessNoMemory stop (effects.DoesAlone s0 s1 gas0 gas1 step (Err stop)) → Scans s0 s1 k k gas0.left gas1.left (stored step) view (Err (stop_at stop))
refused_scans s0 gas0 gas1 step refusals.OutOfGas ignores d = record { scans = refused_scanned s0 gas0 gas1 step refusals.OutOfGas ran_out (λ q e. e) refl ignores d }
refused_scans s0 gas0 gas1 step refusals.WriteInQuery ignores d = record { scans = refused_scanned s0 gas0 gas1 step refusals.WriteInQuery (faulted write_in_query) (λ q e. e) refl ignores d }
refused_scans s0 gas0 gas1 step refusals.EmptyValue ignores d = record { scans = refused_scanned s0 gas0 gas1 step refusals.EmptyValue (faulted empty_value) (λ q e. e) refl ignores d }
refused_scans s0 gas0 gas1 step refusals.NoSuchScan ignores d = record { scans = refused_scanned s0 gas0 gas1 step refusals.NoSuchScan (faulted no_such_scan) (λ q e. e) refl ignores d }
refused_scans s0 gas0 gas1 step refusals.TooManyScans ignores d = record { scans = refused_scanned s0 gas0 gas1 step refusals.TooManyScans (faulted too_many_scans) (λ q e. e) refl ignores d }
refused_scans s0 gas0 gas1 step refusals.NoMemory ignores d = record { scans = λ p at scans. tt }
