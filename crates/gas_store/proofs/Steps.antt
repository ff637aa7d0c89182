-- The steps on a contract's storage, in the layers.
use Rattle.std.proofs.Common.{◌≡◌, ℕ, ◌+◌, ◌<◌, ◌≤◌, Bool, true, false, cond, List, ◌++◌, drop, length, Option, Result, Ok, Err, refl, sym, ap, ◌∙◌, subst}
use Rattle.std.specs.FinMap.{get, insert, remove}
use Rattle.gas_meter.specs.declared.schedule.Schedule.{Schedule}
use Rattle.gas_meter.specs.Costs.{read_cost, write_cost}
use Rattle.gas_meter.specs.Gas.{Gas, spent, exhausted}
use Rattle.kv_layers.specs.declared.layers.Layers.{Layers}
use Rattle.kv_layers.specs.Bytes.{Bytes}
use Rattle.kv_layers.specs.Layers.{Stands, Turns}
use Rattle.kv_layers.specs.Maps.{Maps, changed}
use Rattle.gas_store.specs.declared.scoped.Scoped.{Scoped}
use Rattle.gas_store.specs.declared.stop.StoreStop.{StoreStop}
use Rattle.gas_store.specs.declared.stop.StoreStop.TheVariants.{OutOfGas, WriteInQuery, EmptyValue}
use Rattle.gas_store.specs.Storage.{prefix_of, storage_of, HasOthers}
use Rattle.gas_store.specs.Store.{Store, Step, charged, bytes_in, read, write, erase, is_nothing}
use Rattle.gas_store.specs.Views.{addr_of, scans_of}
use Rattle.gas_store.specs.Effects.{UnlessNoMemory, Does, store_in}
use Rattle.gas_store.proofs.Charges.{paid_step, unpaid_step}
use Rattle.gas_store.proofs.Storages.{get_storage, storage_inserted, storage_removed, others_inserted, others_removed}

pub out_of_gas : (F : StoreStop → Type 0) (stop : StoreStop) → stop ≡ OutOfGas → F OutOfGas → UnlessNoMemory stop (F stop)
out_of_gas F stop e f = subst (λ (s : StoreStop). UnlessNoMemory s (F s)) (sym e) f

-- ---- reading

read_paid : (costs : Schedule) (key : List ℕ) (store : Store) (value : Option (List ℕ)) (gas : Gas) → value ≡ get store.storage key → read_cost costs (length key + bytes_in value) ≤ store.gas.left
    → gas ≡ spent store.gas (read_cost costs (length key + bytes_in value)) → read costs key store ≡ (Ok value, record store { gas = gas })
read_paid costs key store value gas is enough paid =
    let cost = λ (v : Option (List ℕ)). read_cost costs (length key + bytes_in v) in
    paid_step (cost (get store.storage key)) store (get store.storage key) store.storage store.scans (subst (λ (v : Option (List ℕ)). cost v ≤ store.gas.left) is enough)
    ∙ (λ i. (Ok (sym is i), record { storage = store.storage; scans = store.scans; gas = (ap (λ (v : Option (List ℕ)). spent store.gas (cost v)) (sym is) ∙ sym paid) i }))

read_unpaid : (costs : Schedule) (key : List ℕ) (store : Store) (value : Option (List ℕ)) (gas : Gas) → value ≡ get store.storage key → store.gas.left < read_cost costs (length key + bytes_in value)
    → gas ≡ exhausted store.gas → read costs key store ≡ (Err OutOfGas, record store { gas = gas })
read_unpaid costs key store value gas is less used =
    unpaid_step (read_cost costs (length key + bytes_in (get store.storage key))) store (get store.storage key) store.storage store.scans
    (subst (λ (v : Option (List ℕ)). store.gas.left < read_cost costs (length key + bytes_in v)) is less)
    ∙ (λ i. (Err OutOfGas, record { storage = store.storage; scans = store.scans; gas = sym used i }))

module _ {B : Type 0} (S : B → Bytes → Type 0) where
  pub does_nothing : {A : Type 0} (layers : Layers B) (scoped : Scoped) (old new : Gas) (step : Store → Step A) (answer : Result A StoreStop)
      → ((m : Bytes) → (maps : Maps) → Stands S layers maps → maps.current ≡ m → step (store_in m scoped old) ≡ (answer, store_in m scoped new)) → Does S layers layers scoped scoped old new step answer
  does_nothing layers scoped old new step answer is maps stands = (maps.current, stands, λ place other. refl, is maps.current maps stands refl)

  -- what is found at the place of a key is what the storage has
  value_there : (m : Bytes) (prefix key place : List ℕ) (value : Option (List ℕ)) → prefix ≡ prefix_of (drop 2 prefix) → place ≡ prefix ++ key → value ≡ get m place → value ≡ get (storage_of m (drop 2 prefix)) key
  value_there m prefix key place value own at is = is ∙ ap (get m) (at ∙ ap (λ (p : List ℕ). p ++ key) own) ∙ sym (get_storage m (drop 2 prefix) key)

  pub read_does : (layers : Layers B) (scoped : Scoped) (old new : Gas) (costs : Schedule) (key place : List ℕ) (value : Option (List ℕ)) (cost : ℕ) → place ≡ scoped.prefix.items ++ key
      → ((maps : Maps) → Stands S layers maps → value ≡ get maps.current place) → cost ≡ read_cost costs (length key + bytes_in value) → cost ≤ old.left → new ≡ spent old cost → Does S layers layers scoped scoped old new (read costs key) (Ok value)
  read_does layers scoped old new costs key place value cost at found is enough paid maps stands =
      let there = value_there maps.current scoped.prefix.items key place value scoped.own at (found maps stands) in (
        maps.current,
        stands,
        λ p other. refl,
        read_paid costs key (store_in maps.current scoped old) value new there (subst (λ (n : ℕ). n ≤ old.left) is enough) (paid ∙ ap (spent old) is),
      )

  pub read_stops : (layers : Layers B) (scoped : Scoped) (old new : Gas) (costs : Schedule) (key place : List ℕ) (value : Option (List ℕ)) (cost : ℕ) → place ≡ scoped.prefix.items ++ key
      → ((maps : Maps) → Stands S layers maps → value ≡ get maps.current place) → cost ≡ read_cost costs (length key + bytes_in value) → old.left < cost → new ≡ exhausted old → Does S layers layers scoped scoped old new (read costs key) (Err OutOfGas)
  read_stops layers scoped old new costs key place value cost at found is less used maps stands =
      let there = value_there maps.current scoped.prefix.items key place value scoped.own at (found maps stands) in
      (maps.current, stands, λ p other. refl, read_unpaid costs key (store_in maps.current scoped old) value new there (subst (λ (n : ℕ). old.left < n) is less) used)

-- ---- writing

written : (read_only : Bool) (costs : Schedule) (key value : List ℕ) (store : Store) → read_only ≡ false → is_nothing value ≡ false
    → write read_only costs key value store ≡ charged (write_cost costs (length key + length value)) store tt (insert store.storage key value) store.scans
written read_only costs key value store writes some =
    ap (λ (b : Bool). write b costs key value store) writes
    ∙ ap (λ (b : Bool). cond b (Err EmptyValue, store) (charged (write_cost costs (length key + length value)) store tt (insert store.storage key value) store.scans)) some

pub write_refused : (read_only : Bool) (costs : Schedule) (key value : List ℕ) (store : Store) → read_only ≡ true → write read_only costs key value store ≡ (Err WriteInQuery, store)
write_refused read_only costs key value store reads = ap (λ (b : Bool). write b costs key value store) reads

pub write_empty : (read_only : Bool) (costs : Schedule) (key value : List ℕ) (store : Store) → read_only ≡ false → is_nothing value ≡ true → write read_only costs key value store ≡ (Err EmptyValue, store)
write_empty read_only costs key value store writes none =
    ap (λ (b : Bool). write b costs key value store) writes
    ∙ ap (λ (b : Bool). cond b (Err EmptyValue, store) (charged (write_cost costs (length key + length value)) store tt (insert store.storage key value) store.scans)) none

pub erase_refused : (read_only : Bool) (costs : Schedule) (key : List ℕ) (store : Store) → read_only ≡ true → erase read_only costs key store ≡ (Err WriteInQuery, store)
erase_refused read_only costs key store reads = ap (λ (b : Bool). erase b costs key store) reads

module _ {B : Type 0} (S : B → Bytes → Type 0) where
  abbrev with_key : List ℕ → List ℕ → Maps → Maps
  with_key place value maps = changed maps (insert maps.current place value)

  abbrev without_key : List ℕ → Maps → Maps
  without_key place maps = changed maps (remove maps.current place)

  own_place : (scoped : Scoped) (key place : List ℕ) → place ≡ scoped.prefix.items ++ key → place ≡ prefix_of (addr_of scoped) ++ key
  own_place scoped key place at = at ∙ ap (λ (p : List ℕ). p ++ key) scoped.own

  pub write_does : (before after : Layers B) (scoped : Scoped) (old new : Gas) (costs : Schedule) (key value place : List ℕ) (cost : ℕ) → scoped.read_only ≡ false → is_nothing value ≡ false → place ≡ scoped.prefix.items ++ key
      → Turns S before after (with_key place value) → cost ≡ write_cost costs (length key + length value) → cost ≤ old.left → new ≡ spent old cost
      → Does S before after scoped scoped old new (write scoped.read_only costs key value) (Ok tt)
  write_does before after scoped old new costs key value place cost writes some at turns is enough paid maps stands =
      let addr = addr_of scoped in
      let own = own_place scoped key place at in
      let m = maps.current in
      let store = store_in m scoped old in (
        insert m place value,
        turns maps stands,
        subst (λ (p : List ℕ). HasOthers addr m (insert m p value)) (sym own) (others_inserted m addr key value),
        written scoped.read_only costs key value store writes some
            ∙ paid_step (write_cost costs (length key + length value)) store tt (insert store.storage key value) store.scans (subst (λ (n : ℕ). n ≤ old.left) is enough)
            ∙ (λ i. (Ok tt, record { storage = (sym (storage_inserted m addr key value) ∙ ap (λ (p : List ℕ). storage_of (insert m p value) addr) (sym own)) i; scans = scans_of scoped; gas = (ap (spent old) (sym is) ∙ sym paid) i })),
      )

  pub write_stops : (layers : Layers B) (scoped : Scoped) (old new : Gas) (costs : Schedule) (key value : List ℕ) (cost : ℕ) → scoped.read_only ≡ false → is_nothing value ≡ false
      → cost ≡ write_cost costs (length key + length value) → old.left < cost → new ≡ exhausted old → Does S layers layers scoped scoped old new (write scoped.read_only costs key value) (Err OutOfGas)
  write_stops layers scoped old new costs key value cost writes some is less used maps stands =
      let store = store_in maps.current scoped old in (
        maps.current,
        stands,
        λ p other. refl,
        written scoped.read_only costs key value store writes some
            ∙ unpaid_step (write_cost costs (length key + length value)) store tt (insert store.storage key value) store.scans (subst (λ (n : ℕ). old.left < n) is less)
            ∙ (λ i. (Err OutOfGas, record { storage = store.storage; scans = store.scans; gas = sym used i })),
      )

  pub erase_does : (before after : Layers B) (scoped : Scoped) (old new : Gas) (costs : Schedule) (key place : List ℕ) → scoped.read_only ≡ false → place ≡ scoped.prefix.items ++ key → Turns S before after (without_key place)
      → costs.db_remove ≤ old.left → new ≡ spent old costs.db_remove → Does S before after scoped scoped old new (erase scoped.read_only costs key) (Ok tt)
  erase_does before after scoped old new costs key place writes at turns enough paid maps stands =
      let addr = addr_of scoped in
      let own = own_place scoped key place at in
      let m = maps.current in
      let store = store_in m scoped old in (
        remove m place,
        turns maps stands,
        subst (λ (p : List ℕ). HasOthers addr m (remove m p)) (sym own) (others_removed m addr key),
        ap (λ (b : Bool). erase b costs key store) writes
            ∙ paid_step costs.db_remove store tt (remove store.storage key) store.scans enough
            ∙ (λ i. (Ok tt, record { storage = (sym (storage_removed m addr key) ∙ ap (λ (p : List ℕ). storage_of (remove m p) addr) (sym own)) i; scans = scans_of scoped; gas = sym paid i })),
      )

  pub erase_stops : (layers : Layers B) (scoped : Scoped) (old new : Gas) (costs : Schedule) (key : List ℕ) → scoped.read_only ≡ false → old.left < costs.db_remove → new ≡ exhausted old
      → Does S layers layers scoped scoped old new (erase scoped.read_only costs key) (Err OutOfGas)
  erase_stops layers scoped old new costs key writes less used maps stands =
      let store = store_in maps.current scoped old in (
        maps.current,
        stands,
        λ p other. refl,
        ap (λ (b : Bool). erase b costs key store) writes
            ∙ unpaid_step costs.db_remove store tt (remove store.storage key) store.scans less
            ∙ (λ i. (Err OutOfGas, record { storage = store.storage; scans = store.scans; gas = sym used i })),
      )
