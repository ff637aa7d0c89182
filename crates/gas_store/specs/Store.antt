-- What a contract's calls do to its storage, its scans and the gas, and what each answers: the steps of `db_read`, `db_write`,
-- `db_remove`, `db_scan` and `db_next`. The refusals come first, in the order of the text, then the whole cost in one charge, and
-- then the effect.
use Rattle.std.specs.Prelude.{ℕ, ◌+◌, ◌-◌, Bool, ◌||◌, List, [], ◌∷◌, ◌++◌, length, sum_by, slice_set, Option, Some, None, Result, Ok, Err, nat_lt, nat_le, ◌==◌, if◌then◌else◌}
use Rattle.std.specs.List.{slice_get}
use Rattle.std.specs.FinMap.{get, insert, remove}
use Rattle.gas_meter.specs.declared.schedule.Schedule.{Schedule}
use Rattle.gas_meter.specs.Costs.{read_cost, write_cost, scan_cost, next_cost}
use Rattle.gas_meter.specs.Gas.{Gas, spent, exhausted}
use Rattle.kv_layers.specs.declared.order.Order.{Order}
use Rattle.kv_layers.specs.Bytes.{Bytes}
use Rattle.gas_store.specs.declared.stop.StoreStop.{StoreStop}
use Rattle.gas_store.specs.declared.stop.StoreStop.TheVariants.{OutOfGas, WriteInQuery, EmptyValue, NoSuchScan, TooManyScans}
use Rattle.gas_store.specs.Scans.{Scan, Entry, next_of, narrowed}

pub record Store : Type 0 where
  pub storage : Bytes
  pub scans : List Scan
  pub gas : Gas

-- an answer and what is there afterwards
abbrev pub Step : Type 0 → Type 0
Step A = Result A StoreStop × Store

abbrev pub refused : {A : Type 0} → StoreStop → Store → Step A
refused stop store = (Err stop, store)

-- the cost is charged, and then the answer is given and the storage and scans are these; where too little gas is left, all of it is
-- used and nothing else happens
abbrev pub charged : {A : Type 0} → ℕ → Store → A → Bytes → List Scan → Step A
charged cost store answer storage scans =
    if nat_lt store.gas.left cost then (Err OutOfGas, record store { gas = exhausted store.gas })
    else (Ok answer, record { storage = storage; scans = scans; gas = spent store.gas cost })

-- the bytes of a value or a bound; none where there is none
abbrev pub bytes_in : Option (List ℕ) → ℕ
bytes_in None = 0
bytes_in (Some bytes) = length bytes

abbrev pub read : Schedule → List ℕ → Store → Step (Option (List ℕ))
read costs key store =
    let value = get store.storage key in
    charged (read_cost costs (length key + bytes_in value)) store value store.storage store.scans

abbrev pub is_nothing : List ℕ → Bool
is_nothing bytes = length bytes == 0

abbrev pub write : Bool → Schedule → List ℕ → List ℕ → Store → Step (Unit {0})
write read_only costs key value store =
    if read_only then refused WriteInQuery store
    else if is_nothing value then refused EmptyValue store
    else charged (write_cost costs (length key + length value)) store tt (insert store.storage key value) store.scans

abbrev pub erase : Bool → Schedule → List ℕ → Store → Step (Unit {0})
erase read_only costs key store =
    if read_only then refused WriteInQuery store
    else charged costs.db_remove store tt (remove store.storage key) store.scans

-- a call has at most 65,536 scans, and their bounds as given have at most 16 MiB together
abbrev pub too_many : List Scan → ℕ → Bool
too_many scans given = nat_le 65536 (length scans) || nat_lt 16777216 (sum_by (λ scan. scan.given) scans + given)

-- the number of a scan is its place, counted from 1
abbrev pub start : Schedule → Option (List ℕ) → Option (List ℕ) → Order → Store → Step ℕ
start costs lo hi order store =
    let given = bytes_in lo + bytes_in hi in
    if too_many store.scans given then refused TooManyScans store
    else charged (scan_cost costs given) store (length store.scans + 1) store.storage (store.scans ++ record { lo = lo; hi = hi; order = order; given = given } ∷ [])

abbrev pub entry_bytes : Option Entry → ℕ
entry_bytes None = 0
entry_bytes (Some e) = length e.0 + length e.1

-- the scan with this number, if there is one
abbrev pub numbered : List Scan → ℕ → Option Scan
numbered scans number = if nat_lt number 1 then None else slice_get scans (number - 1)

abbrev pub advance : Schedule → ℕ → Option Scan → Store → Step (Option Entry)
advance costs number None store = refused NoSuchScan store
advance costs number (Some scan) store =
    let found = next_of store.storage scan in
    charged (next_cost costs (entry_bytes found)) store found store.storage (slice_set store.scans (number - 1) (narrowed scan found))

abbrev pub next : Schedule → ℕ → Store → Step (Option Entry)
next costs number store = advance costs number (numbered store.scans number) store
