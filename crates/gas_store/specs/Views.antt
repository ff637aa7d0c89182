-- What a `Scoped` is: an address, whether the call only reads, and its scans.
use Rattle.std.specs.Prelude.{ℕ, Bool, List, map, drop, Option}
use Rattle.gas_store.specs.declared.scan.Scan as scan_type
use Rattle.gas_store.specs.declared.scoped.Scoped.{Scoped}
use Rattle.std.specs.Option.{option_map}
use Rattle.std.specs.Global.{Vec}
use Rattle.kv_layers.specs.Plain.{entry_view}
use Rattle.kv_layers.specs.Sorted.{lower, upper}
use Rattle.gas_store.specs.Scans.{Scan, Entry}

-- the address stands behind two bytes
abbrev pub addr_of : Scoped → List ℕ
addr_of scoped = drop 2 scoped.prefix.items

abbrev pub is_read_only : Scoped → Bool
is_read_only scoped = scoped.read_only

abbrev pub scan_view : scan_type.Scan → Scan
scan_view scan = record { lo = lower scan.bounds; hi = upper scan.bounds; order = scan.order; given = scan.given }

abbrev pub scans_of : Scoped → List Scan
scans_of scoped = map scan_view scoped.scans.items

abbrev pub unit_view : Unit {0} → Unit {0}
unit_view done = tt

abbrev pub number_view : ℕ → ℕ
number_view number = number

abbrev pub entries_view : Option (Vec ℕ × Vec ℕ) → Option Entry
entries_view found = option_map entry_view found
