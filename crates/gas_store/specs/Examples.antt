-- What the steps give for small stores, and where keys end.
use Rattle.std.specs.Prelude.{◌≡◌, ℕ, List, [], ◌∷◌, Some, None, Ok, Err, true, refl}
use Rattle.gas_meter.specs.Costs.{standard_schedule, read_cost, next_cost}
use Rattle.gas_meter.specs.Gas.{unused}
use Rattle.kv_layers.specs.declared.order.Order.TheVariants.{Ascending, Descending}
use Rattle.kv_layers.specs.Bytes.{Bytes}
use Rattle.gas_store.specs.declared.stop.StoreStop.TheVariants.{OutOfGas, WriteInQuery, NoSuchScan}
use Rattle.gas_store.specs.Ends.{end_of}
use Rattle.gas_store.specs.Scans.{Scan, narrowed}
use Rattle.gas_store.specs.Store.{Store, write, start, next}

abbrev store_with : Bytes → List Scan → ℕ → Store
store_with storage scans gas = record { storage = storage; scans = scans; gas = unused gas }

abbrev from_one_to_three : Scan
from_one_to_three = record { lo = Some (1 ∷ []); hi = Some (3 ∷ []); order = Descending; given = 2 }

first_scan : (storage : Bytes) → start standard_schedule (Some (1 ∷ [])) (Some (3 ∷ [])) Descending (store_with storage [] 5000)
    ≡ (Ok 1, record { storage = storage; scans = from_one_to_three ∷ []; gas = record { left = 3994; used = 1006 } })
first_scan storage = refl

unpaid_scan : (storage : Bytes) → start standard_schedule None None Ascending (store_with storage [] 999) ≡ (Err OutOfGas, record { storage = storage; scans = []; gas = record { left = 0; used = 999 } })
unpaid_scan storage = refl

past_two : narrowed from_one_to_three (Some (2 ∷ [], 0xAA ∷ [])) ≡ record { lo = Some (1 ∷ []); hi = Some (2 ∷ []); order = Descending; given = 2 }
past_two = refl

no_such_scan : (storage : Bytes) → next standard_schedule 1 (store_with storage [] 999) ≡ (Err NoSuchScan, store_with storage [] 999)
no_such_scan storage = refl

in_a_query : (storage : Bytes) → write true standard_schedule (1 ∷ []) [] (store_with storage [] 999) ≡ (Err WriteInQuery, store_with storage [] 999)
in_a_query storage = refl

read_of_two_bytes : read_cost standard_schedule 2 ≡ 1006
read_of_two_bytes = refl

end_of_scan : next_cost standard_schedule 0 ≡ 30
end_of_scan = refl

end_of_keys : end_of (5 ∷ 2 ∷ 7 ∷ 255 ∷ []) ≡ 5 ∷ 2 ∷ 8 ∷ []
end_of_keys = refl
