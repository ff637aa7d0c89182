-- The next entry of a scan, and its bounds narrowed past it.
use Rattle.std.proofs.Common.{◌≡◌, ℕ, zero, suc, ◌+◌, ◌-◌, ◌<◌, ◌≤◌, cond, List, [], ◌∷◌, map, set, get_or, length, Option, Some, None, Ok, Err, refl, sym, ap, ◌∙◌, subst, arith, inl, inr, sum_by}
use Rattle.std.specs.List.{slice_get}
use Rattle.std.proofs.lemmas.Bool.Decides.{leb_tells}
use Rattle.std.proofs.lemmas.List.{map-set, get_or-map}
use Rattle.std.proofs.lemmas.List.Sums.{sum_by-set}
use Rattle.std.proofs.lemmas.Option.{slice_get-get_or}
use Rattle.gas_meter.specs.declared.schedule.Schedule.{Schedule}
use Rattle.gas_meter.specs.Costs.{next_cost}
use Rattle.gas_meter.specs.Gas.{Gas, spent, exhausted}
use Rattle.gas_store.specs.declared.scan.Scan as scan_type
use Rattle.gas_store.specs.declared.stop.StoreStop.TheVariants.{OutOfGas, NoSuchScan}
use Rattle.gas_store.specs.Givens.{given_of}
use Rattle.gas_store.specs.Scans.{Scan, Entry, next_of, narrowed}
use Rattle.gas_store.specs.Store.{Store, Step, charged, numbered, advance, next, entry_bytes}
use Rattle.gas_store.specs.Views.{scan_view}
use Rattle.gas_store.proofs.Charges.{paid_step, unpaid_step}

-- ---- a scan in the list

pub kept_given : (scans : List scan_type.Scan) (i : ℕ) (old new : scan_type.Scan) → i < length scans → old ≡ get_or scans i old → new.given ≡ old.given → sum_by given_of (set scans i new) ≡ sum_by given_of scans
kept_given scans i old new within is same = let s = sum_by-set given_of scans i new old within in let e = ap given_of is in omega (arith, s, e, same)

pub narrowed_in : (scans : List scan_type.Scan) (i : ℕ) (old new : scan_type.Scan) (found : Option Entry) (d : Scan) → i < length scans → old ≡ get_or scans i old → scan_view new ≡ narrowed (scan_view old) found
    → map scan_view (set scans i new) ≡ set (map scan_view scans) i (narrowed (get_or (map scan_view scans) i d) found)
narrowed_in scans i old new found d within is view =
    map-set scan_view scans i new ∙ ap (set (map scan_view scans) i) (view ∙ ap (λ (s : Scan). narrowed s found) (ap scan_view is ∙ sym (get_or-map scan_view scans i old d within)))

pub set_same : (scans : List Scan) (i : ℕ) (d : Scan) → set scans i (get_or scans i d) ≡ scans
set_same [] i d = refl
set_same (s ∷ scans) zero d = refl
set_same (s ∷ scans) (suc i) d = ap (λ l. s ∷ l) (set_same scans i d)

-- ---- the step

numbered_at : (scans : List Scan) (number index : ℕ) → number ≡ index + 1 → numbered scans number ≡ slice_get scans index
numbered_at scans number index is = elim (leb_tells (suc number) 1) [
  | inl p ↦ absurd (omega (arith, p.1))
  | inr p ↦ ap (λ b. cond b None (slice_get scans (number - 1))) p.0 ∙ ap (slice_get scans) (omega arith)
]

next_at : (costs : Schedule) (number index : ℕ) (store : Store) (scan : Scan) → number ≡ index + 1 → index < length store.scans → scan ≡ get_or store.scans index scan → next costs number store ≡ advance costs (index + 1) (Some scan) store
next_at costs number index store scan is within at =
    ap (λ (o : Option Scan). advance costs number o store) (numbered_at store.scans number index is ∙ slice_get-get_or store.scans index scan within ∙ ap (λ (s : Scan). Some s) (sym at))
    ∙ ap (λ (n : ℕ). advance costs n (Some scan) store) is

pub next_paid : (costs : Schedule) (number index : ℕ) (store : Store) (scan : Scan) (found : Option Entry) (scans : List Scan) (gas : Gas) → number ≡ index + 1 → index < length store.scans → scan ≡ get_or store.scans index scan
    → next_of store.storage scan ≡ found → scans ≡ set store.scans index (narrowed scan found) → next_cost costs (entry_bytes found) ≤ store.gas.left → gas ≡ spent store.gas (next_cost costs (entry_bytes found))
    → next costs number store ≡ (Ok found, record { storage = store.storage; scans = scans; gas = gas })
next_paid costs number index store scan found scans gas is within at first new enough paid =
    let place : index + 1 - 1 ≡ index = omega arith in
    next_at costs number index store scan is within at
    ∙ (λ i. charged_at (first i) (place i))
    ∙ paid_step (next_cost costs (entry_bytes found)) store found store.storage (set store.scans index (narrowed scan found)) enough
    ∙ (λ i. (Ok found, record { storage = store.storage; scans = sym new i; gas = sym paid i }))
  where
    charged_at : Option Entry → ℕ → Step (Option Entry)
    charged_at f n = charged (next_cost costs (entry_bytes f)) store f store.storage (set store.scans n (narrowed scan f))

pub next_unpaid : (costs : Schedule) (number index : ℕ) (store : Store) (scan : Scan) (found : Option Entry) (gas : Gas) → number ≡ index + 1 → index < length store.scans → scan ≡ get_or store.scans index scan
    → next_of store.storage scan ≡ found → store.gas.left < next_cost costs (entry_bytes found) → gas ≡ exhausted store.gas → next costs number store ≡ (Err OutOfGas, record store { gas = gas })
next_unpaid costs number index store scan found gas is within at first less used =
    let there = next_of store.storage scan in
    next_at costs number index store scan is within at
    ∙ unpaid_step (next_cost costs (entry_bytes there)) store there store.storage (set store.scans (index + 1 - 1) (narrowed scan there)) (subst (λ (f : Option Entry). store.gas.left < next_cost costs (entry_bytes f)) (sym first) less)
    ∙ (λ i. (Err OutOfGas, record { storage = store.storage; scans = store.scans; gas = sym used i }))

pub next_none : (costs : Schedule) (number : ℕ) (store : Store) → numbered store.scans number ≡ None → next costs number store ≡ (Err NoSuchScan, store)
next_none costs number store none = ap (λ (o : Option Scan). advance costs number o store) none
