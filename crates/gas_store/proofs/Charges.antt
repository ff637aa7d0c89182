-- A step whose cost can be paid, and one whose cost can't.
use Rattle.std.proofs.Common.{◌≡◌, ℕ, ◌<◌, ◌≤◌, cond, List, Ok, Err, ap, arith, suc, inl, inr}
use Rattle.std.proofs.lemmas.Bool.Decides.{leb_tells}
use Rattle.gas_meter.specs.Gas.{spent, exhausted}
use Rattle.kv_layers.specs.Bytes.{Bytes}
use Rattle.gas_store.specs.declared.stop.StoreStop.TheVariants.{OutOfGas}
use Rattle.gas_store.specs.Scans.{Scan}
use Rattle.gas_store.specs.Store.{Store, charged}

module _ {A : Type 0} (cost : ℕ) (store : Store) (answer : A) (storage : Bytes) (scans : List Scan) where
  -- the step that is charged, where it can be paid
  pub paid_step : cost ≤ store.gas.left → charged cost store answer storage scans ≡ (Ok answer, record { storage = storage; scans = scans; gas = spent store.gas cost })
  paid_step enough = elim (leb_tells (suc store.gas.left) cost) [
    | inl p ↦ absurd (omega (arith, p.1))
    | inr p ↦ ap (λ b. cond b (Err OutOfGas, record store { gas = exhausted store.gas }) (Ok answer, record { storage = storage; scans = scans; gas = spent store.gas cost })) p.0
  ]

  pub unpaid_step : store.gas.left < cost → charged cost store answer storage scans ≡ (Err OutOfGas, record store { gas = exhausted store.gas })
  unpaid_step less = elim (leb_tells (suc store.gas.left) cost) [
    | inl p ↦ ap (λ b. cond b (Err OutOfGas, record store { gas = exhausted store.gas }) (Ok answer, record { storage = storage; scans = scans; gas = spent store.gas cost })) p.0
    | inr p ↦ absurd (omega (arith, p.1))
  ]
