-- A part whose cost can be paid, and one whose cost can't.
use Rattle.std.proofs.Common.{◌≡◌, ℕ, ◌-◌, ◌<◌, ◌≤◌, Bool, cond, sym, ap, subst, arith}
use Rattle.std.proofs.lemmas.Bool.{le-ltb, lt-ltb}
use Rattle.gas_meter.specs.Gas.{Gas, exhausted}
use Rattle.query_router.specs.Parts.{out_of_gas}
use Rattle.query_router.specs.Queries.{Queried, after_paying}
use Rattle.query_router.specs.declared.stop.QueryStop.{QueryStop}
use Rattle.query_router.specs.declared.stop.QueryStop.TheVariants.{OutOfGas}

module _ (cost left : ℕ) (rest : ℕ → Queried) where
  pub paid : cost ≤ left → after_paying cost rest left ≡ rest (left - cost)
  paid enough = ap (λ (b : Bool). cond b (out_of_gas 0) (rest (left - cost))) (le-ltb left cost enough)

  pub unpaid : left < cost → after_paying cost rest left ≡ out_of_gas 0
  unpaid less = ap (λ (b : Bool). cond b (out_of_gas 0) (rest (left - cost))) (lt-ltb left cost less)

pub of_stop : (P : QueryStop → Type 0) (stop : QueryStop) → stop ≡ OutOfGas → P OutOfGas → P stop
of_stop P stop is h = subst P (sym is) h

pub none_left : (old new : Gas) → new ≡ exhausted old → new.left ≡ 0
none_left old new is = let left = ap (λ (g : Gas). g.left) is in omega (arith, left)
