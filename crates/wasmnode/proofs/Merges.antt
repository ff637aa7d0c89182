-- A snapshot that a block is added to has few runs, and the one after it one more at most.
use Rattle.std.proofs.Common.{◌≡◌, ◌+◌, ◌≤◌, suc, List, [], ◌∷◌, length, ap, arith}
use Rattle.kv_layers.specs.Bytes.{Bytes}
use Rattle.state_runs.specs.Runs.{Run, with_run, IsWhole}
use Rattle.wasmnode.specs.Merging.{most_runs}

pub whole_few : (base : List Run) (map : Bytes) → IsWhole base map → length base ≤ most_runs
whole_few base map whole =
    let one : length base ≡ 1 = ap (λ (runs : List Run). length runs) whole.1 in
    omega (arith, one)

pub few_more : (changes : Run) (base new : List Run) → new ≡ with_run changes base → length base ≤ most_runs → length new ≤ most_runs + 1
few_more [] base new is few =
    let e : length new ≡ length base = ap (λ (runs : List Run). length runs) is in
    omega (arith, e, few)
few_more (change ∷ changes) base new is few =
    let e : length new ≡ suc (length base) = ap (λ (runs : List Run). length runs) is in
    omega (arith, e, few)
