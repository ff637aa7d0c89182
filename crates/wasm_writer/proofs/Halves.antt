-- Powers of two, and the seven bits that a byte of a number has.
use Rattle.std.proofs.Common.{◌≡◌, ℕ, ◌+◌, ◌-◌, ◌*◌, ◌/◌, ◌^◌, ◌<◌, ◌≤◌, arith, ap, ◌∙◌}
use Rattle.std.proofs.Math.Pow.{pow_mono}
use Rattle.std.proofs.lemmas.Nat.{pow-add}

pub two_halves : (bits : ℕ) → 0 < bits → 2 ^ bits ≡ 2 * 2 ^ (bits - 1)
two_halves bits some =
    let e : bits ≡ 1 + (bits - 1) = omega arith in
    ap (λ (k : ℕ). 2 ^ k) e ∙ pow-add 2 1 (bits - 1)

pub seven_fewer : (bits : ℕ) → 7 < bits → 2 ^ bits ≡ 128 * 2 ^ (bits - 7)
seven_fewer bits more =
    let e : bits ≡ 7 + (bits - 7) = omega arith in
    ap (λ (k : ℕ). 2 ^ k) e ∙ pow-add 2 7 (bits - 7)

pub half_is : (bits : ℕ) → 7 < bits → 128 ≤ 2 ^ (bits - 1)
half_is bits more = pow_mono {i = 7} (omega arith)

pub whole_is : (bits : ℕ) → bits ≤ 7 → 2 ^ bits ≤ 128
whole_is bits few = pow_mono {j = 7} few

pub high_fits : (bits n : ℕ) → 7 < bits → n < 2 ^ bits → n / 128 < 2 ^ (bits - 7)
high_fits bits n more fits = omega (arith, seven_fewer bits more)

pub half_fits : (bits : ℕ) → 0 < bits → bits ≤ 64 → 2 ^ (bits - 1) ≤ 2 ^ 63
half_fits bits some most = pow_mono {j = 63} (omega arith)
