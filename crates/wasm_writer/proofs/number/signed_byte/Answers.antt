use Rattle.std.proofs.Common.{ℕ, ◌+◌, ◌<◌, ◌≤◌, ◌-◌, ◌^◌, arith, inl, inr}
use Rattle.std.proofs.lemmas.Bool.{cases_lt}
use Rattle.wasm_writer.proofs.Halves.{two_halves, whole_is, half_fits}
use Rattle.wasm_writer.proofs.number.signed_byte.Goals as goal

-- a number that has no byte alone has more than seven bits
above_seven : (bits n : ℕ) → 0 < bits → n < 2 ^ bits → 64 ≤ n → n + 64 < 2 ^ bits → 7 < bits
above_seven bits n some fits large far =
    elim (cases_lt 7 bits) [ inl more ↦ more | inr few ↦ absurd (omega (arith, whole_is bits few)) ]

above_seven_below : (bits n : ℕ) → 0 < bits → n < 2 ^ (bits - 1) → 64 ≤ n → 7 < bits
above_seven_below bits n some low large =
    elim (cases_lt 7 bits) [ inl more ↦ more | inr few ↦ absurd (omega (arith, whole_is bits few, two_halves bits some)) ]

pub returns-else-n-lt64-clause-more : goal.returns-else-n-lt64-clause-more
returns-else-n-lt64-clause-more c =
    let h = half_fits c.args.bits c.requires.some c.requires.most in
    above_seven_below c.args.bits c.args.n c.requires.some (omega arith) (omega arith)

pub returns-else-missing-le64-clause-more : goal.returns-else-missing-le64-clause-more
returns-else-missing-le64-clause-more c =
    let h = half_fits c.args.bits c.requires.some c.requires.most in
    let e = two_halves c.args.bits c.requires.some in
    above_seven c.args.bits c.args.n c.requires.some c.requires.fits (omega arith) (omega arith)
