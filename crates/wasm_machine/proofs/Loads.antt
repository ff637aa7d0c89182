-- The numbers that loads of less than eight bytes give.
use Rattle.std.proofs.Common.{◌≢◌, ℕ, ◌*◌, ◌^◌, ◌<◌, ◌≤◌, IfSome, IsSome, arith}
use Rattle.std.proofs.lemmas.Grind.{common_steps}
use Rattle.wasm_machine.specs.Kinds.{width}

pub narrow : (op n : ℕ) → op ≢ 0x29 → op ≤ 0x35 → IsSome (width op) → IfSome (width op) (λ bytes. n < 2 ^ (8 * bytes)) → n < 2 ^ 32
narrow op n not_long low some bound = grind (arith, common_steps)
