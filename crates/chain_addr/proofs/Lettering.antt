-- Each letter is ASCII.
use Rattle.std.proofs.Common.{◌≡◌, ℕ, ◌<◌, Bool, true, false, ◌&&◌, List, [], ◌∷◌, get_or, zero, suc, refl, arith}
use Rattle.std.specs.Prelude.{nat_lt}
use Rattle.std.specs.List.{list_all}
use borrow.Author.Tests.{ltb-true}

pub both_first : (a b : Bool) → (a && b) ≡ true → a ≡ true
both_first true b p = refl
both_first false b p = p

pub both_second : (a b : Bool) → (a && b) ≡ true → b ≡ true
both_second true b p = p
both_second false b p = cc

pub all_ascii : (xs : List ℕ) (k : ℕ) → list_all (λ x. nat_lt x 128) xs ≡ true → get_or xs k 0 < 128
all_ascii [] k h = omega arith
all_ascii (x ∷ xs) zero h = ltb-true x 128 (both_first _ _ h)
all_ascii (x ∷ xs) (suc k) h = all_ascii xs k (both_second (nat_lt x 128) _ h)
