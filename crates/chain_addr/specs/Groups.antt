-- Bytes in groups of five bits (BIP 173). Both lists are read as the digits of one number, the first
-- the highest.
use Rattle.std.specs.Prelude.{ℕ, ◌≡◌, ◌+◌, ◌*◌, ◌<◌, ◌^◌, List, All, fold, length}

abbrev pub number : ℕ → List ℕ → ℕ
number base digits = fold (λ n digit. n * base + digit) 0 digits

-- the groups have the bits of the bytes, and at the end fewer than five bits 0 more
pub record IsGrouped (bytes groups : List ℕ) (padding : ℕ) : Type 0 where
  pub small : All (λ group. group < 32) groups
  pub few : padding < 5
  pub bits : 5 * length groups ≡ 8 * length bytes + padding
  pub same : number 32 groups ≡ number 256 bytes * 2 ^ padding

-- bits that were waiting, five and some more, became a group, and those that are left
pub record MovesOut (old new : List ℕ) (waiting more left : ℕ) : Type 0 where
  pub longer : length new ≡ length old + 1
  pub small : All (λ group. group < 32) old → All (λ group. group < 32) new
  pub few : left < 2 ^ more
  pub same : number 32 new * 2 ^ more + left ≡ number 32 old * 2 ^ (5 + more) + waiting
