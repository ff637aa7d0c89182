-- What a meter shows: how much gas is left of its limit, and how much was used.
use Rattle.std.specs.Prelude.{ℕ, ◌+◌, ◌-◌}

pub record Gas : Type 0 where
  pub left : ℕ
  pub used : ℕ

-- a limit of which nothing is used
abbrev pub unused : ℕ → Gas
unused limit = record { left = limit; used = 0 }

-- n, which is no more than what is left, is used
abbrev pub spent : Gas → ℕ → Gas
spent gas n = record { left = gas.left - n; used = gas.used + n }

-- all that is left is used
abbrev pub exhausted : Gas → Gas
exhausted gas = spent gas gas.left
