-- What a source and a sink in memory show: their bytes, and which of their calls fail.
use Rattle.std.specs.Prelude.{ℕ, ◌+◌, ◌-◌, ◌^◌, min, List, Bool, true, false, Contains}

-- the calls so far: how many were made, which is the number of the next one, the numbers of those
-- that are to fail, and how many failed; both counts stand still at 2^64 - 1
pub record Calls : Type 0 where
  pub made : ℕ
  pub failing : List ℕ
  pub faults : ℕ

-- the bytes still to come, and the calls so far
pub record KnownSource : Type 0 where
  pub left : List ℕ
  pub calls : Calls

-- the bytes taken, how many it can take in all, and the calls so far
pub record KnownSink : Type 0 where
  pub written : List ℕ
  pub room : ℕ
  pub calls : Calls

-- no call was made yet
abbrev pub no_calls : List ℕ → Calls
no_calls failing = record { made = 0; failing = failing; faults = 0 }

-- the next call is one of those that are to fail
abbrev pub IsListed : Calls → Type 0
IsListed calls = Contains calls.failing calls.made

-- one more, up to the last value of a counter
abbrev pub counted : ℕ → ℕ
counted n = min (n + 1) (2 ^ 64 - 1)

-- the calls after one more, which failed or not
abbrev pub after_call : Calls → Bool → Calls
after_call calls true =
    record { made = counted calls.made; failing = calls.failing; faults = counted calls.faults }
after_call calls false =
    record { made = counted calls.made; failing = calls.failing; faults = calls.faults }
