-- How the bytes of keys are ordered.
use Rattle.std.specs.Prelude.{ℕ, ◌≡◌, ◌<◌, ◌^◌}
use Rattle.std.specs.declared.cmp.Ordering.TheVariants.{Less}
use Rattle.std.specs.Ordering.{nat_cmp}
use Rattle.std.specs.Cmp.Lexicographic.{slice_cmp}
use Rattle.chain_records.specs.Keys.{PlainKey, facts, counters, balance, supply, code, code_info, pin, contract, storage, key_bytes}

-- the first byte of a key, which tells its kind
abbrev pub kind : PlainKey → ℕ
kind facts = 0
kind (balance addr denom) = 1
kind (code id) = 2
kind (code_info id) = 3
kind (contract addr) = 4
kind (storage addr key) = 5
kind (pin id) = 6
kind counters = 7
kind (supply denom) = 8

-- keys of one kind stand in the order of their numbers
abbrev pub OrdersNumbers : (ℕ → PlainKey) → Type 0
OrdersNumbers key = (a b : ℕ) → a < 2 ^ 64 → b < 2 ^ 64 → slice_cmp nat_cmp (key_bytes (key a)) (key_bytes (key b)) ≡ nat_cmp a b

-- a key stands before those of a later kind
abbrev pub OrdersKinds : Type 0
OrdersKinds = (one other : PlainKey) → kind one < kind other → slice_cmp nat_cmp (key_bytes one) (key_bytes other) ≡ Less
