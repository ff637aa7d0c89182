-- One amount written under its key. An amount of 0 has no record.
use Rattle.std.specs.Prelude.{ℕ, ◌+◌, ◌==◌, if◌then◌else◌}
use Rattle.std.specs.declared.cmp.Ordering.{Ordering}
use Rattle.std.specs.FinMap.{FinMap, insert, remove}
use Rattle.chain_records.specs.Keys.{PlainKey}
use Rattle.chain_records.specs.Keys as keys
use Rattle.chain_records.specs.State.{State}
use Rattle.bank_ledger.specs.Accounts.{balance, supply}

abbrev pub amount_under : State → PlainKey → ℕ
amount_under s (keys.balance addr denom) = balance s addr denom
amount_under s (keys.supply denom) = supply s denom
amount_under s key = 0

abbrev pub with_record : {K : Type 0} {R : K → K → Ordering} → FinMap R ℕ → K → ℕ → FinMap R ℕ
with_record map key n = if n == 0 then remove map key else insert map key n

abbrev pub with_amount : State → PlainKey → ℕ → State
with_amount s (keys.balance addr denom) n = record s { balances = with_record s.balances (addr, denom) n }
with_amount s (keys.supply denom) n = record s { supplies = with_record s.supplies denom n }
with_amount s key n = s

abbrev pub with_more : State → PlainKey → ℕ → State
with_more s key n = with_amount s key (amount_under s key + n)
