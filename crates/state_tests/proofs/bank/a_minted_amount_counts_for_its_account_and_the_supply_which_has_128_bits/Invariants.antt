-- The records stay lawful.
use Rattle.bank_ledger.specs.Minted.{HasLawfulRecords}
use Rattle.state_tests.proofs.bank.a_minted_amount_counts_for_its_account_and_the_supply_which_has_128_bits.Given as goal

abbrev pub invariant-loop-amount : goal.invariant-loop-amount
invariant-loop-amount g l = HasLawfulRecords l.plain
