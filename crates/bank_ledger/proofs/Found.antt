-- The amount that is found under a key is the state's.
use Rattle.std.proofs.Common.{◌≡◌, ℕ, List, Option, Some, None, refl, sym, ap, ◌∙◌, subst}
use Rattle.std.specs.Option.{option_map, unwrap_or}
use Rattle.std.specs.FinMap.{get}
use Rattle.chain_records.specs.Keys.{PlainKey, key_bytes, IsKey, IsKeyOf}
use Rattle.chain_records.specs.Keys as keys
use Rattle.chain_records.specs.Records.{PlainStored, facts, counters, amount, code_bytes, code_info, mark, contract, value, Belongs, IsRecordUnder}
use Rattle.chain_records.specs.State.{Bytes, State, entry_of, Spells, IsFound}
use Rattle.chain_records.specs.Laws.{SpellsRecords, TellsRecords}
use Rattle.bank_ledger.specs.Amounts.{amount_under}
use Rattle.bank_ledger.specs.Steps.{IsAmountKey}

amount_only : (key : PlainKey) (stored : PlainStored) → IsAmountKey key → Belongs key stored → (n : ℕ) × (stored ≡ amount n)
amount_only (keys.balance a d) (amount n) is b = (n, refl)
amount_only (keys.balance a d) (facts x) is b = absurd b
amount_only (keys.balance a d) (counters x) is b = absurd b
amount_only (keys.balance a d) (code_bytes x) is b = absurd b
amount_only (keys.balance a d) (code_info x) is b = absurd b
amount_only (keys.balance a d) mark is b = absurd b
amount_only (keys.balance a d) (contract x) is b = absurd b
amount_only (keys.balance a d) (value x) is b = absurd b
amount_only (keys.supply d) (amount n) is b = (n, refl)
amount_only (keys.supply d) (facts x) is b = absurd b
amount_only (keys.supply d) (counters x) is b = absurd b
amount_only (keys.supply d) (code_bytes x) is b = absurd b
amount_only (keys.supply d) (code_info x) is b = absurd b
amount_only (keys.supply d) mark is b = absurd b
amount_only (keys.supply d) (contract x) is b = absurd b
amount_only (keys.supply d) (value x) is b = absurd b
amount_only keys.facts stored is b = absurd is
amount_only keys.counters stored is b = absurd is
amount_only (keys.code id) stored is b = absurd is
amount_only (keys.code_info id) stored is b = absurd is
amount_only (keys.pin id) stored is b = absurd is
amount_only (keys.contract addr) stored is b = absurd is
amount_only (keys.storage addr key) stored is b = absurd is

some_amount : (o : Option ℕ) (n : ℕ) → option_map amount o ≡ Some (amount n) → unwrap_or o 0 ≡ n
some_amount (Some m) n e = cc
some_amount None n e = absurd cc

no_amount : (o : Option ℕ) → option_map amount o ≡ None → unwrap_or o 0 ≡ 0
no_amount (Some m) e = absurd cc
no_amount None e = refl

under_some : (s : State) (key : PlainKey) (n : ℕ) → IsAmountKey key → entry_of s key ≡ Some (amount n) → n ≡ amount_under s key
unfolding entry_of
under_some s (keys.balance a d) n is e = sym (some_amount (get s.balances (a, d)) n e)
under_some s (keys.supply d) n is e = sym (some_amount (get s.supplies d) n e)
under_some s keys.facts n is e = absurd is
under_some s keys.counters n is e = absurd is
under_some s (keys.code id) n is e = absurd is
under_some s (keys.code_info id) n is e = absurd is
under_some s (keys.pin id) n is e = absurd is
under_some s (keys.contract addr) n is e = absurd is
under_some s (keys.storage addr key) n is e = absurd is

under_none : (s : State) (key : PlainKey) → entry_of s key ≡ None → 0 ≡ amount_under s key
unfolding entry_of
under_none s (keys.balance a d) e = sym (no_amount (get s.balances (a, d)) e)
under_none s (keys.supply d) e = sym (no_amount (get s.supplies d) e)
under_none s keys.facts e = refl
under_none s keys.counters e = refl
under_none s (keys.code id) e = refl
under_none s (keys.code_info id) e = refl
under_none s (keys.pin id) e = refl
under_none s (keys.contract addr) e = refl
under_none s (keys.storage addr key) e = refl

pub found_at : SpellsRecords → (map : Bytes) (s : State) (key : PlainKey) (place : List ℕ) (found : Option (List ℕ)) → IsKeyOf place key → Spells map s → found ≡ get map place → IsFound key found (entry_of s key)
found_at law map s key place found of spelled is =
    subst (λ (f : Option (List ℕ)). IsFound key f (entry_of s key)) (ap (get map) of.same ∙ sym is) (law map s key spelled of.is_key)

pub found_amount : SpellsRecords → (map : Bytes) (s : State) (key : PlainKey) (place bytes : List ℕ) → IsAmountKey key → IsKeyOf place key → Spells map s → Some bytes ≡ get map place
    → (n : ℕ) × IsRecordUnder key bytes (amount n) × (n ≡ amount_under s key)
found_amount law map s key place bytes amounts of spelled is =
    let record_there = found_at law map s key place (Some bytes) of spelled is in
    let only = amount_only key record_there.0 amounts record_there.2.belongs in
    (only.0, subst (IsRecordUnder key bytes) only.1 record_there.2, under_some s key only.0 amounts (record_there.1 ∙ ap (λ x. Some x) only.1))

same_number : (m n : ℕ) → amount m ≡ amount n → m ≡ n
same_number m n e = cc

-- the amount that the bytes are is that of the state
pub same_amount : SpellsRecords → TellsRecords → (map : Bytes) (s : State) (key : PlainKey) (place bytes : List ℕ) (n : ℕ) → IsAmountKey key → IsKeyOf place key → Spells map s → Some bytes ≡ get map place
    → IsRecordUnder key bytes (amount n) → n ≡ amount_under s key
same_amount law tells map s key place bytes n amounts of spelled is under =
    let there = found_amount law map s key place bytes amounts of spelled is in
    same_number n there.0 (tells key bytes (amount n) (amount there.0) under there.1) ∙ there.2

pub found_none : SpellsRecords → (map : Bytes) (s : State) (key : PlainKey) (place : List ℕ) → IsKeyOf place key → Spells map s → None ≡ get map place → 0 ≡ amount_under s key
found_none law map s key place of spelled is = under_none s key (found_at law map s key place None of spelled is)
