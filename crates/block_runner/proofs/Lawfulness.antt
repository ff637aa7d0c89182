-- A chain that begins is lawful, and stays so as coins are added.
use Rattle.std.proofs.Common.{◌≡◌, ◌∙◌, ℕ, List, length, sym, arith}
use Rattle.std.specs.Ordering.{nat_cmp}
use Rattle.std.specs.Cmp.Lexicographic.{slice_cmp}
use Rattle.std.specs.FinMap.{empty, entries, keys, get-empty, len-empty, len-entries}
use Rattle.std.proofs.lemmas.List.{length-map}
use Rattle.chain_records.specs.Records.{PlainFacts}
use Rattle.chain_records.specs.State.{State, addressed_cmp}
use Rattle.bank_ledger.specs.Lawful.{HasLawfulAmounts}
use Rattle.bank_ledger.specs.Minted.{opening, minted}
use Rattle.block_runner.specs.Crediting.{AreLawfulFacts}
use Rattle.code_registry.specs.Lawful.{HasLawfulCodes}
use Rattle.contract_admin.specs.Lawful.{HasLawfulContracts}
use Rattle.query_router.specs.Lawful.{IsLawful}

no_pins : length (keys (empty {X = Unit {0}} {R = nat_cmp})) ≡ 0
no_pins = length-map (entries (empty {X = Unit {0}} {R = nat_cmp})) _ ∙ sym (len-entries _) ∙ len-empty nat_cmp (Unit {0})

opening_codes : (f : PlainFacts) → HasLawfulCodes (opening f)
opening_codes f = record {
  first = omega arith;
  few = omega arith;
  numbered = λ id. ((λ found. let none = sym found.1 ∙ get-empty nat_cmp id in absurd cc), λ is. absurd (omega arith));
  codes = λ id code e. let none = sym e ∙ get-empty nat_cmp id in absurd cc;
  pinned = λ id e. let none = sym e ∙ get-empty nat_cmp id in absurd cc;
  few_pinned = omega (arith, no_pins);
}

opening_contracts : (f : PlainFacts) → HasLawfulContracts (opening f)
opening_contracts f = record {
  contracts = λ addr c e. let none = sym e ∙ get-empty (slice_cmp nat_cmp) addr in absurd cc;
  storage = λ addr key value e. let none = sym e ∙ get-empty addressed_cmp (addr, key) in absurd cc;
}

pub opening_lawful : (f : PlainFacts) → AreLawfulFacts f → HasLawfulAmounts (opening f) → IsLawful (opening f)
opening_lawful f facts amounts = record {
  prefix = facts.prefix;
  authority = facts.authority;
  amounts = amounts;
  codes = opening_codes f;
  contracts = opening_contracts f;
}

minted_codes : (s : State) (to denom : List ℕ) (n : ℕ) → HasLawfulCodes s → HasLawfulCodes (minted s to denom n)
minted_codes s to denom n h = record { first = h.first; few = h.few; numbered = h.numbered; codes = h.codes; pinned = h.pinned; few_pinned = h.few_pinned }

minted_contracts : (s : State) (to denom : List ℕ) (n : ℕ) → HasLawfulContracts s → HasLawfulContracts (minted s to denom n)
minted_contracts s to denom n h = record {
  contracts = λ addr c e. let is = h.contracts addr c e in (is.0, record { code = is.1.code; creator = is.1.creator; admin = is.1.admin });
  storage = h.storage;
}

pub minted_lawful : (s : State) (to denom : List ℕ) (n : ℕ) → IsLawful s → HasLawfulAmounts (minted s to denom n) → IsLawful (minted s to denom n)
minted_lawful s to denom n lawful amounts = record {
  prefix = lawful.prefix;
  authority = lawful.authority;
  amounts = amounts;
  codes = minted_codes s to denom n lawful.codes;
  contracts = minted_contracts s to denom n lawful.contracts;
}
