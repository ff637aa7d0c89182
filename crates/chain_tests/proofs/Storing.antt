-- A lawful state stays lawful where codes are stored and pinned, and where contracts are made.
use Rattle.std.proofs.Common.{◌≡◌, ℕ, List, Option, refl, sym, subst}
use Rattle.chain_records.specs.declared.record.Counters.{Counters}
use Rattle.chain_records.specs.Records.{PlainContract}
use Rattle.chain_records.specs.Changes.{with_code}
use Rattle.chain_records.specs.Spelled.{OfSome}
use Rattle.chain_records.specs.State.{Bytes, Code, State, Spells}
use Rattle.kv_layers.specs.declared.layers.Layers.{Layers}
use Rattle.kv_layers.specs.Layers.{HasCurrent, Turns}
use Rattle.kv_layers.specs.Maps.{changed}
use Rattle.kv_layers.specs.Spelling.{Becomes}
use Rattle.code_registry.specs.Codes.{stored, pinned, code_of}
use Rattle.code_registry.specs.Effects.{IsStored, IsPinned}
use Rattle.code_registry.specs.Lawful.{HasLawfulCodes}
use Rattle.contract_admin.specs.Administration.{instance_taken}
use Rattle.contract_admin.specs.Effects.{IsCreated, IsInstanceTaken}
use Rattle.contract_admin.specs.Lawful.{HasLawfulContracts}
use Rattle.contract_admin.specs.Laws.{StayLawfulWithCode}
use Rattle.state_records.specs.Records.{with_contract}
use Rattle.query_router.specs.Lawful.{IsLawful, HasLawful}

with_a_code : StayLawfulWithCode → (s : State) (code : Code) → IsLawful s → HasLawfulCodes (with_code s code) → IsLawful (with_code s code)
with_a_code stay s code l codes = record {
  prefix = l.prefix;
  authority = l.authority;
  amounts = record { sums = l.amounts.sums; bounded = l.amounts.bounded; accounts = l.amounts.accounts; supplies = l.amounts.supplies };
  codes = codes;
  contracts = stay s code l.contracts;
}

pub lawful_stored : StayLawfulWithCode → (s t : State) (creator bytes : List ℕ) (allow : Option (List (List ℕ))) (id : ℕ) → IsLawful s → IsStored s creator bytes allow id t → IsLawful t
lawful_stored stay s t creator bytes allow id l is =
    subst IsLawful (sym is.state) (with_a_code stay s (code_of creator bytes allow) l (subst HasLawfulCodes is.state is.lawful))

with_pins_lawful : (s : State) (ids : List ℕ) → IsLawful s → HasLawfulCodes (pinned s ids) → IsLawful (pinned s ids)
with_pins_lawful s ids l codes = record {
  prefix = l.prefix;
  authority = l.authority;
  amounts = record { sums = l.amounts.sums; bounded = l.amounts.bounded; accounts = l.amounts.accounts; supplies = l.amounts.supplies };
  codes = codes;
  contracts = record {
    contracts = λ addr c at. let is = l.contracts.contracts addr c at in (is.0, record { code = is.1.code; creator = is.1.creator; admin = is.1.admin });
    storage = l.contracts.storage;
  };
}

pub lawful_pinned : (s t : State) (sender ids : List ℕ) → IsLawful s → IsPinned s sender ids t → IsLawful t
lawful_pinned s t sender ids l is = subst IsLawful (sym is.state) (with_pins_lawful s ids l (subst HasLawfulCodes is.state is.lawful))

created_lawful : (s : State) (addr : List ℕ) (c : PlainContract) → IsLawful s → HasLawfulContracts (with_contract s addr c) → IsLawful (with_contract s addr c)
created_lawful s addr c l contracts = record {
  prefix = l.prefix;
  authority = l.authority;
  amounts = record { sums = l.amounts.sums; bounded = l.amounts.bounded; accounts = l.amounts.accounts; supplies = l.amounts.supplies };
  codes = record { first = l.codes.first; few = l.codes.few; numbered = l.codes.numbered; codes = l.codes.codes; pinned = l.codes.pinned; few_pinned = l.codes.few_pinned };
  contracts = contracts;
}

pub lawful_created : (s t : State) (addr : List ℕ) (c : PlainContract) → IsLawful s → IsCreated s addr c t → IsLawful t
lawful_created s t addr c l is = subst IsLawful (sym is.state) (created_lawful s addr c l (subst HasLawfulContracts is.state is.lawful))

taken_lawful : (s : State) → IsLawful s → HasLawfulContracts (instance_taken s) → IsLawful (instance_taken s)
taken_lawful s l contracts = record {
  prefix = l.prefix;
  authority = l.authority;
  amounts = record { sums = l.amounts.sums; bounded = l.amounts.bounded; accounts = l.amounts.accounts; supplies = l.amounts.supplies };
  codes = record { first = l.codes.first; few = l.codes.few; numbered = l.codes.numbered; codes = l.codes.codes; pinned = l.codes.pinned; few_pinned = l.codes.few_pinned };
  contracts = contracts;
}

pub lawful_taken : (s t : State) (id : ℕ) → IsLawful s → IsInstanceTaken s id t → IsLawful t
lawful_taken s t id l is = subst IsLawful (sym is.state) (taken_lawful s l (subst HasLawfulContracts is.state is.lawful))

-- ---- layers that stand for lawful states

module _ {B : Type 0} (S : B → Bytes → Type 0) (old new : Layers B) where
  with_step : (Is : State → Type 0) (Step : State → State → Type 0) → ((s : State) → IsLawful s → Is s) → ((s t : State) → IsLawful s → Step s t → IsLawful t) → Becomes Spells Is S old new Step → HasLawful (HasCurrent S old) → HasLawful (HasCurrent S new)
  with_step Is Step is step becomes some =
      let maps = some.stands.0 in
      let one = becomes maps some.state some.stands.1 (subst (λ (m : Bytes). Spells m some.state) (sym some.stands.2) some.spelled) (is some.state some.holds) in
      record { map = one.0; state = one.1; stands = (changed maps one.0, one.2, refl); spelled = one.3; holds = step some.state one.1 some.holds one.4 }

  pub after_codes : (Step : State → State → Type 0) → ((s t : State) → IsLawful s → Step s t → IsLawful t) → Becomes Spells HasLawfulCodes S old new Step → HasLawful (HasCurrent S old) → HasLawful (HasCurrent S new)
  after_codes Step step becomes some = with_step HasLawfulCodes Step (λ s l. l.codes) step becomes some

  pub after_contracts : (Step : State → State → Type 0) → ((s t : State) → IsLawful s → Step s t → IsLawful t) → Becomes Spells HasLawfulContracts S old new Step → HasLawful (HasCurrent S old) → HasLawful (HasCurrent S new)
  after_contracts Step step becomes some = with_step HasLawfulContracts Step (λ s l. l.contracts) step becomes some

  pub after_stored : StayLawfulWithCode → (creator bytes : List ℕ) (allow : Option (List (List ℕ))) (id : ℕ) → Becomes Spells HasLawfulCodes S old new (λ s t. IsStored s creator bytes allow id t) → HasLawful (HasCurrent S old) → HasLawful (HasCurrent S new)
  after_stored stay creator bytes allow id becomes some =
      after_codes (λ s t. IsStored s creator bytes allow id t) (λ s t l is. lawful_stored stay s t creator bytes allow id l is) becomes some

  pub after_pinned : (sender ids : List ℕ) → Becomes Spells HasLawfulCodes S old new (λ s t. IsPinned s sender ids t) → HasLawful (HasCurrent S old) → HasLawful (HasCurrent S new)
  after_pinned sender ids becomes some = after_codes (λ s t. IsPinned s sender ids t) (λ s t l is. lawful_pinned s t sender ids l is) becomes some

  pub after_created : (addr : List ℕ) (c : PlainContract) → Becomes Spells HasLawfulContracts S old new (λ s t. IsCreated s addr c t) → HasLawful (HasCurrent S old) → HasLawful (HasCurrent S new)
  after_created addr c becomes some = after_contracts (λ s t. IsCreated s addr c t) (λ s t l is. lawful_created s t addr c l is) becomes some

  pub after_taken : (id : ℕ) → Becomes Spells HasLawfulContracts S old new (λ s t. IsInstanceTaken s id t) → HasLawful (HasCurrent S old) → HasLawful (HasCurrent S new)
  after_taken id becomes some = after_contracts (λ s t. IsInstanceTaken s id t) (λ s t l is. lawful_taken s t id l is) becomes some

  pub turned : Turns S old new (λ maps. maps) → HasLawful (HasCurrent S old) → HasLawful (HasCurrent S new)
  turned turns some = record { map = some.map; state = some.state; stands = (some.stands.0, turns some.stands.0 some.stands.1, some.stands.2); spelled = some.spelled; holds = some.holds }

-- ---- what the calls want of such a state

pub codes_of : {S : Bytes → Type 0} → HasLawful S → OfSome S HasLawfulCodes
codes_of some = record { map = some.map; state = some.state; stands = some.stands; spelled = some.spelled; holds = some.holds.codes }

pub contracts_of : {S : Bytes → Type 0} → HasLawful S → OfSome S HasLawfulContracts
contracts_of some = record { map = some.map; state = some.state; stands = some.stands; spelled = some.spelled; holds = some.holds.contracts }
