-- Lawful states that layers stand for, before and after a call.
use Rattle.std.proofs.Common.{◌≡◌, ℕ, List, Option, None, Some, Result, Ok, Err, refl, sym, ap, ◌∙◌, subst}
use Rattle.std.specs.Ordering.{nat_cmp}
use Rattle.std.specs.Cmp.Lexicographic.{slice_cmp}
use Rattle.std.specs.FinMap.{FinMap, get}
use Rattle.coin_amounts.specs.Plain.{Coin}
use Rattle.kv_layers.specs.declared.layers.Layers.{Layers}
use Rattle.kv_layers.specs.Layers.{Stands, HasCurrent}
use Rattle.kv_layers.specs.Maps.{Maps, changed}
use Rattle.chain_records.specs.Records.{PlainContract, PlainFacts}
use Rattle.chain_records.specs.Changes.{with_code}
use Rattle.code_registry.specs.Codes.{Pins}
use Rattle.code_registry.specs.Lawful.{HasLawfulCodes}
use Rattle.contract_admin.specs.Administration.{changed_in, instance_taken, with_admin, with_code_id}
use Rattle.state_records.specs.Records.{with_contract}
use Rattle.contract_admin.specs.Lawful.{HasLawfulContracts}
use Rattle.contract_admin.specs.Laws.{StayLawfulWithCode}
use Rattle.chain_records.specs.State.{Bytes, Code, State, Spells, addressed_cmp}
use Rattle.chain_records.specs.Spelled.{OfEach}
use Rattle.bank_ledger.specs.Lawful.{HasLawfulAmounts}
use Rattle.bank_ledger.specs.Effects.{IsSent, IsBurned}
use Rattle.bank_ledger.specs.Accounts.{sent, burned}
use Rattle.gatekeeper.specs.Cache.{Tally}
use Rattle.query_router.specs.Lawful.{IsLawful, HasLawful}
use Rattle.submsg_dispatch.specs.declared.stop.HandleStop.{HandleStop}
use Rattle.submsg_dispatch.specs.declared.stop.HandleStop.TheVariants.{Failed, OutOfGas, NoMemory}
use Rattle.submsg_dispatch.specs.Parts.{Part}
use Rattle.submsg_dispatch.specs.Reaching.{UnlessNoMemory}
use Rattle.submsg_dispatch.specs.Under.{LeadsUnder, HasLawfulUnder}

-- ---- other balances and supplies

pub recounted : (s : State) (balances : FinMap addressed_cmp ℕ) (supplies : FinMap (slice_cmp nat_cmp) ℕ) → IsLawful s → HasLawfulAmounts (record s { balances = balances; supplies = supplies }) → IsLawful (record s { balances = balances; supplies = supplies })
recounted s balances supplies l counts = record {
  prefix = l.prefix;
  authority = l.authority;
  amounts = counts;
  codes = record { first = l.codes.first; few = l.codes.few; numbered = l.codes.numbered; codes = l.codes.codes; pinned = l.codes.pinned; few_pinned = l.codes.few_pinned };
  contracts = record {
    contracts = λ addr c at.
        let is = l.contracts.contracts addr c at in
        (is.0, record { code = is.1.code; creator = is.1.creator; admin = is.1.admin });
    storage = l.contracts.storage;
  };
}

pub lawful_sent : (s t : State) (from to : List ℕ) (coins : List Coin) → IsLawful s → IsSent s from to coins t → IsLawful t
lawful_sent s t from to coins lawful is =
    let next = sent s from to coins in
    subst IsLawful (sym is.state) (recounted s next.balances s.supplies lawful (subst HasLawfulAmounts is.state is.lawful))

pub lawful_burned : (s t : State) (from : List ℕ) (coins : List Coin) → IsLawful s → IsBurned s from coins t → IsLawful t
lawful_burned s t from coins lawful is =
    let next = burned s from coins in
    subst IsLawful (sym is.state) (recounted s next.balances next.supplies lawful (subst HasLawfulAmounts is.state is.lawful))

-- ---- other codes, pins and contracts

-- a code more
with_code_lawful : (s : State) (code : Code) → StayLawfulWithCode → IsLawful s → HasLawfulCodes (with_code s code) → IsLawful (with_code s code)
with_code_lawful s code law l found = record {
  prefix = l.prefix;
  authority = l.authority;
  amounts = record { sums = l.amounts.sums; bounded = l.amounts.bounded; accounts = l.amounts.accounts; supplies = l.amounts.supplies };
  codes = found;
  contracts = law s code l.contracts;
}

pub lawful_coded : (s t : State) (code : Code) → StayLawfulWithCode → IsLawful s → t ≡ with_code s code → HasLawfulCodes t → IsLawful t
lawful_coded s t code law lawful is found = subst IsLawful (sym is) (with_code_lawful s code law lawful (subst HasLawfulCodes is found))

with_pins_lawful : (s : State) (pins : Pins) → IsLawful s → HasLawfulCodes (record s { pins = pins }) → IsLawful (record s { pins = pins })
with_pins_lawful s pins l found = record {
  prefix = l.prefix;
  authority = l.authority;
  amounts = record { sums = l.amounts.sums; bounded = l.amounts.bounded; accounts = l.amounts.accounts; supplies = l.amounts.supplies };
  codes = found;
  contracts = record {
    contracts = λ addr c at.
        let is = l.contracts.contracts addr c at in
        (is.0, record { code = is.1.code; creator = is.1.creator; admin = is.1.admin });
    storage = l.contracts.storage;
  };
}

pub lawful_pinned : (s t : State) (pins : Pins) → IsLawful s → t ≡ record s { pins = pins } → HasLawfulCodes t → IsLawful t
lawful_pinned s t pins lawful is found = subst IsLawful (sym is) (with_pins_lawful s pins lawful (subst HasLawfulCodes is found))

-- another record of a contract, where there was one
changed_lawful : (s : State) (addr : List ℕ) (change : PlainContract → PlainContract) (o : Option PlainContract) → IsLawful s → HasLawfulContracts (changed_in s addr change o) → IsLawful (changed_in s addr change o)
changed_lawful s addr change None l found = l
changed_lawful s addr change (Some c) l found = record {
  prefix = l.prefix;
  authority = l.authority;
  amounts = record { sums = l.amounts.sums; bounded = l.amounts.bounded; accounts = l.amounts.accounts; supplies = l.amounts.supplies };
  codes = record { first = l.codes.first; few = l.codes.few; numbered = l.codes.numbered; codes = l.codes.codes; pinned = l.codes.pinned; few_pinned = l.codes.few_pinned };
  contracts = found;
}

changed_facts : (s : State) (addr : List ℕ) (change : PlainContract → PlainContract) (o : Option PlainContract) → (changed_in s addr change o).facts ≡ s.facts
changed_facts s addr change None = refl
changed_facts s addr change (Some c) = refl

pub lawful_admin : (s t : State) (addr : List ℕ) (admin : Option (List ℕ)) → IsLawful s → t ≡ with_admin s addr admin → HasLawfulContracts t → IsLawful t
lawful_admin s t addr admin lawful is found = subst IsLawful (sym is) (changed_lawful s addr (λ c. record c { admin = admin }) (get s.contracts addr) lawful (subst HasLawfulContracts is found))

pub admin_facts : (s : State) (addr : List ℕ) (admin : Option (List ℕ)) → (with_admin s addr admin).facts ≡ s.facts
admin_facts s addr admin = changed_facts s addr (λ c. record c { admin = admin }) (get s.contracts addr)

pub lawful_migrated : (s t : State) (addr : List ℕ) (id : ℕ) → IsLawful s → t ≡ with_code_id s addr id → HasLawfulContracts t → IsLawful t
lawful_migrated s t addr id lawful is found = subst IsLawful (sym is) (changed_lawful s addr (λ c. record c { code_id = id }) (get s.contracts addr) lawful (subst HasLawfulContracts is found))

pub code_id_facts : (s : State) (addr : List ℕ) (id : ℕ) → (with_code_id s addr id).facts ≡ s.facts
code_id_facts s addr id = changed_facts s addr (λ c. record c { code_id = id }) (get s.contracts addr)

-- a contract more
pub lawful_created : (s t : State) (addr : List ℕ) (c : PlainContract) → IsLawful s → t ≡ with_contract s addr c → HasLawfulContracts t → IsLawful t
lawful_created s t addr c lawful is found = subst IsLawful (sym is) (changed_lawful s addr (λ k. c) (Some c) lawful (subst HasLawfulContracts is found))

-- an instance more
pub lawful_counted : (s t : State) → IsLawful s → t ≡ instance_taken s → HasLawfulContracts t → IsLawful t
lawful_counted s t l is found = subst IsLawful (sym is) (record {
  prefix = l.prefix;
  authority = l.authority;
  amounts = record { sums = l.amounts.sums; bounded = l.amounts.bounded; accounts = l.amounts.accounts; supplies = l.amounts.supplies };
  codes = record { first = l.codes.first; few = l.codes.few; numbered = l.codes.numbered; codes = l.codes.codes; pinned = l.codes.pinned; few_pinned = l.codes.few_pinned };
  contracts = subst HasLawfulContracts is found;
})

-- ---- what is known of some state

-- the prefix is that of the facts that were read
pub under : (S : Bytes → Type 0) (facts : PlainFacts) → HasLawful S → OfEach S (λ s. facts ≡ s.facts) → HasLawfulUnder facts.prefix S
under S facts some each = record {
  map = some.map;
  state = some.state;
  stands = some.stands;
  spelled = some.spelled;
  holds = (some.holds, ap (λ (f : PlainFacts). f.prefix) (sym (each some.map some.state some.stands some.spelled)));
}

pub each_under : {B : Type 0} (S : B → Bytes → Type 0) (layers : Layers B) (facts : PlainFacts) → OfEach (HasCurrent S layers) (λ s. facts ≡ s.facts) → (maps : Maps) (s : State) → Stands S layers maps → Spells maps.current s → s.facts.prefix ≡ facts.prefix
each_under S layers facts each maps s stands spelled = ap (λ (f : PlainFacts). f.prefix) (sym (each maps.current s (maps, stands, refl) spelled))

-- ---- after a call

pub lawful_after : {B X A : Type 0} {S : B → Bytes → Type 0} {prefix : List ℕ} {old new : Layers B} {before after : Option Tally} {l m : ℕ} {part : Part A} {view : X → A} (result : Result X HandleStop) → HasLawfulUnder prefix (HasCurrent S old)
    → LeadsUnder prefix S old new before after l m part view result → UnlessNoMemory result (HasLawfulUnder prefix (HasCurrent S new))
lawful_after (Ok x) some leads =
    let maps = some.stands.0 in
    let came = leads.leads maps some.state some.stands.1 (rw some.stands.2 some.spelled) some.holds.0 some.holds.1 in
    let arrives = came.0.1 in
    record { map = arrives.map; state = came.0.0; stands = (changed maps arrives.map, arrives.stands, refl); spelled = arrives.spelled; holds = (arrives.lawful, ap (λ (f : PlainFacts). f.prefix) arrives.facts ∙ some.holds.1) }
lawful_after (Err (Failed failure)) some leads =
    let maps = some.stands.0 in
    let came = leads.leads maps some.state some.stands.1 (rw some.stands.2 some.spelled) some.holds.0 some.holds.1 in
    record { map = some.map; state = some.state; stands = (maps, came.0.0, some.stands.2); spelled = some.spelled; holds = some.holds }
lawful_after (Err OutOfGas) some leads =
    let maps = some.stands.0 in
    let came = leads.leads maps some.state some.stands.1 (rw some.stands.2 some.spelled) some.holds.0 some.holds.1 in
    record { map = some.map; state = some.state; stands = (maps, came.0.0, some.stands.2); spelled = some.spelled; holds = some.holds }
lawful_after (Err NoMemory) some leads = tt

pub any_prefix : {prefix : List ℕ} (S : Bytes → Type 0) → HasLawfulUnder prefix S → HasLawful S
any_prefix S some = record { map = some.map; state = some.state; stands = some.stands; spelled = some.spelled; holds = some.holds.0 }

pub lawful_any : {X : Type 0} (prefix : List ℕ) (S : Bytes → Type 0) (result : Result X HandleStop) → UnlessNoMemory result (HasLawfulUnder prefix S) → UnlessNoMemory result (HasLawful S)
lawful_any prefix S (Ok x) some = any_prefix S some
lawful_any prefix S (Err (Failed failure)) some = any_prefix S some
lawful_any prefix S (Err OutOfGas) some = any_prefix S some
lawful_any prefix S (Err NoMemory) some = tt
