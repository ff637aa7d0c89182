-- A block begins: its height and its time stand in the facts, and all else is as it was.
use Rattle.std.proofs.Common.{ℕ, refl}
use Rattle.kv_layers.specs.declared.layers.Layers.{Layers}
use Rattle.kv_layers.specs.Layers.{Stands, HasCurrent}
use Rattle.kv_layers.specs.Maps.{new_maps, changed}
use Rattle.kv_layers.specs.Spelling.{Writes}
use Rattle.chain_records.specs.Spelled.{OfSome, HasTyped}
use Rattle.chain_records.specs.State.{Bytes, State, Spells}
use Rattle.bank_ledger.specs.Lawful.{HasLawfulAmounts}
use Rattle.code_registry.specs.Lawful.{HasLawfulCodes}
use Rattle.contract_admin.specs.Lawful.{HasLawfulContracts}
use Rattle.query_router.specs.Lawful.{IsLawful, HasLawful}
use Rattle.submsg_dispatch.specs.Blocks.{begun}
use Rattle.block_runner.specs.Delivering.{HasNextHeight}

-- ---- the state is lawful again

begun_amounts : (s : State) (time : ℕ) → HasLawfulAmounts s → HasLawfulAmounts (begun s time)
begun_amounts s time h = record { sums = h.sums; bounded = h.bounded; accounts = h.accounts; supplies = h.supplies }

begun_codes : (s : State) (time : ℕ) → HasLawfulCodes s → HasLawfulCodes (begun s time)
begun_codes s time h = record { first = h.first; few = h.few; numbered = h.numbered; codes = h.codes; pinned = h.pinned; few_pinned = h.few_pinned }

begun_contracts : (s : State) (time : ℕ) → HasLawfulContracts s → HasLawfulContracts (begun s time)
begun_contracts s time h = record {
  contracts = λ addr c e. let is = h.contracts addr c e in (is.0, record { code = is.1.code; creator = is.1.creator; admin = is.1.admin });
  storage = h.storage;
}

pub begun_lawful : (s : State) (time : ℕ) → IsLawful s → IsLawful (begun s time)
begun_lawful s time lawful = record {
  prefix = lawful.prefix;
  authority = lawful.authority;
  amounts = begun_amounts s time lawful.amounts;
  codes = begun_codes s time lawful.codes;
  contracts = begun_contracts s time lawful.contracts;
}

-- ---- what is known of some state

pub typed : {P : State → Type 0} (S : Bytes → Type 0) → OfSome S P → HasTyped S
typed S some = record { map = some.map; state = some.state; stands = some.stands; spelled = some.spelled; holds = tt }

module _ {B : Type 0} {S : B → Bytes → Type 0} where
  -- under the first layer
  pub next_height : (base : B) (layers : Layers B) → HasNextHeight (S base) → ((map : Bytes) → S base map → Stands S layers (new_maps map)) → HasNextHeight (HasCurrent S layers)
  next_height base layers some new = record { map = some.map; state = some.state; stands = (new_maps some.map, new some.map some.stands, refl); spelled = some.spelled; holds = some.holds }

  pub lawful_begun : (old new : Layers B) (time : ℕ) → HasNextHeight (HasCurrent S old) → Writes Spells S old new (λ s. begun s time) → HasLawful (HasCurrent S new)
  lawful_begun old new time some writes =
      let maps = some.stands.0 in
      let written = writes maps some.state some.stands.1 (rw some.stands.2 some.spelled) in
      record { map = written.0; state = begun some.state time; stands = (changed maps written.0, written.1, refl); spelled = written.2; holds = begun_lawful some.state time some.holds.0 }
