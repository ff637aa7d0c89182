-- What is found under the bytes of a key is the record that the state has there.
use Rattle.std.proofs.Common.{◌≡◌, ℕ, List, Option, Some, None, refl, sym, ap, ◌∙◌, subst}
use Rattle.std.specs.Option.{option_map, is_some}
use Rattle.std.specs.FinMap.{get}
use Rattle.std.specs.Global.{Vec}
use Rattle.kv_layers.specs.Plain.{value_view}
use Rattle.chain_records.specs.declared.record.Counters.{Counters}
use Rattle.chain_records.specs.Keys.{PlainKey, key_bytes, IsKeyOf}
use Rattle.chain_records.specs.Keys as keys
use Rattle.chain_records.specs.Records.{PlainFacts, PlainCodeInfo, PlainContract, PlainStored, facts, counters, code_info, contract, IsRecordUnder}
use Rattle.chain_records.specs.State.{Bytes, Code, State, entry_of, Spells, IsFound}
use Rattle.chain_records.specs.Laws.{SpellsRecords, TellsRecords}
use Rattle.state_records.specs.Records.{info_at}

pub found_at : SpellsRecords → (map : Bytes) (s : State) (key : PlainKey) (place : List ℕ) (found : Option (List ℕ)) → IsKeyOf place key → Spells map s → found ≡ get map place → IsFound key found (entry_of s key)
found_at law map s key place found of spelled is =
    subst (λ (f : Option (List ℕ)). IsFound key f (entry_of s key)) (ap (get map) of.same ∙ sym is) (law map s key spelled of.is_key)

-- the record that the bytes are is the state's
pub found_record : SpellsRecords → TellsRecords → (map : Bytes) (s : State) (key : PlainKey) (place bytes : List ℕ) (stored : PlainStored) → IsKeyOf place key → Spells map s → Some bytes ≡ get map place
    → IsRecordUnder key bytes stored → Some stored ≡ entry_of s key
found_record law tells map s key place bytes stored of spelled is under =
    let there = found_at law map s key place (Some bytes) of spelled is in
    ap (λ x. Some x) (tells key bytes stored there.0 under there.2) ∙ sym there.1

pub found_some : SpellsRecords → (map : Bytes) (s : State) (key : PlainKey) (place : List ℕ) (found : Option (List ℕ)) → IsKeyOf place key → Spells map s → found ≡ get map place → is_some found ≡ is_some (entry_of s key)
found_some law map s key place found of spelled is = go found (found_at law map s key place found of spelled is)
  where
    go : (f : Option (List ℕ)) → IsFound key f (entry_of s key) → is_some f ≡ is_some (entry_of s key)
    go None e = ap is_some (sym e)
    go (Some bytes) there = ap is_some (sym there.1)

pub some_view : (o : Option (Vec ℕ)) → is_some o ≡ is_some (value_view o)
some_view (Some v) = refl
some_view None = refl

-- ---- by kind

same_facts : (one other : PlainFacts) → Some (facts one) ≡ Some (facts other) → one ≡ other
same_facts one other e = cc

pub facts_entry : (s : State) → entry_of s keys.facts ≡ Some (facts s.facts)
unfolding entry_of
facts_entry s = refl

pub facts_are : (s : State) (f : PlainFacts) (o : Option PlainStored) → o ≡ entry_of s keys.facts → o ≡ Some (facts f) → f ≡ s.facts
facts_are s f o there is = same_facts f s.facts (sym is ∙ there ∙ facts_entry s)

same_counters : (one other : Counters) → Some (counters one) ≡ Some (counters other) → one ≡ other
same_counters one other e = cc

pub counters_entry : (s : State) → entry_of s keys.counters ≡ Some (counters s.counters)
unfolding entry_of
counters_entry s = refl

pub counters_are : (s : State) (c : Counters) (o : Option PlainStored) → o ≡ entry_of s keys.counters → o ≡ Some (counters c) → c ≡ s.counters
counters_are s c o there is = same_counters c s.counters (sym is ∙ there ∙ counters_entry s)

info_of : (o : Option Code) → option_map (λ c. code_info c.info) o ≡ option_map code_info (option_map (λ c. c.info) o)
info_of (Some c) = refl
info_of None = refl

pub info_entry : (s : State) (id : ℕ) → entry_of s (keys.code_info id) ≡ option_map code_info (info_at s id)
unfolding entry_of
info_entry s id = info_of (get s.codes id)

same_info : (one other : Option PlainCodeInfo) → option_map code_info one ≡ option_map code_info other → one ≡ other
same_info (Some x) (Some y) e = cc
same_info (Some x) None e = absurd cc
same_info None (Some y) e = absurd cc
same_info None None e = refl

pub info_is : (s : State) (id : ℕ) (info : Option PlainCodeInfo) (o : Option PlainStored) → o ≡ entry_of s (keys.code_info id) → o ≡ option_map code_info info → info ≡ info_at s id
info_is s id info o there is = same_info info (info_at s id) (sym is ∙ there ∙ info_entry s id)

pub contract_entry : (s : State) (addr : List ℕ) → entry_of s (keys.contract addr) ≡ option_map contract (get s.contracts addr)
unfolding entry_of
contract_entry s addr = refl

same_contract : (one other : Option PlainContract) → option_map contract one ≡ option_map contract other → one ≡ other
same_contract (Some x) (Some y) e = cc
same_contract (Some x) None e = absurd cc
same_contract None (Some y) e = absurd cc
same_contract None None e = refl

pub contract_is : (s : State) (addr : List ℕ) (c : Option PlainContract) (o : Option PlainStored) → o ≡ entry_of s (keys.contract addr) → o ≡ option_map contract c → c ≡ get s.contracts addr
contract_is s addr c o there is = same_contract c (get s.contracts addr) (sym is ∙ there ∙ contract_entry s addr)
