-- With another storage of a contract, a state that a map spells stays lawful.
use Rattle.std.proofs.Common.{◌≡◌, ◌≢◌, ◌⊎◌, inl, inr, ℕ, ◌≤◌, Bool, true, false, List, [], length, Option, Some, None, refl, sym, ap, ◌∙◌, subst, arith}
use Rattle.std.specs.Option.{option_map}
use Rattle.std.specs.Str.{bytes_eq}
use Rattle.std.specs.FinMap.{get}
use Rattle.std.proofs.lemmas.Slice.Eq.{bytes_eq-Decides}
use Rattle.chain_records.specs.Keys.{PlainKey, key_bytes, IsKey, IsAddress}
use Rattle.chain_records.specs.Keys as keys
use Rattle.chain_records.specs.Laws.{TellsKeys}
use Rattle.chain_records.specs.Records.{PlainStored, value, stored_bytes}
use Rattle.chain_records.specs.State.{State, entry_of, Spells}
use Rattle.kv_layers.specs.declared.layers.Layers.{Layers}
use Rattle.kv_layers.specs.Bytes.{Bytes}
use Rattle.kv_layers.specs.Layers.{Stands, HasCurrent}
use Rattle.kv_layers.specs.Maps.{Maps, changed}
use Rattle.gas_store.specs.Storage.{storage_of, IsOther, HasOthers}
use Rattle.gas_store.specs.Typed.{with_storage, SpellsChangedStorage}
use Rattle.query_router.specs.Lawful.{IsLawful, HasLawful}

bytes_cases : (a b : List ℕ) → (a ≡ b) ⊎ (a ≢ b)
bytes_cases a b = go (bytes_eq a b) refl
  where
    go : (r : Bool) → bytes_eq a b ≡ r → (a ≡ b) ⊎ (a ≢ b)
    go true e = inl ((bytes_eq-Decides a b).0 e)
    go false e = inr (λ p. let t = sym ((bytes_eq-Decides a b).1 p) ∙ e in absurd cc)

owner : PlainKey → List ℕ
owner (keys.storage addr key) = addr
owner _ = []

stored_at : (s : State) (addr key : List ℕ) → entry_of s (keys.storage addr key) ≡ option_map value (get s.storage (addr, key))
unfolding entry_of
stored_at s addr key = refl

module _ (tells : TellsKeys) (alone : SpellsChangedStorage) (old new : Bytes) (s : State) (addr : List ℕ) (address : IsAddress addr) (spelled : Spells old s) (lawful : IsLawful s) (others : HasOthers addr old new) where
  short : length addr ≤ 255
  short = let most = address.1 in omega arith

  pub now_spelled : Spells new (with_storage s addr (storage_of new addr))
  now_spelled = alone old new s addr short spelled others

  elsewhere : (x key : List ℕ) → x ≢ addr → IsKey (keys.storage x key) → IsOther addr (key_bytes (keys.storage x key))
  unfolding owner
  elsewhere x key other is_key k e =
      other (ap owner (tells (key_bytes (keys.storage x key)) (keys.storage x key) (keys.storage addr k) (record { is_key = is_key; same = refl }) (record { is_key = short; same = sym e })))

  had : (x key bytes : List ℕ) (found : Option (List ℕ)) → get s.storage (x, key) ≡ found → option_map stored_bytes (option_map value found) ≡ Some bytes → IsAddress x
  had x key bytes None is there = absurd cc
  had x key bytes (Some v) is there = lawful.contracts.storage x key v is

  keeps_address : (x key v : List ℕ) → get (with_storage s addr (storage_of new addr)).storage (x, key) ≡ Some v → IsAddress x
  keeps_address x key v is =
      let later = with_storage s addr (storage_of new addr) in
      let entry : entry_of (with_storage s addr (storage_of new addr)) (keys.storage x key) ≡ Some (value v) = stored_at (with_storage s addr (storage_of new addr)) x key ∙ ap (option_map value) is in
      elim (bytes_cases x addr) [
        | inl e ↦ subst IsAddress (sym e) address
        | inr n ↦
            let is_key = (now_spelled.well_formed (keys.storage x key) (value v) entry).0 in
            had x key (stored_bytes (value v)) (get s.storage (x, key)) refl
            (sym (ap (option_map stored_bytes) (stored_at s x key)) ∙ sym (spelled.same (keys.storage x key) is_key)
            ∙ sym (others (key_bytes (keys.storage x key)) (elsewhere x key n is_key))
            ∙ now_spelled.same (keys.storage x key) is_key ∙ ap (option_map stored_bytes) entry)
      ]

  pub now_lawful : IsLawful (with_storage s addr (storage_of new addr))
  now_lawful = record {
    prefix = lawful.prefix;
    authority = lawful.authority;
    amounts = record { sums = lawful.amounts.sums; bounded = lawful.amounts.bounded; accounts = lawful.amounts.accounts; supplies = lawful.amounts.supplies };
    codes = record {
      first = lawful.codes.first;
      few = lawful.codes.few;
      numbered = lawful.codes.numbered;
      codes = lawful.codes.codes;
      pinned = lawful.codes.pinned;
      few_pinned = lawful.codes.few_pinned;
    };
    contracts = record {
      contracts = λ a c is. let h = lawful.contracts.contracts a c is in (h.0, record { code = h.1.code; creator = h.1.creator; admin = h.1.admin });
      storage = keeps_address;
    };
  }

-- Layers that stand for a lawful state still do where one contract's own keys change alone.
module _ {B : Type 0} (S : B → Bytes → Type 0) (old new : Layers B) (tells : TellsKeys) (alone : SpellsChangedStorage) (addr : List ℕ) (address : IsAddress addr) where
  pub after_kept : ((maps : Maps) → Stands S old maps → (map : Bytes) × Stands S new (changed maps map) × HasOthers addr maps.current map) → HasLawful (HasCurrent S old) → HasLawful (HasCurrent S new)
  after_kept kept some =
      let maps = some.stands.0 in
      let spelled : Spells maps.current some.state = subst (λ (m : Bytes). Spells m some.state) (sym some.stands.2) some.spelled in
      let one = kept maps some.stands.1 in
      record {
        map = one.0;
        state = with_storage some.state addr (storage_of one.0 addr);
        stands = (changed maps one.0, one.1, refl);
        spelled = now_spelled tells alone maps.current one.0 some.state addr address spelled some.holds one.2;
        holds = now_lawful tells alone maps.current one.0 some.state addr address spelled some.holds one.2;
      }
