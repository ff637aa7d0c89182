-- What is found under the key of a contract's storage is what the state has there.
use Rattle.std.proofs.Common.{◌≡◌, ℕ, List, Option, Some, None, refl, sym, ap, ◌∙◌, subst}
use Rattle.std.specs.Option.{option_map}
use Rattle.std.specs.FinMap.{get}
use Rattle.chain_records.specs.Keys.{IsKeyOf}
use Rattle.chain_records.specs.Keys as keys
use Rattle.chain_records.specs.Records.{PlainStored, value, stored_bytes}
use Rattle.chain_records.specs.State.{Bytes, State, entry_of, Spells, IsFound}
use Rattle.chain_records.specs.Laws.{SpellsRecords}
use Rattle.query_router.specs.Queries.{or_nothing}

found_at : SpellsRecords → (map : Bytes) (s : State) (addr key place : List ℕ) (found : Option (List ℕ)) → IsKeyOf place (keys.storage addr key) → Spells map s → found ≡ get map place → IsFound (keys.storage addr key) found (entry_of s (keys.storage addr key))
found_at law map s addr key place found of spelled is =
    subst (λ (f : Option (List ℕ)). IsFound (keys.storage addr key) f (entry_of s (keys.storage addr key))) (ap (get map) of.same ∙ sym is) (law map s (keys.storage addr key) spelled of.is_key)

the_value : (o : Option (List ℕ)) (stored : PlainStored) (bytes : List ℕ) → option_map value o ≡ Some stored → stored_bytes stored ≡ bytes → bytes ≡ or_nothing o
unfolding stored_bytes
the_value (Some v) stored bytes e same =
    let is : value v ≡ stored = only (value v) stored e in
    sym same ∙ ap stored_bytes (sym is)
  where
    only : (one other : PlainStored) → Some one ≡ Some other → one ≡ other
    only one other e = cc
the_value None stored bytes e same = absurd cc

no_value : (o : Option (List ℕ)) → option_map value o ≡ None → or_nothing None ≡ or_nothing o
no_value (Some v) e = absurd cc
no_value None e = refl

pub value_found : SpellsRecords → (map : Bytes) (s : State) (addr key place : List ℕ) (found : Option (List ℕ)) → IsKeyOf place (keys.storage addr key) → Spells map s → found ≡ get map place → or_nothing found ≡ or_nothing (get s.storage (addr, key))
unfolding entry_of
value_found law map s addr key place (Some bytes) of spelled is =
    let there = found_at law map s addr key place (Some bytes) of spelled is in
    the_value (get s.storage (addr, key)) there.0 bytes there.1 there.2.same
value_found law map s addr key place None of spelled is = no_value (get s.storage (addr, key)) (found_at law map s addr key place None of spelled is)
