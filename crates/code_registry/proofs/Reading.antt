-- The bytes that are found under the key of a code are those of the code.
use Rattle.std.proofs.Common.{◌≡◌, ℕ, List, Option, Some, None, refl, sym, ap, ◌∙◌, subst}
use Rattle.std.specs.Option.{option_map, is_some}
use Rattle.std.specs.FinMap.{get}
use Rattle.chain_records.specs.Keys.{IsKeyOf}
use Rattle.chain_records.specs.Keys as keys
use Rattle.chain_records.specs.Records.{PlainStored, code_bytes, mark, stored_bytes}
use Rattle.chain_records.specs.State.{Bytes, Code, State, entry_of, Spells, IsFound}
use Rattle.chain_records.specs.Laws.{SpellsRecords}
use Rattle.code_registry.specs.Codes.{bytes_at}

found_at : SpellsRecords → (map : Bytes) (s : State) (id : ℕ) (place : List ℕ) (found : Option (List ℕ)) → IsKeyOf place (keys.code id) → Spells map s → found ≡ get map place → IsFound (keys.code id) found (entry_of s (keys.code id))
found_at law map s id place found of spelled is =
    subst (λ (f : Option (List ℕ)). IsFound (keys.code id) f (entry_of s (keys.code id))) (ap (get map) of.same ∙ sym is) (law map s (keys.code id) spelled of.is_key)

abbrev bytes_of : Code → PlainStored
bytes_of c = code_bytes c.bytes

the_code : (o : Option Code) (record_there : PlainStored) (bytes : List ℕ) → option_map bytes_of o ≡ Some record_there → stored_bytes record_there ≡ bytes → (code : Code) × (o ≡ Some code) × (bytes ≡ code.bytes)
unfolding stored_bytes
the_code (Some c) record_there bytes e same =
    let is : code_bytes c.bytes ≡ record_there = only (code_bytes c.bytes) record_there e in
    (c, refl, sym same ∙ ap stored_bytes (sym is))
  where
    only : (one other : PlainStored) → Some one ≡ Some other → one ≡ other
    only one other e = cc
the_code None record_there bytes e same = absurd cc

pub found_code : SpellsRecords → (map : Bytes) (s : State) (id : ℕ) (place bytes : List ℕ) → IsKeyOf place (keys.code id) → Spells map s → Some bytes ≡ get map place → (code : Code) × (get s.codes id ≡ Some code) × (bytes ≡ code.bytes)
unfolding entry_of
found_code law map s id place bytes of spelled is =
    let there = found_at law map s id place (Some bytes) of spelled is in
    the_code (get s.codes id) there.0 bytes there.1 there.2.same

no_code : (o : Option Code) → option_map bytes_of o ≡ None → o ≡ None
no_code (Some c) e = absurd cc
no_code None e = refl

pub found_none : SpellsRecords → (map : Bytes) (s : State) (id : ℕ) (place : List ℕ) → IsKeyOf place (keys.code id) → Spells map s → None ≡ get map place → bytes_at s id ≡ None
unfolding entry_of
found_none law map s id place of spelled is = ap (option_map (λ (c : Code). c.bytes)) (no_code (get s.codes id) (found_at law map s id place None of spelled is))

marks : (o : Option (Unit {0})) → is_some (option_map (λ (p : Unit {0}). mark) o) ≡ is_some o
marks (Some u) = refl
marks None = refl

pub pin_there : (s : State) (id : ℕ) → is_some (entry_of s (keys.pin id)) ≡ is_some (get s.pins id)
unfolding entry_of
pin_there s id = marks (get s.pins id)
