-- Pins that are written and removed one after another.
use Rattle.std.proofs.Common.{◌≡◌, ℕ, List, [], ◌∷◌, ◌++◌, sym, ap, ◌∙◌, subst}
use Rattle.kv_layers.specs.declared.layers.Layers.{Layers}
use Rattle.kv_layers.specs.Maps.{changed}
use Rattle.kv_layers.specs.Spelling.{Writes}
use Rattle.chain_records.specs.State.{Bytes, State, Spells}
use Rattle.state_records.specs.Records.{with_pin, without_pin}
use Rattle.code_registry.specs.Codes.{Pins, pins_with, pins_without, pinned, unpinned}
use Rattle.code_registry.proofs.PinnedIds.{with_more, without_more}

module _ {B : Type 0} (S : B → Bytes → Type 0) where
  pub Writes-nothing : (a : Layers B) → Writes Spells S a a (λ s. s)
  Writes-nothing a maps s stands spelled = (maps.current, stands, spelled)

  pub one_more_pinned : (a b c : Layers B) (ids more : List ℕ) (id : ℕ) → more ≡ ids ++ id ∷ [] → Writes Spells S a b (λ s. pinned s ids) → Writes Spells S b c (λ s. with_pin s id) → Writes Spells S a c (λ s. pinned s more)
  one_more_pinned a b c ids more id is first then maps s stands spelled =
      let one = first maps s stands spelled in
      let two = then (changed maps one.0) (pinned s ids) one.1 one.2 in
      (two.0, two.1, subst (λ (p : Pins). Spells two.0 (record s { pins = p })) (sym (with_more s.pins ids id) ∙ ap (pins_with s.pins) (sym is)) two.2)

  pub these_pinned : (a b : Layers B) (ids all : List ℕ) → ids ≡ all → Writes Spells S a b (λ s. pinned s ids) → Writes Spells S a b (λ s. pinned s all)
  these_pinned a b ids all is = subst (λ (these : List ℕ). Writes Spells S a b (λ s. pinned s these)) is

  pub one_more_unpinned : (a b c : Layers B) (ids more : List ℕ) (id : ℕ) → more ≡ ids ++ id ∷ [] → Writes Spells S a b (λ s. unpinned s ids) → Writes Spells S b c (λ s. without_pin s id) → Writes Spells S a c (λ s. unpinned s more)
  one_more_unpinned a b c ids more id is first then maps s stands spelled =
      let one = first maps s stands spelled in
      let two = then (changed maps one.0) (unpinned s ids) one.1 one.2 in
      (two.0, two.1, subst (λ (p : Pins). Spells two.0 (record s { pins = p })) (sym (without_more s.pins ids id) ∙ ap (pins_without s.pins) (sym is)) two.2)

  pub these_unpinned : (a b : Layers B) (ids all : List ℕ) → ids ≡ all → Writes Spells S a b (λ s. unpinned s ids) → Writes Spells S a b (λ s. unpinned s all)
  these_unpinned a b ids all is = subst (λ (these : List ℕ). Writes Spells S a b (λ s. unpinned s these)) is
