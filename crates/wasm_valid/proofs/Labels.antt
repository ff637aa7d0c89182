-- The label of a block that is open, by its number from the innermost one on.
use Rattle.std.proofs.Common.{◌≡◌, ℕ, zero, suc, ◌-◌, ◌<◌, ◌≤◌, List, ◌∷◌, length, map, reverse, get_or, Option, Some, None, sym, ap, ◌∙◌, arith}
use Rattle.std.specs.Prelude.{slice_get, option_map}
use Rattle.std.proofs.lemmas.Option.{slice_get-map, slice_get-get_or, slice_get_past}
use Rattle.std.proofs.lemmas.List.{get_or-reverse, length-reverse}
use Rattle.wasm_types.specs.declared.value.ValType.{ValType}
use Rattle.wasm_valid.specs.declared.blocks.OpenBlock.{OpenBlock}
use Rattle.wasm_valid.specs.Frames.{Frame, frame, labels}

abbrev label_of : Frame → Option ValType
label_of f = f.label

-- a place behind the first one is a place of the others
later_place : (l : Option ValType) (fs : List Frame) (d : ℕ) → 0 < d → slice_get (l ∷ labels fs) d ≡ option_map label_of (slice_get fs (d - 1))
later_place l fs zero some = absurd (omega (arith, some))
later_place l fs (suc d) some =
    let e : suc d - 1 ≡ d = omega arith in
    rw e (slice_get-map label_of fs d)

module _ (l : Option ValType) (outer : List OpenBlock) (n d : ℕ) (long : n ≡ length outer) where
  pub outer_label : (block : OpenBlock) → 0 < d → d ≤ n → block ≡ get_or outer (n - d) block → Some block.label ≡ slice_get (l ∷ labels (map frame (reverse outer))) d
  outer_label block some within e =
      let place : d - 1 < length outer = omega (arith, long) in
      let reversed : d - 1 < length (reverse outer) = omega (arith, long, length-reverse outer) in
      let k : length outer - 1 - (d - 1) ≡ n - d = omega (arith, long) in
      let here : slice_get (reverse outer) (d - 1) ≡ Some block =
      slice_get-get_or (reverse outer) (d - 1) block reversed ∙ ap Some (get_or-reverse outer (d - 1) block place ∙ ap (λ (i : ℕ). get_or outer i block) k ∙ sym e) in
      sym (later_place l (map frame (reverse outer)) d some ∙ ap (option_map label_of) (slice_get-map frame (reverse outer) (d - 1)) ∙ ap (λ (o : Option OpenBlock). option_map label_of (option_map frame o)) here)

  pub no_label : n < d → None ≡ slice_get (l ∷ labels (map frame (reverse outer))) d
  no_label past =
      let m : length (reverse outer) ≤ d - 1 = omega (arith, long, length-reverse outer) in
      sym (later_place l (map frame (reverse outer)) d (omega arith) ∙ ap (option_map label_of) (slice_get-map frame (reverse outer) (d - 1)) ∙ ap (λ (o : Option OpenBlock). option_map label_of (option_map frame o)) (slice_get_past (reverse outer) (d - 1) m))
