-- Writing a module section by section.
use Rattle.std.proofs.Common.{◌≡◌, ℕ, List, [], ◌∷◌, ◌++◌, map, refl, sym, ap, ◌∙◌, append_assoc}
use Rattle.std.proofs.lemmas.List.{length-map}
use Rattle.std.proofs.lemmas.List.Folds.{flat_map-map}
use Rattle.wasm_writer.specs.Spelling.{vector_text, sized_text, section_text}

pub vector_map : {A B : Type 0} (text : B → List ℕ) (view : A → B) (items : List A) → vector_text (λ a. text (view a)) items ≡ vector_text text (map view items)
unfolding vector_text
vector_map text view items = sym (rw (length-map items view, flat_map-map text view items) refl)

pub section_map : {A B : Type 0} (k : ℕ) (text : B → List ℕ) (view : A → B) (items : List A) → section_text k (λ a. text (view a)) items ≡ section_text k text (map view items)
section_map k text view [] = refl
section_map k text view (a ∷ items) = ap (λ (t : List ℕ). k ∷ sized_text t) (vector_map text view (a ∷ items))

-- behind some sections, one section more
module _ (before after front added : List ℕ) (k : ℕ) where
  pub more : {A : Type 0} (text : A → List ℕ) (slice items : List A) → before ≡ front ++ added → after ≡ before ++ section_text k text slice → slice ≡ items → after ≡ front ++ (added ++ section_text k text items)
  more text slice items e f same =
      f ∙ ap (λ (t : List ℕ). t ++ section_text k text slice) e ∙ append_assoc front added (section_text k text slice) ∙ ap (λ l. front ++ (added ++ section_text k text l)) same

  pub more_seen : {A B : Type 0} (text : B → List ℕ) (view : A → B) (slice items : List A) → before ≡ front ++ added → after ≡ before ++ section_text k (λ a. text (view a)) slice → slice ≡ items → after ≡ front ++ (added ++ section_text k text (map view items))
  more_seen text view slice items e f same =
      more (λ a. text (view a)) slice items e f same ∙ ap (λ (t : List ℕ). front ++ (added ++ t)) (section_map k text view items)
