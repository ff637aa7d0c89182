-- What one more import adds to the index spaces.
use Rattle.std.proofs.Common.{◌≡◌, ℕ, ◌+◌, ◌<◌, List, [], ◌∷◌, ◌++◌, length, map, take, get_or, option_to_list, Option, Some, None, refl, sym, ap, ◌∙◌, add-one}
use Rattle.std.specs.List.{cons_option}
use Rattle.std.proofs.Math.Seq.{take-suc}
use Rattle.std.proofs.lemmas.List.{map-append, length-append}
use Rattle.std.proofs.lemmas.List.Elements.{filter_map-append}
use Rattle.wasm_types.specs.declared.import.Desc.{Desc}
use Rattle.wasm_types.specs.declared.import.Import.{Import}
use Rattle.wasm_types.specs.Plain.{PlainImport, plain_import}
use Rattle.wasm_types.specs.Validity.{imported}

abbrev pub so_far : {A : Type 0} → (Desc → Option A) → List Import → ℕ → List A
so_far what imports n = imported what (map plain_import (take n imports))

one_is : {A : Type 0} (o : Option A) → cons_option o [] ≡ option_to_list o
one_is None = refl
one_is (Some a) = refl

pub next : {A : Type 0} (what : Desc → Option A) (imports : List Import) (n : ℕ) (i : Import) → n < length imports → i ≡ get_or imports n i → so_far what imports (n + 1) ≡ so_far what imports n ++ option_to_list (what i.desc)
next {A} what imports n i within here =
    let more : take (n + 1) imports ≡ take n imports ++ i ∷ [] = rw add-one (take-suc imports n i within ∙ ap (λ (x : Import). take n imports ++ x ∷ []) (sym here)) in
    let split : map plain_import (take n imports ++ i ∷ []) ≡ map plain_import (take n imports) ++ plain_import i ∷ [] = map-append plain_import (take n imports) (i ∷ []) in
    ap (λ (l : List Import). imported what (map plain_import l)) more
    ∙ ap (imported what) split
    ∙ filter_map-append (λ (p : PlainImport). what p.desc) (map plain_import (take n imports)) (plain_import i ∷ [])
    ∙ ap (λ (l : List A). so_far what imports n ++ l) (one_is (what i.desc))

pub next_count : {A : Type 0} (what : Desc → Option A) (imports : List Import) (n : ℕ) (i : Import) → n < length imports → i ≡ get_or imports n i → length (so_far what imports (n + 1)) ≡ length (so_far what imports n) + length (option_to_list (what i.desc))
next_count what imports n i within here = ap length (next what imports n i within here) ∙ length-append (so_far what imports n) (option_to_list (what i.desc))
