-- What is copied of an older run, step by step.
use Rattle.std.proofs.Common.{◌≡◌, ℕ, true, cond, List, [], ◌∷◌, ◌++◌, map, Option, Some, None, refl, sym, ◌∙◌, ap, append_assoc, length, arith}
use Rattle.std.specs.Global.{Vec}
use Rattle.std.proofs.lemmas.List.{map-append}
use Rattle.kv_layers.specs.Next.{is_below}
use Rattle.kv_layers.specs.Rising.{change_view}
use Rattle.state_runs.specs.Places.{below, from, past}
use Rattle.state_runs.proofs.Laid.{laid_over}
use Rattle.state_runs.proofs.Places.{Listed}

-- the first change is below the bound, and was copied
pub copied-step : (end : Option (List ℕ)) (copies more : Listed) (change copy : Vec ℕ × Option (Vec ℕ)) (rest later : Listed) → more ≡ copies ++ copy ∷ [] → change_view copy ≡ change_view change → rest ≡ change ∷ later → is_below end change.0.items ≡ true → map change_view more ++ below end (map change_view later) ≡ map change_view copies ++ below end (map change_view rest)
copied-step end copies more change copy rest later pushed same is test =
    let B = below end (map change_view later) in
    ap (λ xs. map change_view xs ++ B) pushed
    ∙ ap (λ xs. xs ++ B) (map-append change_view copies (copy ∷ []))
    ∙ append_assoc (map change_view copies) (change_view copy ∷ []) B
    ∙ ap (λ x. map change_view copies ++ x ∷ B) same
    ∙ ap (λ b. map change_view copies ++ cond b (change_view change ∷ B) []) (sym test)
    ∙ ap (λ xs. map change_view copies ++ below end (map change_view xs)) (sym is)

pub from-step : (end : Option (List ℕ)) (change : Vec ℕ × Option (Vec ℕ)) (rest later : Listed) → rest ≡ change ∷ later → is_below end change.0.items ≡ true → from end (map change_view later) ≡ from end (map change_view rest)
from-step end change rest later is test =
    ap (λ b. cond b (from end (map change_view later)) (map change_view (change ∷ later))) (sym test)
    ∙ ap (λ xs. from end (map change_view xs)) (sym is)

pub none-left : (changes : Listed) → length changes ≡ 0 → changes ≡ []
none-left [] e = refl
none-left (c ∷ changes) e = absurd (omega arith)

-- a change of the newer run is laid over what is left of the older one
pub laid-step : (both copies more : Listed) (change : Vec ℕ × Option (Vec ℕ)) (newer later rest left : Listed) → map change_view copies ≡ map change_view both ++ below (Some change.0.items) (map change_view rest) → more ≡ copies ++ change ∷ [] → map change_view left ≡ past change.0.items (from (Some change.0.items) (map change_view rest)) → newer ≡ change ∷ later → map change_view more ++ laid_over (map change_view later) (map change_view left) ≡ map change_view both ++ laid_over (map change_view newer) (map change_view rest)
laid-step both copies more change newer later rest left copied pushed passed is =
    let L = laid_over (map change_view later) (map change_view left) in
    let B = below (Some change.0.items) (map change_view rest) in
    ap (λ xs. map change_view xs ++ L) pushed
    ∙ ap (λ xs. xs ++ L) (map-append change_view copies (change ∷ []))
    ∙ append_assoc (map change_view copies) (change_view change ∷ []) L
    ∙ ap (λ xs. xs ++ change_view change ∷ L) copied
    ∙ append_assoc (map change_view both) B (change_view change ∷ L)
    ∙ ap (λ xs. map change_view both ++ (B ++ change_view change ∷ laid_over (map change_view later) xs)) passed
    ∙ ap (λ xs. map change_view both ++ laid_over (map change_view xs) (map change_view rest)) (sym is)

-- no change of the newer run is left
pub laid-end : (both copies newer rest : Listed) → map change_view copies ≡ map change_view both ++ below None (map change_view rest) → newer ≡ [] → map change_view copies ≡ map change_view both ++ laid_over (map change_view newer) (map change_view rest)
laid-end both copies newer rest copied none = copied ∙ ap (λ xs. map change_view both ++ laid_over (map change_view xs) (map change_view rest)) (sym none)
