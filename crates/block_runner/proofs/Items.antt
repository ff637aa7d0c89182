-- Reading the items of a list one by one.
use Rattle.std.proofs.Common.{◌≡◌, ◌∙◌, List, [], ◌∷◌, ◌++◌, Option, None, Some, option_map, refl, sym, ap}
use Rattle.std.specs.Option.{option_and_then}
use Rattle.std.proofs.lemmas.List.{append_assoc}
use Rattle.block_runner.specs.Opening.{all_read}

-- items that were read, and those that are left, if all of these can be read
abbrev pub with_front : {A : Type 0} → List A → Option (List A) → Option (List A)
with_front front rest = option_map (λ xs. front ++ xs) rest

pub front_none : {A : Type 0} (rest : Option (List A)) → with_front [] rest ≡ rest
front_none None = refl
front_none (Some xs) = refl

front_push : {A : Type 0} (front : List A) (y : A) (rest : Option (List A)) → with_front (front ++ y ∷ []) rest ≡ with_front front (option_map (λ ys. y ∷ ys) rest)
front_push front y None = refl
front_push front y (Some ys) = ap Some (append_assoc front (y ∷ []) ys)

read_first : {A B : Type 0} (read : A → Option B) (x : A) (xs : List A) (y : B) → read x ≡ Some y → all_read read (x ∷ xs) ≡ option_map (λ ys. y ∷ ys) (all_read read xs)
read_first read x xs y is = ap (option_and_then (λ z. option_map (λ ys. z ∷ ys) (all_read read xs))) is

pub front_more : {A B : Type 0} (read : A → Option B) (front : List B) (x : A) (xs : List A) (y : B) → read x ≡ Some y → with_front (front ++ y ∷ []) (all_read read xs) ≡ with_front front (all_read read (x ∷ xs))
front_more read front x xs y is = front_push front y (all_read read xs) ∙ ap (with_front front) (sym (read_first read x xs y is))

pub front_stopped : {A B : Type 0} (read : A → Option B) (front : List B) (x : A) (xs : List A) → read x ≡ None → with_front front (all_read read (x ∷ xs)) ≡ None
front_stopped read front x xs is = ap (λ o. with_front front (option_and_then (λ z. option_map (λ ys. z ∷ ys) (all_read read xs)) o)) is
