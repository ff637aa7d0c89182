-- The parts of a text of bech32, one after another.
use Rattle.std.proofs.Common.{◌≡◌, ℕ, List, [], ◌∷◌, ◌++◌, ◌/◌, ◌%◌, map, refl, sym, ◌∙◌, ap, append_assoc}
use Rattle.std.specs.List.{fold}
use Rattle.std.proofs.lemmas.List.{map-append}
use Rattle.std.proofs.lemmas.List.Sums.{fold-append}
use Rattle.chain_addr.specs.Checksum.{step, expanded}
use Rattle.chain_addr.specs.Reading.{lower, value_of, remainder_of}
use Rattle.chain_addr.specs.Letters.{letter_of}

pub text_of_parts : (prefix groups check : List ℕ) → ((prefix ++ 49 ∷ []) ++ map letter_of groups) ++ map letter_of check ≡ prefix ++ 49 ∷ map letter_of (groups ++ check)
text_of_parts prefix groups check = simp append_assoc (ap (λ rest. prefix ++ 49 ∷ rest) (sym (map-append letter_of groups check)))

pub remainder_of_parts : (values groups check : List ℕ) (s t : ℕ) → s ≡ fold step 1 values → t ≡ fold step s groups → fold step t check ≡ 1 → fold step 1 (values ++ groups ++ check) ≡ 1
remainder_of_parts values groups check s t a b one =
    fold-append step 1 (values ++ groups) check ∙ ap (λ x. fold step x check) (fold-append step 1 values groups ∙ ap (λ x. fold step x groups) (sym a) ∙ sym b) ∙ one

fold-through : (g : ℕ → ℕ) (s : ℕ) (xs : List ℕ) → fold (λ s c. step s (g c)) s xs ≡ fold step s (map g xs)
fold-through g s [] = refl
fold-through g s (x ∷ xs) = fold-through g (step s (g x)) xs

map-through : (f g : ℕ → ℕ) (xs : List ℕ) → map (λ c. f (g c)) xs ≡ map f (map g xs)
map-through f g [] = refl
map-through f g (x ∷ xs) = ap (λ ys. f (g x) ∷ ys) (map-through f g xs)

pub remainder_of_text : (name characters : List ℕ) (high low all : ℕ) → high ≡ fold (λ s c. step s (lower c / 32)) 1 name → low ≡ fold (λ s c. step s (lower c % 32)) (step high 0) name → all ≡ fold (λ s c. step s (value_of c)) low characters → all ≡ remainder_of name characters
remainder_of_text name characters high low all h l a =
    let first : high ≡ fold step 1 (map (λ c. c / 32) (map lower name)) = h ∙ fold-through (λ c. lower c / 32) 1 name ∙ ap (fold step 1) (map-through (λ c. c / 32) lower name) in
    let second : low ≡ fold step (step high 0) (map (λ c. c % 32) (map lower name)) = l ∙ fold-through (λ c. lower c % 32) (step high 0) name ∙ ap (fold step (step high 0)) (map-through (λ c. c % 32) lower name) in
    let prefix : fold step 1 (expanded (map lower name)) ≡ low =
    fold-append step 1 (map (λ c. c / 32) (map lower name)) (0 ∷ map (λ c. c % 32) (map lower name))
    ∙ ap (λ s. fold step (step s 0) (map (λ c. c % 32) (map lower name))) (sym first) ∙ sym second in
    a ∙ fold-through value_of low characters ∙ ap (λ s. fold step s (map value_of characters)) (sym prefix) ∙ sym (fold-append step 1 (expanded (map lower name)) (map value_of characters))
