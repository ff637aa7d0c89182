-- Codes that are named by numbers, as the cache sees them.
use Rattle.std.proofs.Common.{◌≡◌, ℕ, Bool, true, false, ◌&&◌, ◌||◌, not, cond, List, [], ◌∷◌, map, ◌==◌, refl, ap, ◌∙◌}
use Rattle.std.specs.List.{filter, list_any}
use Rattle.gatekeeper.specs.Cache.{is_among, all_but, to_front}
use Rattle.node_core.specs.Steps.{named}

and_true : (b : Bool) → (b && true) ≡ b
and_true true = refl
and_true false = refl

pub among_named : (code : ℕ) (xs : List ℕ) → is_among (named code) (map named xs) ≡ list_any (λ c. c == code) xs
among_named code [] = refl
among_named code (x ∷ xs) =
    ap (λ b. b || is_among (named code) (map named xs)) (and_true (x == code)) ∙ ap (λ b. (x == code) || b) (among_named code xs)

all_but_named : (code : ℕ) (xs : List ℕ) → all_but (named code) (map named xs) ≡ map named (filter (λ c. not (c == code)) xs)
all_but_named code [] = refl
all_but_named code (x ∷ xs) =
    ap (λ b. cond (not b) (named x ∷ all_but (named code) (map named xs)) (all_but (named code) (map named xs))) (and_true (x == code))
    ∙ elim (x == code) as (λ b. cond (not b) (named x ∷ all_but (named code) (map named xs)) (all_but (named code) (map named xs)) ≡ map named (cond (not b) (x ∷ filter (λ c. not (c == code)) xs) (filter (λ c. not (c == code)) xs))) [
      | true ↦ all_but_named code xs
      | false ↦ ap (λ l. named x ∷ l) (all_but_named code xs)
    ]

pub front_named : (code : ℕ) (xs : List ℕ) → to_front (named code) (map named xs) ≡ map named (code ∷ filter (λ c. not (c == code)) xs)
front_named code xs = ap (λ l. named code ∷ l) (all_but_named code xs)
