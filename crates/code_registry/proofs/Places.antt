-- From which bytes on the keys of pins stand.
use Rattle.std.proofs.Common.{◌≡◌, ℕ, ◌+◌, true, List, [], ◌∷◌, ◌++◌, refl, ap, ◌∙◌, subst, arith}
use Rattle.std.proofs.lemmas.Bool.Decides.{nat_tests}
use Rattle.std.specs.declared.cmp.Ordering.TheVariants.{Less, Equal, Greater}
use Rattle.std.specs.Ordering.{nat_cmp, is_le, is_lt, ordering_then, ordering_reverse}
use Rattle.std.specs.Cmp.{ranked}
use Rattle.std.specs.Cmp.Lexicographic.{slice_cmp, nat_list_cmp_total}
use Rattle.chain_records.specs.Keys.{key_bytes, IsKeyOf, pin}
use Rattle.chain_records.specs.Order.{OrdersNumbers, OrdersKinds}
use Rattle.code_registry.specs.Steps.{IsPlace}

-- the key with a byte 0 more is the next greater one
after_le : (key q : List ℕ) → is_le (slice_cmp nat_cmp (key ++ 0 ∷ []) q) ≡ is_lt (slice_cmp nat_cmp key q)
after_le [] [] = refl
after_le [] (y ∷ ys) =
    elim (nat_cmp 0 y) as (λ r. r ≡ nat_cmp 0 y → is_le (ordering_then r (slice_cmp nat_cmp [] ys)) ≡ true) [
      | Less ↦ λ _. refl
      | Equal ↦ λ _. elim ys as (λ zs. is_le (slice_cmp nat_cmp [] zs) ≡ true) [ [] ↦ refl | (z ∷ zs) ↦ refl ]
      | Greater ↦ λ e. absurd (omega (arith, ranked 0 y Greater e))
    ] refl
after_le (x ∷ xs) [] = refl
after_le (x ∷ xs) (y ∷ ys) =
    elim (nat_cmp x y) as (λ r. is_le (ordering_then r (slice_cmp nat_cmp (xs ++ 0 ∷ []) ys)) ≡ is_lt (ordering_then r (slice_cmp nat_cmp xs ys))) [
      | Less ↦ refl
      | Equal ↦ after_le xs ys
      | Greater ↦ refl
    ]

turned : (one other : List ℕ) → slice_cmp nat_cmp other one ≡ Less → slice_cmp nat_cmp one other ≡ Greater
turned one other less = nat_list_cmp_total.antisymm one other ∙ ap ordering_reverse less

less_next : (a b : ℕ) → is_lt (nat_cmp a b) ≡ is_le (nat_cmp (a + 1) b)
less_next a b = grind (arith, nat_tests)

pub first_place : OrdersNumbers pin → OrdersKinds → (place : List ℕ) → IsKeyOf place (pin 0) → IsPlace place 0
first_place numbers kinds place is = subst (λ (p : List ℕ). IsPlace p 0) is.same (record {
  pins = λ id small. ap is_le (numbers 0 id (omega arith) small);
  kinds = λ key less. ap is_le (turned (key_bytes (pin 0)) (key_bytes key) (kinds key (pin 0) less));
})

pub next_place : OrdersNumbers pin → OrdersKinds → (id : ℕ) (key : List ℕ) → IsKeyOf key (pin id) → IsPlace (key ++ 0 ∷ []) (id + 1)
next_place numbers kinds id key is = subst (λ (k : List ℕ). IsPlace (k ++ 0 ∷ []) (id + 1)) is.same (record {
  pins = λ other small. after_le (key_bytes (pin id)) (key_bytes (pin other)) ∙ ap is_lt (numbers id other is.is_key small) ∙ less_next id other;
  kinds = λ other less. after_le (key_bytes (pin id)) (key_bytes other) ∙ ap is_lt (turned (key_bytes (pin id)) (key_bytes other) (kinds other (pin id) less));
})
