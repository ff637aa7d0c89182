-- Operands of several types are taken one after the other.
use Rattle.std.proofs.Common.{◌≡◌, Bool, true, List, [], ◌∷◌, ◌++◌, reverse, length, Option, Result, Ok, Err, refl, ◌∙◌, arith}
use Rattle.wasm_types.specs.declared.value.ValType.{ValType}
use Rattle.wasm_types.specs.declared.kind.ValidKind.{ValidKind}
use Rattle.wasm_types.specs.Typing.{Operands, ◌>>=◌, taken, all_taken, any_operands}

pub taken_both : (xs ys : List ValType) (from : Operands) → all_taken (xs ++ ys) from ≡ (all_taken xs from >>= all_taken ys)
taken_both [] ys from = refl
taken_both (t ∷ xs) ys from = go (λ left. taken_both xs ys left) (taken t from)
  where
    go : ((left : Operands) → all_taken (xs ++ ys) left ≡ (all_taken xs left >>= all_taken ys)) → (r : Result Operands ValidKind) → (r >>= all_taken (xs ++ ys)) ≡ ((r >>= all_taken xs) >>= all_taken ys)
    go later (Ok left) = later left
    go later (Err kind) = refl

-- the first are taken, and then the others
pub then_taken : (xs ys : List ValType) (from left : Operands) → all_taken xs from ≡ Ok left → all_taken (xs ++ ys) from ≡ all_taken ys left
then_taken xs ys from left e = rw (taken_both xs ys from) (rw e refl)

pub not_taken : (xs ys : List ValType) (from : Operands) (kind : ValidKind) → all_taken xs from ≡ Err kind → all_taken (xs ++ ys) from ≡ Err kind
not_taken xs ys from kind e = rw (taken_both xs ys from) (rw e refl)

pub second_not_taken : (xs ys zs : List ValType) (from left : Operands) (kind : ValidKind) → all_taken xs from ≡ Ok left → all_taken ys left ≡ Err kind → all_taken (xs ++ (ys ++ zs)) from ≡ Err kind
second_not_taken xs ys zs from left kind e f = then_taken xs (ys ++ zs) from left e ∙ not_taken ys zs left kind f

-- where none is left after a branch, whatever is wanted is there, and none is left
any_taken : (ts : List ValType) → all_taken ts any_operands ≡ Ok any_operands
any_taken [] = refl
any_taken (t ∷ ts) = any_taken ts

pub all_there : (types : List (Option ValType)) (any : Bool) (ts : List ValType) → length types ≡ 0 → any ≡ true
    → all_taken ts (record { types = reverse types; any = any }) ≡ Ok (record { types = reverse types; any = any })
all_there [] any ts none e =
    rw e (any_taken ts)
all_there (t ∷ types) any ts none e = absurd (omega arith)
