-- The opcodes that the definition knows are those that the ranges name.
use Rattle.std.proofs.Common.{◌≡◌, ℕ, zero, suc, ◌+◌, ◌-◌, Bool, true, false, cond, eqb, ltb, leb, ◌&&◌, ◌||◌, List, [], ◌∷◌, length, Option, Some, is_some, refl, sym, ap, ap₂, ◌∙◌, arith}
use Rattle.std.specs.Prelude.{slice_get, None, Result, Ok}
use Rattle.std.specs.Option.{option_map}
use Rattle.std.proofs.lemmas.Bool.Decides.{nat_tests}
use Rattle.int_ops.specs.declared.num.Num.{Num}
use Rattle.int_ops.specs.declared.num.Num.TheVariants.{I32, I64}
use Rattle.int_ops.specs.declared.num.NumTrap.{NumTrap}
use Rattle.int_ops.specs.Numerics.{num, on_i32, on_i64, on_two, entry, is_between, takes_one, takes_two, relations, operations, counts, test_of, operation_of, as_num}

cond_some : {X : Type 0} (b : Bool) (x : X) (rest : Option X) → is_some (cond b (Some x) rest) ≡ (b || is_some rest)
cond_some true x rest = refl
cond_some false x rest = refl

mapped : {X Y : Type 0} (f : X → Y) (o : Option X) → is_some (option_map f o) ≡ is_some o
mapped f None = refl
mapped f (Some x) = refl

five : {X : Type 0} (a b c d e : Bool) (x1 x2 x3 x4 x5 : X) (rest : Option X)
    → is_some (cond a (Some x1) (cond b (Some x2) (cond c (Some x3) (cond d (Some x4) (cond e (Some x5) rest))))) ≡ (a || (b || (c || (d || (e || is_some rest)))))
five a b c d e x1 x2 x3 x4 x5 rest =
    cond_some a x1 _ ∙ ap (λ (t : Bool). a || t) (cond_some b x2 _ ∙ ap (λ (t : Bool). b || t) (cond_some c x3 _
    ∙ ap (λ (t : Bool). c || t) (cond_some d x4 _ ∙ ap (λ (t : Bool). d || t) (cond_some e x5 rest))))

first : (n : ℕ) → true ≡ ltb 0 (suc n)
first n = grind (arith, nat_tests)

later : (k n : ℕ) → ltb k n ≡ ltb (suc k) (suc n)
later k n = grind (arith, nat_tests)

got : {X : Type 0} (xs : List X) (k : ℕ) → is_some (slice_get xs k) ≡ ltb k (length xs)
got [] k = grind (arith, nat_tests)
got (x ∷ xs) zero = first (length xs)
got (x ∷ xs) (suc k) = got xs k ∙ later k (length xs)

entered : {X : Type 0} (table : List X) (first op : ℕ) → is_some (entry table first op) ≡ (leb first op && ltb (op - first) (length table))
entered table first op = by (leb first op)
  where
    by : (b : Bool) → is_some (cond b (slice_get table (op - first)) None) ≡ (b && ltb (op - first) (length table))
    by true = got table (op - first)
    by false = refl

ranges_i32 : (op : ℕ) → (eqb op 0x45 || (eqb op 0xAC || (eqb op 0xAD || (eqb op 0xC0 || (eqb op 0xC1 || (leb 0x67 op && ltb (op - 0x67) 3)))))) ≡ (((eqb op 0x45 || is_between 0x67 op 0x69) || is_between 0xAC op 0xAD) || is_between 0xC0 op 0xC1)
ranges_i32 op = grind (arith, nat_tests)

ranges_i64 : (op : ℕ) → (eqb op 0x50 || (eqb op 0xA7 || (eqb op 0xC2 || (eqb op 0xC3 || (eqb op 0xC4 || (leb 0x79 op && ltb (op - 0x79) 3)))))) ≡ (((eqb op 0x50 || is_between 0x79 op 0x7B) || eqb op 0xA7) || is_between 0xC2 op 0xC4)
ranges_i64 op = grind (arith, nat_tests)

pub one_i32 : (op i : ℕ) → takes_one op (I32 i) ≡ is_some (num op (I32 i ∷ []))
unfolding num
one_i32 op i =
    sym (mapped Ok (on_i32 op i)
    ∙ five (eqb op 0x45) (eqb op 0xAC) (eqb op 0xAD) (eqb op 0xC0) (eqb op 0xC1) _ _ _ _ _ _
    ∙ ap (λ (t : Bool). eqb op 0x45 || (eqb op 0xAC || (eqb op 0xAD || (eqb op 0xC0 || (eqb op 0xC1 || t))))) (mapped _ (entry counts 0x67 op) ∙ entered counts 0x67 op)
    ∙ ranges_i32 op)

pub one_i64 : (op i : ℕ) → takes_one op (I64 i) ≡ is_some (num op (I64 i ∷ []))
unfolding num
one_i64 op i =
    sym (mapped Ok (on_i64 op i)
    ∙ five (eqb op 0x50) (eqb op 0xA7) (eqb op 0xC2) (eqb op 0xC3) (eqb op 0xC4) _ _ _ _ _ _
    ∙ ap (λ (t : Bool). eqb op 0x50 || (eqb op 0xA7 || (eqb op 0xC2 || (eqb op 0xC3 || (eqb op 0xC4 || t))))) (mapped _ (entry counts 0x79 op) ∙ entered counts 0x79 op)
    ∙ ranges_i64 op)

either : (test : Option Bool) (operation : Option (Result ℕ NumTrap)) (of_width : ℕ → Num) → is_some (on_two test operation of_width) ≡ (is_some test || is_some operation)
either None operation of_width = mapped (as_num of_width) operation
either (Some b) operation of_width = refl

pub two : (n first_test first op i j : ℕ) (of_width : ℕ → Num) → is_some (on_two (test_of n first_test op i j) (operation_of n first op i j) of_width) ≡ ((leb first_test op && ltb (op - first_test) 10) || (leb first op && ltb (op - first) 15))
two n first_test first op i j of_width =
    either (test_of n first_test op i j) (operation_of n first op i j) of_width
    ∙ ap₂ (λ (a b : Bool). a || b) (mapped _ (entry relations first_test op) ∙ entered relations first_test op) (mapped _ (entry operations first op) ∙ entered operations first op)

ranges : (a b op : ℕ) → ((leb a op && ltb (op - a) 10) || (leb b op && ltb (op - b) 15)) ≡ (is_between a op (a + 9) || is_between b op (b + 14))
ranges a b op = grind (arith, nat_tests)

pub two_i32 : (op i j : ℕ) → takes_two op (I32 i) (I32 j) ≡ is_some (num op (I32 i ∷ I32 j ∷ []))
unfolding num
two_i32 op i j = sym (two 32 0x46 0x6A op i j I32 ∙ ranges 0x46 0x6A op)

pub two_i64 : (op i j : ℕ) → takes_two op (I64 i) (I64 j) ≡ is_some (num op (I64 i ∷ I64 j ∷ []))
unfolding num
two_i64 op i j = sym (two 64 0x51 0x7C op i j I64 ∙ ranges 0x51 0x7C op)

-- for all operands
pub takes_one_is : (op : ℕ) (a : Num) → takes_one op a ≡ is_some (num op (a ∷ []))
takes_one_is op (I32 i) = one_i32 op i
takes_one_is op (I64 i) = one_i64 op i

pub takes_two_is : (op : ℕ) (a b : Num) → takes_two op a b ≡ is_some (num op (a ∷ b ∷ []))
unfolding num
takes_two_is op (I32 i) (I32 j) = two_i32 op i j
takes_two_is op (I64 i) (I64 j) = two_i64 op i j
takes_two_is op (I32 i) (I64 j) = refl
takes_two_is op (I64 i) (I32 j) = refl
