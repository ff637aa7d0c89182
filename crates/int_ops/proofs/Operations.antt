-- Each operation and test as the machine computes it, at the widths of machine words.
use Rattle.std.proofs.Common.{◌≡◌, ℕ, ◌+◌, ◌-◌, ◌*◌, ◌/◌, ◌%◌, ◌^◌, ◌<◌, ◌≤◌, Bool, true, false, eqb, leb, cond, ℤ, Option, Some, Result, Ok, Err, refl, sym, ap, ap₂, ◌∙◌, subst, arith, eqb-true, ne_eqb, ◌&&◌, mod-lt, pow_pos, ◌-ℤ◌, ◌*ℤ◌}
use Rattle.std.proofs.Math.Nat.{mod-eq-sub-mul-div}
use Rattle.std.proofs.lemmas.Int.{of_z-to_z}
use mir.Syntax.{Width}
use mir.Val.{bits, hbits, to_z, of_z}
use lib.Signed.{mag, lt_z, le_z, quot_z, rem_z, shr_z}
use lib.Bits.{bit_and, and_mask}
use Rattle.int_ops.specs.declared.num.Num.{Num}
use Rattle.int_ops.specs.declared.num.NumTrap.{NumTrap}
use Rattle.int_ops.specs.declared.num.NumTrap.TheVariants.{DivideByZero, IntegerOverflow}
use Rattle.int_ops.specs.Integers.{signed, unsigned, truncated, iadd, isub, imul, idiv_s, idiv_u, irem_s, irem_u, ishr_s, ilt_s, igt_s, ile_s, ige_s, wrapped, extended_s, iextend_s}
use Rattle.std.specs.Prelude.{slice_get, None}
use Rattle.std.specs.Option.{option_map}
use Rattle.std.proofs.lemmas.Option.{slice_get_past}
use Rattle.int_ops.specs.Numerics.{test_of, operation_of, on_two, as_num, truth, relations}
use Rattle.int_ops.proofs.Signed.{of_z_lt, signed-is, unsigned-is, mag-to_z, quot_lt, quotient_is, remainder_is, ishr_s-is, half, twice_half}

-- ---- the arm of one opcode

pub test_arm : (n first op at i j : ℕ) (b c : Bool) → op ≡ at → test_of n first at i j ≡ Some b → b ≡ c → test_of n first op i j ≡ Some c
test_arm n first op at i j b c e known f =
    ap (λ (x : ℕ). test_of n first x i j) e ∙ known ∙ ap Some f

pub operation_arm : (n first op at i j : ℕ) (r s : Result ℕ NumTrap) → op ≡ at → operation_of n first at i j ≡ Some r → r ≡ s
    → operation_of n first op i j ≡ Some s
operation_arm n first op at i j r s e known f =
    ap (λ (x : ℕ). operation_of n first x i j) e ∙ known ∙ ap Some f

-- ---- arithmetic

pub iadd-is : (n i j : ℕ) → iadd n i j ≡ (i + j) % 2 ^ n
unfolding iadd
iadd-is n i j = refl

pub isub-is : (n i j : ℕ) → j < 2 ^ n → isub n i j ≡ (i + (2 ^ n - j)) % 2 ^ n
unfolding isub
isub-is n i j h = ap (λ (x : ℕ). x % 2 ^ n) (omega arith)

pub imul-is : (n i j : ℕ) → imul n i j ≡ i * j % 2 ^ n
unfolding imul
imul-is n i j = refl

pub div_u_by_zero : (n i j : ℕ) → j ≡ 0 → Err DivideByZero ≡ idiv_u n i j
unfolding idiv_u
div_u_by_zero n i j e = ap (λ (x : ℕ). cond (eqb x 0) (Err DivideByZero) (Ok (i / j))) (sym e)

pub rem_u_by_zero : (n i j : ℕ) → j ≡ 0 → Err DivideByZero ≡ irem_u n i j
unfolding irem_u
rem_u_by_zero n i j e = ap (λ (x : ℕ). cond (eqb x 0) (Err DivideByZero) (Ok (i - j * (i / j)))) (sym e)

otherwise : {X : Type 0} (b : Bool) (x y : X) → b ≡ false → cond b x y ≡ y
otherwise b x y e = ap (λ (c : Bool). cond c x y) e

pub div_u_is : (n i j : ℕ) → (j ≡ 0 → ⊥) → Ok (i / j) ≡ idiv_u n i j
unfolding idiv_u
div_u_is n i j ne = sym (otherwise (eqb j 0) (Err DivideByZero) (Ok (i / j)) (ne_eqb j 0 ne))

pub rem_u_is : (n i j : ℕ) → (j ≡ 0 → ⊥) → Ok (i % j) ≡ irem_u n i j
unfolding irem_u
rem_u_is n i j ne =
    ap Ok (mod-eq-sub-mul-div i j) ∙ sym (otherwise (eqb j 0) (Err DivideByZero) (Ok (i - j * (i / j))) (ne_eqb j 0 ne))

-- ---- signed

-- a reading that went through the bits
pub settled : (w : Width) (i : ℕ) (r : ℤ) → i < 2 ^ bits w → r ≡ to_z w i → to_z w (of_z w r) ≡ to_z w i
settled w i r h e = ap (λ (z : ℤ). to_z w (of_z w z)) e ∙ ap (to_z w) (of_z-to_z w i h)

-- the bits of a number that went through them
pub bits_settled : (w : Width) (z : ℤ) → mag z < 2 ^ bits w → of_z w (to_z w (of_z w z)) ≡ of_z w z
bits_settled w z h = of_z-to_z w (of_z w z) (of_z_lt w z h)

both_false : (p q : Bool) → (p ≡ true → q ≡ true → ⊥) → (p && q) ≡ false
both_false true true h = absurd (h refl refl)
both_false true false h = refl
both_false false q h = refl

pub div_s_by_zero : (n i j : ℕ) → j ≡ 0 → Err DivideByZero ≡ idiv_s n i j
unfolding idiv_s
div_s_by_zero n i j e =
    ap (λ (x : ℕ). cond (eqb x 0) (Err DivideByZero) (cond (eqb i (2 ^ (n - 1)) && eqb j (2 ^ n - 1)) (Err IntegerOverflow) (Ok (unsigned n (truncated (signed n i) (signed n j)))))) (sym e)

pub rem_s_by_zero : (n i j : ℕ) → j ≡ 0 → Err DivideByZero ≡ irem_s n i j
unfolding irem_s
rem_s_by_zero n i j e =
    ap (λ (x : ℕ). cond (eqb x 0) (Err DivideByZero) (Ok (unsigned n (signed n i -ℤ signed n j *ℤ truncated (signed n i) (signed n j))))) (sym e)

pub div_s_overflow32 : (i j : ℕ) → i ≡ 2 ^ 31 → j ≡ 2 ^ 32 - 1 → Err IntegerOverflow ≡ idiv_s 32 i j
unfolding idiv_s
div_s_overflow32 i j e f = ap₂ (λ (x y : ℕ). idiv_s 32 x y) (sym e) (sym f)

pub div_s_overflow64 : (i j : ℕ) → i ≡ 2 ^ 63 → j ≡ 2 ^ 64 - 1 → Err IntegerOverflow ≡ idiv_s 64 i j
unfolding idiv_s
div_s_overflow64 i j e f = ap₂ (λ (x y : ℕ). idiv_s 64 x y) (sym e) (sym f)

pub div_s_is : (w : Width) (i j : ℕ) (x y q : ℤ) (r : ℕ) → i < 2 ^ bits w → j < 2 ^ bits w → (j ≡ 0 → ⊥)
    → (i ≡ 2 ^ hbits w → j ≡ 2 ^ bits w - 1 → ⊥) → x ≡ to_z w i → y ≡ to_z w j
    → q ≡ to_z w (of_z w (quot_z (to_z w (of_z w x)) (to_z w (of_z w y)))) → r ≡ of_z w (to_z w (of_z w q))
    → Ok r ≡ idiv_s (bits w) i j
unfolding idiv_s
div_s_is w i j x y q r h k some fits ex ey eq er =
    let direct : q ≡ to_z w (of_z w (quot_z (to_z w i) (to_z w j))) =
    eq ∙ ap₂ (λ (a b : ℤ). to_z w (of_z w (quot_z a b))) (settled w i x h ex) (settled w j y k ey) in
    let value : r ≡ of_z w (to_z w (of_z w (quot_z (to_z w i) (to_z w j)))) =
    er ∙ ap (λ (z : ℤ). of_z w (to_z w (of_z w z))) direct
    ∙ ap (λ (n : ℕ). of_z w (to_z w n)) (bits_settled w (quot_z (to_z w i) (to_z w j)) (quot_lt w i (to_z w j) h)) in
    ap Ok (value ∙ sym (quotient_is w i j h k))
    ∙ sym (otherwise (eqb i (2 ^ (bits w - 1)) && eqb j (2 ^ bits w - 1)) (Err IntegerOverflow) (Ok (unsigned (bits w) (truncated (signed (bits w) i) (signed (bits w) j))))
    (both_false (eqb i (2 ^ (bits w - 1))) (eqb j (2 ^ bits w - 1))
    (λ p q'. fits (eqb-true i (2 ^ (bits w - 1)) p ∙ ap (λ (x : ℕ). 2 ^ x) (half w)) (eqb-true j (2 ^ bits w - 1) q'))))
    ∙ sym (otherwise (eqb j 0) (Err DivideByZero) _ (ne_eqb j 0 some))

pub rem_s_is : (w : Width) (i j : ℕ) (x y q : ℤ) (r : ℕ) → i < 2 ^ bits w → j < 2 ^ bits w → (j ≡ 0 → ⊥)
    → x ≡ to_z w i → y ≡ to_z w j → mag q < 2 ^ hbits w
    → q ≡ rem_z (to_z w (of_z w x)) (to_z w (of_z w y)) → r ≡ of_z w (to_z w (of_z w q))
    → Ok r ≡ irem_s (bits w) i j
unfolding irem_s
rem_s_is w i j x y q r h k some ex ey small eq er =
    ap Ok (er ∙ bits_settled w q (omega (arith, twice_half w)) ∙ ap (of_z w) (eq ∙ ap₂ rem_z (settled w i x h ex) (settled w j y k ey)) ∙ sym (remainder_is w i j h k))
    ∙ sym (otherwise (eqb j 0) (Err DivideByZero) _ (ne_eqb j 0 some))

-- ---- sign extension

pub extended_is : (v w : Width) (i : ℕ) (x y : ℤ) (r : ℕ) → 2 ^ hbits v ≤ 2 ^ bits w → i < 2 ^ bits v → x ≡ to_z v i
    → y ≡ to_z v (of_z v x) → r ≡ of_z w (to_z w (of_z w y)) → r ≡ extended_s (bits v) (bits w) i
unfolding extended_s
extended_is v w i x y r narrow h ex ey er =
    let reading : y ≡ to_z v i = ey ∙ settled v i x h ex in
    let small : mag y < 2 ^ bits w = subst (λ (z : ℤ). mag z < 2 ^ bits w) (sym reading) (omega (arith, mag-to_z v i h)) in
    er ∙ bits_settled w y small ∙ sym (unsigned-is w y small) ∙ ap (unsigned (bits w)) (reading ∙ sym (signed-is v i h))

pub iextend_is : (v w : Width) (i : ℕ) (x y : ℤ) (r : ℕ) → 2 ^ hbits v ≤ 2 ^ bits w → x ≡ to_z v (bit_and i (2 ^ bits v - 1))
    → y ≡ to_z v (of_z v x) → r ≡ of_z w (to_z w (of_z w y)) → r ≡ iextend_s (bits v) (bits w) i
unfolding iextend_s wrapped
iextend_is v w i x y r narrow ex ey er =
    extended_is v w (i % 2 ^ bits v) x y r narrow (mod-lt i (pow_pos (bits v))) (ex ∙ ap (to_z v) (and_mask i (bits v))) ey er

-- ---- tests

pub ilt_s-is : (w : Width) (i j : ℕ) (x y : ℤ) → i < 2 ^ bits w → j < 2 ^ bits w → x ≡ to_z w i → y ≡ to_z w j
    → ilt_s (bits w) i j ≡ lt_z (to_z w (of_z w x)) (to_z w (of_z w y))
unfolding ilt_s
ilt_s-is w i j x y h k ex ey =
    ap₂ lt_z (signed-is w i h ∙ sym (settled w i x h ex)) (signed-is w j k ∙ sym (settled w j y k ey))

pub ile_s-is : (w : Width) (i j : ℕ) (x y : ℤ) → i < 2 ^ bits w → j < 2 ^ bits w → x ≡ to_z w i → y ≡ to_z w j
    → ile_s (bits w) i j ≡ le_z (to_z w (of_z w x)) (to_z w (of_z w y))
unfolding ile_s
ile_s-is w i j x y h k ex ey =
    ap₂ le_z (signed-is w i h ∙ sym (settled w i x h ex)) (signed-is w j k ∙ sym (settled w j y k ey))

pub igt_s-is : (w : Width) (i j : ℕ) (x y : ℤ) → i < 2 ^ bits w → j < 2 ^ bits w → x ≡ to_z w i → y ≡ to_z w j
    → igt_s (bits w) i j ≡ lt_z (to_z w (of_z w y)) (to_z w (of_z w x))
unfolding igt_s
igt_s-is w i j x y h k ex ey =
    ap₂ lt_z (signed-is w j k ∙ sym (settled w j y k ey)) (signed-is w i h ∙ sym (settled w i x h ex))

pub ige_s-is : (w : Width) (i j : ℕ) (x y : ℤ) → i < 2 ^ bits w → j < 2 ^ bits w → x ≡ to_z w i → y ≡ to_z w j
    → ige_s (bits w) i j ≡ le_z (to_z w (of_z w y)) (to_z w (of_z w x))
unfolding ige_s
ige_s-is w i j x y h k ex ey =
    ap₂ le_z (signed-is w j k ∙ sym (settled w j y k ey)) (signed-is w i h ∙ sym (settled w i x h ex))

-- ---- the shift that keeps the sign

pub shr_s_is : (w : Width) (i j k : ℕ) (x q : ℤ) (r : ℕ) → i < 2 ^ bits w → k % bits w ≡ j % bits w → x ≡ to_z w i
    → q ≡ shr_z (to_z w (of_z w x)) (2 ^ (k % bits w)) → mag q < 2 ^ hbits w → r ≡ of_z w (to_z w (of_z w q))
    → ishr_s (bits w) i j ≡ r
shr_s_is w i j k x q r h same ex eq small er =
    ishr_s-is w i j h
    ∙ ap (λ (n : ℕ). of_z w (shr_z (to_z w i) (2 ^ n))) (sym same)
    ∙ sym (er ∙ bits_settled w q (omega (arith, twice_half w)) ∙ ap (of_z w) (eq ∙ ap (λ (z : ℤ). shr_z z (2 ^ (k % bits w))) (settled w i x h ex)))

-- ---- instructions on one integer

pub one_arm : (f : ℕ → Option Num) (op at : ℕ) (a b : Num) → op ≡ at → f at ≡ Some a → a ≡ b → f op ≡ Some b
one_arm f op at a b e known g = ap f e ∙ known ∙ ap Some g

-- ---- instructions on two integers

-- past the tests there is none
pub no_test : (n first op i j : ℕ) → first + 10 ≤ op → test_of n first op i j ≡ None
no_test n first op i j past = by (leb first op)
  where
    by : (b : Bool) → option_map (λ (f : ℕ → ℕ → ℕ → Bool). f n i j) (cond b (slice_get relations (op - first)) None) ≡ None
    by true =
        ap (option_map (λ (f : ℕ → ℕ → ℕ → Bool). f n i j)) (slice_get_past relations (op - first) (omega arith))
    by false = refl

pub two_tested : (test : Option Bool) (operation : Option (Result ℕ NumTrap)) (of_width : ℕ → Num) (b : Bool) (r : Num)
    → test ≡ Some b → r ≡ truth b → on_two test operation of_width ≡ Some (Ok r)
two_tested test operation of_width b r e f =
    ap (λ (t : Option Bool). on_two t operation of_width) e ∙ ap (λ (x : Num). Some (Ok x)) (sym f)

pub two_operated : (test : Option Bool) (operation : Option (Result ℕ NumTrap)) (of_width : ℕ → Num) (r : Result ℕ NumTrap)
    → test ≡ None → operation ≡ Some r → on_two test operation of_width ≡ Some (as_num of_width r)
two_operated test operation of_width r e f =
    ap₂ (λ (t : Option Bool) (o : Option (Result ℕ NumTrap)). on_two t o of_width) e f
