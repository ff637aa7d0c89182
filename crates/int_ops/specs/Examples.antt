-- What the definition gives on a few operands: the least i64 over -1, its remainder, a division by zero, and a shift
-- by more than the width.
use Rattle.std.specs.Prelude.{◌≡◌, ◌-◌, ◌^◌, [], ◌∷◌, Some, Ok, Err, refl}
use Rattle.int_ops.specs.Bits.{bits_of, number_of}
use Rattle.int_ops.specs.Integers.{signed, unsigned, idiv_s, idiv_u, irem_s, ishl, ishr_s, iextend_s, extended_s, wrapped}
use Rattle.int_ops.specs.Numerics.{num}
use Rattle.int_ops.specs.declared.num.Num.TheVariants.{I32, I64}
use Rattle.int_ops.specs.declared.num.NumTrap.TheVariants.{DivideByZero, IntegerOverflow}

pub least_over_minus_one : num 0x7F (I64 (2 ^ 63) ∷ I64 (2 ^ 64 - 1) ∷ []) ≡ Some (Err IntegerOverflow)
unfolding num idiv_s
least_over_minus_one = refl

pub least_by_minus_one_leaves_nothing : num 0x81 (I64 (2 ^ 63) ∷ I64 (2 ^ 64 - 1) ∷ []) ≡ Some (Ok (I64 0))
unfolding num irem_s signed unsigned
least_by_minus_one_leaves_nothing = refl

pub one_over_zero : num 0x6E (I32 1 ∷ I32 0 ∷ []) ≡ Some (Err DivideByZero)
unfolding num idiv_u
one_over_zero = refl

pub one_up_by_33 : num 0x74 (I32 1 ∷ I32 33 ∷ []) ≡ Some (Ok (I32 2))
unfolding num ishl bits_of number_of
one_up_by_33 = refl

pub minus_eight_down_by_one : num 0x75 (I32 (2 ^ 32 - 8) ∷ I32 1 ∷ []) ≡ Some (Ok (I32 (2 ^ 32 - 4)))
unfolding num ishr_s bits_of number_of
minus_eight_down_by_one = refl

pub byte_of_all_ones : num 0xC0 (I32 0xFF ∷ []) ≡ Some (Ok (I32 (2 ^ 32 - 1)))
unfolding num iextend_s extended_s wrapped signed unsigned
byte_of_all_ones = refl
