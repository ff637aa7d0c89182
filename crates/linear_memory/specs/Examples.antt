-- A small memory with a Region at its start: offset 13, capacity 5, length 2, and `hi` at the offset.
use Rattle.std.specs.Prelude.{◌≡◌, ℕ, List, [], ◌∷◌, Ok, Err, refl}
use Rattle.linear_memory.specs.Numbers.{number_of, bytes_of}
use Rattle.linear_memory.specs.Regions.{region_read, region_written}
use Rattle.linear_memory.specs.declared.region.RegionBad.TheVariants.{Pointer, End, TooLong}

abbrev small : List ℕ
small = 13 ∷ 0 ∷ 0 ∷ 0 ∷ 5 ∷ 0 ∷ 0 ∷ 0 ∷ 2 ∷ 0 ∷ 0 ∷ 0 ∷ 0 ∷ 104 ∷ 105 ∷ 0 ∷ 0 ∷ 0 ∷ []

pub its_bytes_are_read : region_read small 0 2 ≡ Ok (104 ∷ 105 ∷ [])
unfolding region_read number_of
its_bytes_are_read = refl

pub two_bytes_are_more_than_one : region_read small 0 1 ≡ Err (TooLong 2 1)
unfolding region_read number_of
two_bytes_are_more_than_one = refl

pub there_is_no_region_at_7 : region_read small 7 2 ≡ Err Pointer
unfolding region_read number_of
there_is_no_region_at_7 = refl

pub three_bytes_are_written : region_written small 0 (1 ∷ 2 ∷ 3 ∷ []) ≡ Ok (13 ∷ 0 ∷ 0 ∷ 0 ∷ 5 ∷ 0 ∷ 0 ∷ 0 ∷ 3 ∷ 0 ∷ 0 ∷ 0 ∷ 0 ∷ 1 ∷ 2 ∷ 3 ∷ 0 ∷ 0 ∷ [])
unfolding region_written number_of bytes_of
three_bytes_are_written = refl

pub six_bytes_pass_the_end : region_written small 0 (1 ∷ 2 ∷ 3 ∷ 4 ∷ 5 ∷ 6 ∷ []) ≡ Err End
unfolding region_written number_of bytes_of
six_bytes_pass_the_end = refl
