-- How many bytes are read of a Region.
use Rattle.std.proofs.Common.{◌≡◌, ◌==◌, ◌+◌, ◌-◌, ◌^◌, ◌≤◌, Bool, true, false, nat_lt, refl, subst, arith, ℕ, List, length, take, drop, min, Result, Ok, Err}
use Rattle.std.specs.Prelude.{if◌then◌else◌, slice_range}
use Rattle.std.proofs.lemmas.Bool.{ltb-false}
use Rattle.std.proofs.lemmas.List.{length-take}
use Rattle.linear_memory.specs.Numbers.{number_at}
use Rattle.linear_memory.specs.declared.region.RegionBad.{RegionBad}
use Rattle.linear_memory.specs.declared.region.RegionBad.TheVariants.{Pointer, Offset, Length, Range, End, TooLong}
use Rattle.linear_memory.specs.Regions.{region_at, bytes_in, region_read}

few_taken : (n : ℕ) (bytes : List ℕ) → length (take n bytes) ≤ n
few_taken n bytes = let e : length (take n bytes) ≡ min n (length bytes) = length-take n bytes in omega (arith, e)

within : (memory : List ℕ) (offset size limit : ℕ) (bytes : List ℕ) (past long : Bool) → nat_lt limit size ≡ long → ◌≡◌ {A = Result (List ℕ) RegionBad} (if past then Err End else if long then Err (TooLong size limit) else Ok (slice_range memory offset (offset + size))) (Ok bytes) → length bytes ≤ limit
within memory offset size limit bytes true long e r = let no : ◌≡◌ {A = Result (List ℕ) RegionBad} (Err End) (Ok bytes) = r in cc
within memory offset size limit bytes false true e r = let no : ◌≡◌ {A = Result (List ℕ) RegionBad} (Err (TooLong size limit)) (Ok bytes) = r in cc
within memory offset size limit bytes false false e r =
    let is : ◌≡◌ {A = Result (List ℕ) RegionBad} (Ok (take (offset + size - offset) (drop offset memory))) (Ok bytes) = r in
    let same : take (offset + size - offset) (drop offset memory) ≡ bytes = cc in
    let few : length (take (offset + size - offset) (drop offset memory)) ≤ offset + size - offset = few_taken (offset + size - offset) (drop offset memory) in
    let short : length bytes ≤ offset + size - offset = subst (λ (l : List ℕ). length l ≤ offset + size - offset) same few in
    let most : size ≤ limit = ltb-false limit size e in
    omega arith

unless_bad : (memory : List ℕ) (pointer limit : ℕ) (bytes : List ℕ) (outside nowhere overfull endless : Bool) → bytes_in memory limit (if outside then Err Pointer else if nowhere then Err Offset else if overfull then Err Length else if endless then Err Range else Ok (region_at memory pointer)) ≡ Ok bytes → length bytes ≤ limit
unless_bad memory pointer limit bytes true nowhere overfull endless r = let no : ◌≡◌ {A = Result (List ℕ) RegionBad} (Err Pointer) (Ok bytes) = r in cc
unless_bad memory pointer limit bytes false true overfull endless r = let no : ◌≡◌ {A = Result (List ℕ) RegionBad} (Err Offset) (Ok bytes) = r in cc
unless_bad memory pointer limit bytes false false true endless r = let no : ◌≡◌ {A = Result (List ℕ) RegionBad} (Err Length) (Ok bytes) = r in cc
unless_bad memory pointer limit bytes false false false true r = let no : ◌≡◌ {A = Result (List ℕ) RegionBad} (Err Range) (Ok bytes) = r in cc
unless_bad memory pointer limit bytes false false false false r =
    let offset = number_at memory pointer 4 in
    let size = number_at memory (pointer + 8) 4 in
    within memory offset size limit bytes (nat_lt (length memory) (offset + size)) (nat_lt limit size) refl r

pub read_is_short : (memory : List ℕ) (pointer limit : ℕ) (bytes : List ℕ) → region_read memory pointer limit ≡ Ok bytes → length bytes ≤ limit
unfolding region_read
read_is_short memory pointer limit bytes r =
    let offset = number_at memory pointer 4 in
    let room = number_at memory (pointer + 4) 4 in
    let size = number_at memory (pointer + 8) 4 in
    unless_bad memory pointer limit bytes (nat_lt (length memory) (pointer + 12)) (offset == 0) (nat_lt room size) (nat_lt (2 ^ 32 - 1) (offset + room)) r
