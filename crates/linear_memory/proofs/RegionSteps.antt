-- What reading and writing a Region gives, once it is known how its tests went.
use Rattle.std.proofs.Common.{◌≡◌, ℕ, ◌+◌, ◌<◌, ◌≤◌, Bool, true, false, cond, ltb, List, length, Ok, Err, ap, ◌∙◌, lt-ltb, le-ltb}
use Rattle.std.specs.Prelude.{slice_range}
use Rattle.linear_memory.specs.Numbers.{overwritten, bytes_of}
use Rattle.linear_memory.specs.Regions.{region, bytes_in, memory_with, region_read, region_written}
use Rattle.linear_memory.specs.declared.region.Region.{Region}
use Rattle.linear_memory.specs.declared.region.RegionBad.{RegionBad}
use Rattle.linear_memory.specs.declared.region.RegionBad.TheVariants.{End, TooLong}

passed : {X : Type 0} (b : Bool) (x y : X) → b ≡ true → cond b x y ≡ x
passed b x y e = ap (λ (t : Bool). cond t x y) e

failed : {X : Type 0} (b : Bool) (x y : X) → b ≡ false → cond b x y ≡ y
failed b x y e = ap (λ (t : Bool). cond t x y) e

pub read_bad : (memory : List ℕ) (pointer limit : ℕ) (bad : RegionBad) → region memory pointer ≡ Err bad → region_read memory pointer limit ≡ Err bad
unfolding region_read
read_bad memory pointer limit bad e = ap (bytes_in memory limit) e

pub read_end : (memory : List ℕ) (pointer limit : ℕ) (found : Region) → region memory pointer ≡ Ok found
    → length memory < found.offset + found.length → region_read memory pointer limit ≡ Err End
unfolding region_read
read_end memory pointer limit found e past =
    ap (bytes_in memory limit) e ∙ passed (ltb (length memory) (found.offset + found.length)) _ _ (lt-ltb _ _ past)

pub read_long : (memory : List ℕ) (pointer limit : ℕ) (found : Region) → region memory pointer ≡ Ok found
    → found.offset + found.length ≤ length memory → limit < found.length → region_read memory pointer limit ≡ Err (TooLong found.length limit)
unfolding region_read
read_long memory pointer limit found e within long =
    ap (bytes_in memory limit) e
    ∙ failed (ltb (length memory) (found.offset + found.length)) _ _ (le-ltb _ _ within)
    ∙ passed (ltb limit found.length) _ _ (lt-ltb _ _ long)

pub read_ok : (memory : List ℕ) (pointer limit : ℕ) (found : Region) → region memory pointer ≡ Ok found
    → found.offset + found.length ≤ length memory → found.length ≤ limit
    → region_read memory pointer limit ≡ Ok (slice_range memory found.offset (found.offset + found.length))
unfolding region_read
read_ok memory pointer limit found e within short =
    ap (bytes_in memory limit) e
    ∙ failed (ltb (length memory) (found.offset + found.length)) _ _ (le-ltb _ _ within)
    ∙ failed (ltb limit found.length) _ _ (le-ltb _ _ short)

pub write_bad : (memory : List ℕ) (pointer : ℕ) (bytes : List ℕ) (bad : RegionBad) → region memory pointer ≡ Err bad
    → region_written memory pointer bytes ≡ Err bad
unfolding region_written
write_bad memory pointer bytes bad e = ap (memory_with memory pointer bytes) e

pub write_end : (memory : List ℕ) (pointer : ℕ) (bytes : List ℕ) (found : Region) → region memory pointer ≡ Ok found
    → length memory < found.offset + length bytes → region_written memory pointer bytes ≡ Err End
unfolding region_written
write_end memory pointer bytes found e past =
    ap (memory_with memory pointer bytes) e ∙ passed (ltb (length memory) (found.offset + length bytes)) _ _ (lt-ltb _ _ past)

pub write_long : (memory : List ℕ) (pointer : ℕ) (bytes : List ℕ) (found : Region) → region memory pointer ≡ Ok found
    → found.offset + length bytes ≤ length memory → found.capacity < length bytes
    → region_written memory pointer bytes ≡ Err (TooLong (length bytes) found.capacity)
unfolding region_written
write_long memory pointer bytes found e within long =
    ap (memory_with memory pointer bytes) e
    ∙ failed (ltb (length memory) (found.offset + length bytes)) _ _ (le-ltb _ _ within)
    ∙ passed (ltb found.capacity (length bytes)) _ _ (lt-ltb _ _ long)

pub write_ok : (memory : List ℕ) (pointer : ℕ) (bytes : List ℕ) (found : Region) → region memory pointer ≡ Ok found
    → found.offset + length bytes ≤ length memory → length bytes ≤ found.capacity
    → region_written memory pointer bytes ≡ Ok (overwritten (overwritten memory found.offset bytes) (pointer + 8) (bytes_of 4 (length bytes)))
unfolding region_written
write_ok memory pointer bytes found e within short =
    ap (memory_with memory pointer bytes) e
    ∙ failed (ltb (length memory) (found.offset + length bytes)) _ _ (le-ltb _ _ within)
    ∙ failed (ltb found.capacity (length bytes)) _ _ (le-ltb _ _ short)
