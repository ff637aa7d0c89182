-- Regions of CosmWasm 1.x: 12 bytes in a memory that tell where a text lies, how much room it has, and its length.
-- Reading and writing what lies there, with the first fault.
use Rattle.std.specs.Prelude.{◌≡◌, ℕ, ◌+◌, ◌-◌, ◌^◌, ◌==◌, nat_lt, List, length, slice_range, Result, Ok, Err, IsOk, if◌then◌else◌}
use Rattle.std.specs.Global.{Vec}
use Rattle.linear_memory.specs.Numbers.{number_at, bytes_of, overwritten}
use Rattle.linear_memory.specs.declared.region.Region.{Region}
use Rattle.linear_memory.specs.declared.region.RegionBad.{RegionBad}
use Rattle.linear_memory.specs.declared.region.RegionBad.TheVariants.{Pointer, Offset, Length, Range, End, TooLong}
use Rattle.linear_memory.specs.declared.region.RegionFault.{RegionFault}
use Rattle.linear_memory.specs.declared.region.RegionFault.TheVariants.{Bad, NoMemory}

-- the three numbers at a pointer
abbrev pub region_at : List ℕ → ℕ → Region
region_at memory pointer =
    record {
      offset = number_at memory pointer 4;
      capacity = number_at memory (pointer + 4) 4;
      length = number_at memory (pointer + 8) 4;
    }

-- the first of the faults of a Region that reading and writing share, or the Region
abbrev pub region : List ℕ → ℕ → Result Region RegionBad
region memory pointer =
    let found = region_at memory pointer in
    if nat_lt (length memory) (pointer + 12) then Err Pointer
    else if found.offset == 0 then Err Offset
    else if nat_lt found.capacity found.length then Err Length
    else if nat_lt (2 ^ 32 - 1) (found.offset + found.capacity) then Err Range
    else Ok found

-- the bytes of a Region, where they lie within the memory and are no more than the limit
abbrev pub bytes_in : List ℕ → ℕ → Result Region RegionBad → Result (List ℕ) RegionBad
bytes_in memory limit (Err bad) = Err bad
bytes_in memory limit (Ok found) =
    if nat_lt (length memory) (found.offset + found.length) then Err End
    else if nat_lt limit found.length then Err (TooLong found.length limit)
    else Ok (slice_range memory found.offset (found.offset + found.length))

-- the memory with these bytes in a Region and then its length, where they lie within the memory and have room
abbrev pub memory_with : List ℕ → ℕ → List ℕ → Result Region RegionBad → Result (List ℕ) RegionBad
memory_with memory pointer bytes (Err bad) = Err bad
memory_with memory pointer bytes (Ok found) =
    if nat_lt (length memory) (found.offset + length bytes) then Err End
    else if nat_lt found.capacity (length bytes) then Err (TooLong (length bytes) found.capacity)
    else Ok (overwritten (overwritten memory found.offset bytes) (pointer + 8) (bytes_of 4 (length bytes)))

-- what reading the Region at a pointer gives
unfoldable pub region_read : List ℕ → ℕ → ℕ → Result (List ℕ) RegionBad
region_read memory pointer limit = bytes_in memory limit (region memory pointer)

-- what writing bytes to the Region at a pointer gives
unfoldable pub region_written : List ℕ → ℕ → List ℕ → Result (List ℕ) RegionBad
region_written memory pointer bytes = memory_with memory pointer bytes (region memory pointer)

-- an answer tells what was read; want of memory comes only where bytes were
abbrev pub Tells : Result (Vec ℕ) RegionFault → Result (List ℕ) RegionBad → Type 0
Tells (Ok bytes) read = read ≡ Ok bytes.items
Tells (Err (Bad bad)) read = read ≡ Err bad
Tells (Err NoMemory) read = IsOk read
