-- How many calls of a shelf failed; the counts stand still at 2^64 - 1.
use Rattle.std.specs.Prelude.{ℕ}
use Rattle.outside_io.specs.Memory.{Calls}
use Rattle.module_shelves.specs.declared.mem_shelf.MemShelf.{MemShelf}
use Rattle.module_shelves.specs.declared.dir_shelf.DirShelf.{DirShelf}

-- the calls of a shelf in memory so far
abbrev pub calls_of : MemShelf → Calls
calls_of s = record { made = s.made; failing = s.failing.items; faults = s.faults }

abbrev pub dir_faults : {R : Type 0} → DirShelf R → ℕ
dir_faults s = s.faults
