-- How an entry of a scan is handed to a contract: the key and its length, then the value and its length; lengths are big-endian u32.
use Rattle.std.specs.Prelude.{ℕ, List, [], ◌++◌, length, Option, Some, None}
use Rattle.std.specs.Int.{to_be_bytes, w32}
use Rattle.gas_store.specs.Scans.{Entry}

abbrev pub be4 : ℕ → List ℕ
be4 n = to_be_bytes w32 n

abbrev pub sized : List ℕ → List ℕ
sized bytes = bytes ++ be4 (length bytes)

-- at the scan's end both are empty
abbrev pub spelled : Option Entry → List ℕ
spelled None = sized [] ++ sized []
spelled (Some e) = sized e.0 ++ sized e.1
