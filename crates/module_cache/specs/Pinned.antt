-- The codes of the pinned modules.
use Rattle.std.specs.Prelude.{ℕ, List}
use Rattle.gatekeeper.specs.CodeBytes.{code_bytes}
use Rattle.module_cache.specs.declared.pin_table.PinTable.{PinTable}
use Rattle.module_cache.specs.Right.{codes_of}

abbrev pub pinned_codes : PinTable → List (List ℕ)
pinned_codes t = codes_of code_bytes t.list.items
