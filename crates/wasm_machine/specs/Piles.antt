-- Not for readers of contracts: it serves the proofs of this crate alone.
-- The items of what runs and of what waits.
use Rattle.std.specs.Prelude.{List, take, drop, reverse}
use Rattle.wasm_machine.specs.declared.pile.Pile.{Pile}

abbrev pub all : {T : Type 0} → Pile T → List T
all p = p.items.items

-- what belongs to what waits
unfoldable pub below : {T : Type 0} → Pile T → List T
below p = take p.floor p.items.items

-- what belongs to what runs
unfoldable pub span : {T : Type 0} → Pile T → List T
span p = drop p.floor p.items.items

-- the same, the topmost first
abbrev pub own : {T : Type 0} → Pile T → List T
own p = reverse (span p)
