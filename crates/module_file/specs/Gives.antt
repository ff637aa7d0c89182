-- Not for readers of contracts: it serves the proofs of this crate alone.
-- What a reader answers, seen by view, is what is read, unless memory runs out.
use Rattle.std.specs.Prelude.{◌≡◌, Option, Some, None, Result, Ok, Err}
use Rattle.module_file.specs.declared.stop.Stop.{Stop}
use Rattle.module_file.specs.declared.stop.Stop.TheVariants.{Unreadable, NoMemory}

abbrev pub Fails : {Y : Type 0} → Stop → Option Y → Type 0
Fails Unreadable read = read ≡ None
Fails NoMemory read = Unit {0}

abbrev pub Gives : {X Y : Type 0} → (X → Y) → Result X Stop → Option Y → Type 0
Gives view (Ok x) read = read ≡ Some (view x)
Gives view (Err e) read = Fails e read
