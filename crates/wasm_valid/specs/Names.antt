-- Not for readers of contracts: it serves the proofs of this crate alone.
-- What a set of the names of exports has, and what a call says of an export.
use Rattle.std.specs.Prelude.{◌≡◌, ℕ, Bool, List, None, Result, Ok, Err, ⊤}
use Rattle.std.specs.Borrow.{Bor}
use Rattle.std.specs.List.{list_any}
use Rattle.std.specs.Str.{bytes_eq}
use Rattle.std.specs.Cmp.Lexicographic.{slice_cmp}
use Rattle.std.specs.Ordering.{nat_cmp}
use Rattle.std.specs.BTreeSet.{BTreeSet, contains_by}
use Rattle.wasm_types.specs.declared.kind.ValidKind.{ValidKind}
use Rattle.wasm_types.specs.Plain.{PlainExport}
use Rattle.wasm_valid.specs.declared.stop.TypingStop.{TypingStop}
use Rattle.wasm_valid.specs.declared.stop.TypingStop.TheVariants as typing_stops
use Rattle.wasm_valid.specs.declared.stop.ValidStop.{ValidStop}
use Rattle.wasm_valid.specs.declared.stop.ValidStop.TheVariants as stops

abbrev pub has_name : BTreeSet (Bor (List ℕ)) → List ℕ → Bool
has_name names name = contains_by (λ k. slice_cmp nat_cmp name k.now) names

abbrev pub HasNames : BTreeSet (Bor (List ℕ)) → List PlainExport → Type 0
HasNames names exports = (name : List ℕ) → has_name names name ≡ list_any (λ other. bytes_eq other.name name) exports

abbrev pub Keeps : Result (Unit {0}) TypingStop → Result (Unit {0}) ValidKind → Type 0
Keeps (Ok done) wanted = wanted ≡ Ok tt
Keeps (Err (typing_stops.Wrong kind)) wanted = wanted ≡ Err kind
Keeps (Err typing_stops.NoMemory) wanted = ⊤

abbrev pub item_stop : ℕ → TypingStop → ValidStop
item_stop at (typing_stops.Wrong kind) = stops.Invalid None at kind
item_stop at typing_stops.NoMemory = stops.NoMemory
