-- Not for readers of contracts: it serves the proofs of this crate alone.
-- The rules of the gate on a module, in the groups in which they are looked at.
use Rattle.std.specs.Prelude.{ℕ, List, [], ◌∷◌, Option, Some, None}
use Rattle.std.specs.Borrow.{Bor}
use Rattle.wasm_types.specs.Plain.{PlainModule, PlainRefusal}
use Rattle.wasm_types.specs.Gate.{gzip_rule, size_rule, import_kind_rule, import_count_rule, import_unknown_rule, import_type_rule, memory_missing_rule, memory_max_rule, memory_initial_rule, table_no_max_rule, table_size_rule, element_range_rule, data_range_rule, export_missing_rule, interface_twice_rule, export_type_rule, capability_rule}

abbrev pub bytes_rules : List ℕ → List (Option PlainRefusal)
bytes_rules code = gzip_rule code ∷ size_rule code ∷ []

abbrev pub import_rules : PlainModule → List (Option PlainRefusal)
import_rules m = import_kind_rule m ∷ import_count_rule m ∷ import_unknown_rule m ∷ import_type_rule m ∷ []

abbrev pub memory_rules : PlainModule → List (Option PlainRefusal)
memory_rules m = memory_missing_rule m ∷ memory_max_rule m ∷ memory_initial_rule m ∷ []

abbrev pub table_rules : PlainModule → List (Option PlainRefusal)
table_rules m = table_no_max_rule m ∷ table_size_rule m ∷ []

abbrev pub segment_rules : PlainModule → List (Option PlainRefusal)
segment_rules m = element_range_rule m ∷ data_range_rule m ∷ []

abbrev pub export_rules : List (List ℕ) → PlainModule → List (Option PlainRefusal)
export_rules caps m = export_missing_rule m ∷ interface_twice_rule m ∷ export_type_rule m ∷ capability_rule caps m ∷ []

abbrev pub shown_text : Option (Bor (List ℕ)) → Option (List ℕ)
shown_text None = None
shown_text (Some text) = Some text.now
