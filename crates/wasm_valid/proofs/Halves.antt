-- The first fault of a module is that of its first half, or else that of the other.
use Rattle.std.proofs.Common.{◌≡◌, Option, Some, None, Result, Err, refl, sym, ap, subst, ◌∙◌}
use Rattle.wasm_types.specs.Plain.{PlainModule}
use Rattle.wasm_types.specs.Typing.{or_else}
use Rattle.wasm_types.specs.Validity.{Fault, valid_fault}
use Rattle.wasm_valid.specs.declared.stop.ValidStop.{ValidStop}
use Rattle.wasm_valid.specs.declared.stop.ValidStop.TheVariants as stops
use Rattle.wasm_valid.specs.Spaces.{Faults}
use Rattle.wasm_valid.specs.Sections.{imports_fault, funcs_fault, tables_fault, memories_fault, heads_fault, contents_fault}

assoc : (a b c : Option Fault) → or_else a (or_else b c) ≡ or_else (or_else a b) c
assoc (Some x) b c = refl
assoc None b c = refl

four : (a b c d e : Option Fault) → or_else a (or_else b (or_else c (or_else d e))) ≡ or_else (or_else a (or_else b (or_else c d))) e
four (Some x) b c d e = refl
four None (Some x) c d e = refl
four None None c d e = assoc c d e

halves : (m : PlainModule) → valid_fault m ≡ or_else (heads_fault m) (contents_fault m)
unfolding valid_fault
halves m = four (imports_fault m) (funcs_fault m) (tables_fault m) (memories_fault m) (contents_fault m)

pub then_contents : (m : PlainModule) (result : Result (Unit {0}) ValidStop) → heads_fault m ≡ None → Faults result (contents_fault m) → Faults result (valid_fault m)
then_contents m result e f = subst (Faults result) (sym (halves m ∙ ap (λ (o : Option Fault). or_else o (contents_fault m)) e)) f

pub in_heads : (m : PlainModule) (stop : ValidStop) → Faults (Err stop) (heads_fault m) → Faults (Err stop) (valid_fault m)
in_heads m (stops.Invalid func instr kind) f = halves m ∙ ap (λ (o : Option Fault). or_else o (contents_fault m)) f
in_heads m stops.NoMemory f = tt
