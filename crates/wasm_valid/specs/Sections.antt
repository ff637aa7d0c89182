-- Not for readers of contracts: it serves the proofs of this crate alone.
-- The two halves in which a module is looked at.
use Rattle.std.specs.Prelude.{◌++◌, zip, Option}
use Rattle.wasm_types.specs.declared.kind.ValidKind.TheVariants as kinds
use Rattle.wasm_types.specs.Plain.{PlainModule}
use Rattle.wasm_types.specs.Typing.{or_else}
use Rattle.wasm_types.specs.Validity.{Fault, imported, table_in, memory_in, within, desc_kept, table_kept, memory_kept, init_kept, export_kept, elem_kept, seg_kept, first_in, bodies_fault}

abbrev pub imports_fault : PlainModule → Option Fault
imports_fault m = first_in (λ earlier i. desc_kept m earlier i.desc) m.imports

abbrev pub funcs_fault : PlainModule → Option Fault
funcs_fault m = first_in (λ earlier ty. within kinds.TypeIndex ty m.types) m.funcs

abbrev pub tables_fault : PlainModule → Option Fault
tables_fault m = first_in (λ earlier size. table_kept (imported table_in m.imports ++ earlier) size) m.tables

abbrev pub memories_fault : PlainModule → Option Fault
memories_fault m = first_in (λ earlier size. memory_kept (imported memory_in m.imports ++ earlier) size) m.memories

abbrev pub heads_fault : PlainModule → Option Fault
heads_fault m =
    or_else (imports_fault m) (or_else (funcs_fault m) (or_else (tables_fault m) (memories_fault m)))

abbrev pub contents_fault : PlainModule → Option Fault
contents_fault m =
    or_else (first_in (λ earlier g. init_kept m g.ty g.init) m.globals)
    (or_else (first_in (export_kept m) m.exports)
    (or_else (first_in (λ earlier e. elem_kept m e) m.elems)
    (or_else (bodies_fault m 0 (zip m.funcs m.codes))
    (first_in (λ earlier s. seg_kept m s) m.segs))))
