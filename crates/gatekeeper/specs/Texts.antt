-- What a refusal of the gate says: the name of the rule, and the value that breaks it.
use Rattle.std.specs.Prelude.{ℕ, List, ◌++◌, codes, decimal}
use Rattle.wasm_types.specs.declared.kind.ReadKind.{ReadKind}
use Rattle.wasm_types.specs.declared.kind.ReadKind.TheVariants as reads
use Rattle.wasm_types.specs.declared.kind.ValidKind.{ValidKind}
use Rattle.wasm_types.specs.declared.kind.ValidKind.TheVariants as valids
use Rattle.wasm_types.specs.Plain.{PlainRefusal, gzip, too_large, read, invalid, import_kind, import_count, import_unknown, import_type, memory_missing, memory_max, memory_initial, table_no_max, table_size, element_range, data_range, export_missing, interface_twice, export_type, capability}

abbrev pub read_name : ReadKind → List ℕ
read_name reads.Cut = codes "Cut"
read_name reads.Magic = codes "Magic"
read_name reads.Leb = codes "Leb"
read_name reads.Section = codes "Section"
read_name reads.Start = codes "Start"
read_name reads.Size = codes "Size"
read_name reads.Name = codes "Name"
read_name reads.Form = codes "Form"
read_name reads.ValueType = codes "ValueType"
read_name reads.Float = codes "Float"
read_name reads.Results = codes "Results"
read_name reads.Kind = codes "Kind"
read_name reads.Flag = codes "Flag"
read_name reads.Reserved = codes "Reserved"
read_name reads.Opcode = codes "Opcode"
read_name reads.Nesting = codes "Nesting"
read_name reads.Locals = codes "Locals"
read_name reads.Count = codes "Count"

abbrev pub valid_name : ValidKind → List ℕ
valid_name valids.TypeIndex = codes "TypeIndex"
valid_name valids.FuncIndex = codes "FuncIndex"
valid_name valids.TableIndex = codes "TableIndex"
valid_name valids.MemoryIndex = codes "MemoryIndex"
valid_name valids.GlobalIndex = codes "GlobalIndex"
valid_name valids.LocalIndex = codes "LocalIndex"
valid_name valids.Label = codes "Label"
valid_name valids.Underflow = codes "Underflow"
valid_name valids.Mismatch = codes "Mismatch"
valid_name valids.Leftover = codes "Leftover"
valid_name valids.Align = codes "Align"
valid_name valids.Immutable = codes "Immutable"
valid_name valids.Init = codes "Init"
valid_name valids.ExportTwice = codes "ExportTwice"
valid_name valids.ManyTables = codes "ManyTables"
valid_name valids.ManyMemories = codes "ManyMemories"
valid_name valids.Limits = codes "Limits"

abbrev pub refusal_text : PlainRefusal → List ℕ
refusal_text gzip = codes "Gzip"
refusal_text (too_large length) = codes "TooLarge " ++ decimal length
refusal_text (read kind at) = codes "Read " ++ read_name kind ++ codes " " ++ decimal at
refusal_text (invalid kind) = codes "Invalid " ++ valid_name kind
refusal_text (import_kind at) = codes "ImportKind " ++ decimal at
refusal_text (import_count count) = codes "ImportCount " ++ decimal count
refusal_text (import_unknown at) = codes "ImportUnknown " ++ decimal at
refusal_text (import_type at) = codes "ImportType " ++ decimal at
refusal_text memory_missing = codes "MemoryMissing"
refusal_text memory_max = codes "MemoryMax"
refusal_text (memory_initial pages) = codes "MemoryInitial " ++ decimal pages
refusal_text table_no_max = codes "TableNoMax"
refusal_text (table_size max) = codes "TableSize " ++ decimal max
refusal_text (element_range at) = codes "ElementRange " ++ decimal at
refusal_text (data_range at) = codes "DataRange " ++ decimal at
refusal_text (export_missing name) = codes "ExportMissing " ++ name
refusal_text interface_twice = codes "InterfaceTwice"
refusal_text (export_type name) = codes "ExportType " ++ name
refusal_text (capability name) = codes "Capability " ++ name
