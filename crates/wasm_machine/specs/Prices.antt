-- Not for readers of contracts: it serves the proofs of this crate alone.
-- Which instructions cost what the schedule says of plain ones.
use Rattle.std.specs.Prelude.{Bool, true, false}
use Rattle.wasm_machine.specs.declared.kind.PlainKind.{PlainKind}
use Rattle.wasm_machine.specs.declared.kind.PlainKind.TheVariants as plain
use Rattle.wasm_machine.specs.declared.kind.IndexKind.{IndexKind}
use Rattle.wasm_machine.specs.declared.kind.IndexKind.TheVariants as indexed

abbrev pub is_cheap : PlainKind → Bool
is_cheap plain.Nop = true
is_cheap plain.Return = true
is_cheap plain.Drop = true
is_cheap plain.Select = true
is_cheap plain.MemorySize = true
is_cheap plain.OnOne = true
is_cheap plain.MemoryGrow = false
is_cheap plain.OnTwo = false
is_cheap plain.Unreachable = false

abbrev pub is_cheap_index : IndexKind → Bool
is_cheap_index indexed.Branch = true
is_cheap_index indexed.BranchIf = true
is_cheap_index indexed.LocalGet = true
is_cheap_index indexed.LocalSet = true
is_cheap_index indexed.LocalTee = true
is_cheap_index indexed.GlobalGet = true
is_cheap_index indexed.GlobalSet = true
is_cheap_index indexed.Call = false
is_cheap_index indexed.Unreachable = false
