-- Not for readers of contracts: it serves the proofs of this crate alone.
-- What the operands that the code keeps are in the definitions, and what its calls leave of them.
use Rattle.std.specs.Prelude.{◌≡◌, reverse, Option, Result, Ok, Err, ⊤}
use Rattle.wasm_types.specs.declared.value.ValType.{ValType}
use Rattle.wasm_types.specs.declared.kind.ValidKind.{ValidKind}
use Rattle.wasm_types.specs.Typing as typing
use Rattle.wasm_valid.specs.declared.operands.Operands.{Operands}

abbrev pub stack : Operands → typing.Operands
stack operands = record { types = reverse operands.types.items; any = operands.any }

abbrev pub Pops : Result (Option ValType) ValidKind → typing.Operands → Result (Option ValType × typing.Operands) ValidKind → Type 0
Pops (Ok t) left wanted = wanted ≡ Ok (t, left)
Pops (Err kind) left wanted = wanted ≡ Err kind

abbrev pub Leaves : Result (Unit {0}) ValidKind → typing.Operands → Result typing.Operands ValidKind → Type 0
Leaves (Ok done) left wanted = wanted ≡ Ok left
Leaves (Err kind) left wanted = wanted ≡ Err kind

abbrev pub Ends : Result (Unit {0}) ValidKind → Result (Unit {0}) ValidKind → Type 0
Ends (Ok done) wanted = wanted ≡ Ok tt
Ends (Err kind) wanted = wanted ≡ Err kind

abbrev pub Gave : {E : Type 0} → Result (Unit {0}) E → typing.Operands → typing.Operands → Type 0
Gave (Ok done) left wanted = left ≡ wanted
Gave (Err stop) left wanted = ⊤
