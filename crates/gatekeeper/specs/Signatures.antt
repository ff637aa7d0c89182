-- Not for readers of contracts: it serves the proofs of this crate alone.
-- Types of functions as the code keeps them.
use Rattle.std.specs.Prelude.{Bool, true, false}
use Rattle.wasm_types.specs.declared.value.ValType.{ValType}
use Rattle.wasm_types.specs.declared.value.ValType.TheVariants.{I32, I64}
use Rattle.wasm_types.specs.Plain.{PlainFuncType}
use Rattle.wasm_types.specs.Interface.{takes}
use Rattle.gatekeeper.specs.declared.signature.Signature.{Signature}

abbrev pub plain_signature : Signature → PlainFuncType
plain_signature s = takes s.params s.result

abbrev pub is_i32 : ValType → Bool
is_i32 I32 = true
is_i32 I64 = false
