use Rattle.std.proofs.Common.{◌≡◌, map, take}
use Rattle.wasm_types.specs.Plain.{plain_func_type}
use Rattle.wasm_writer.specs.Samples.{signature}
use Rattle.wasm_writer.proofs.parts.signatures.Given as goal

abbrev pub invariant-loop-params : goal.invariant-loop-params
invariant-loop-params l = map plain_func_type l.all.items ≡ map signature (take l.params-index l.list)
