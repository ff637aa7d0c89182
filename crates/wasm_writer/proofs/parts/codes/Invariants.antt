use Rattle.std.proofs.Common.{◌≡◌, map, take}
use Rattle.wasm_types.specs.Plain.{plain_code}
use Rattle.wasm_writer.specs.Samples.{code_of}
use Rattle.wasm_writer.proofs.parts.codes.Given as goal

abbrev pub invariant-loop-body : goal.invariant-loop-body
invariant-loop-body l = map plain_code l.all.items ≡ map (λ b. code_of b.now) (take l.body-index l.bodies)
