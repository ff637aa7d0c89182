use Rattle.std.proofs.Common.{◌≡◌, map, take}
use Rattle.wasm_types.specs.Plain.{plain_import}
use Rattle.wasm_writer.specs.Samples.{env_import}
use Rattle.wasm_writer.proofs.parts.env_imports.Given as goal

abbrev pub invariant-loop-name : goal.invariant-loop-name
invariant-loop-name l = map plain_import l.all.items ≡ map (λ i. env_import (i.0.now, i.1)) (take l.name-index l.list)
