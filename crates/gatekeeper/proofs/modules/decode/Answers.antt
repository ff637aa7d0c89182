use Rattle.wasm_types.specs.Place.{Broken}
use Rattle.std.proofs.Common.{Option, subst}
use Rattle.wasm_reader.specs.Answers.{IsFault}
use Rattle.gatekeeper.specs.CodeBytes.{code_bytes}
use Rattle.gatekeeper.proofs.Taken.{breaks_nowhere}
use Rattle.gatekeeper.proofs.modules.decode.Goals as goal

pub memory_stop-requires : goal.memory_stop-requires
memory_stop-requires c =
    let bytes = code_bytes c.args.code.now in
    let contract = c.accepted_are_contracts.ensures bytes c.is_accepted.ensures.accepted in
    subst (λ (o : Option Broken). IsFault c.in-Err.stop o) (breaks_nowhere bytes contract.0 contract.1.decoded) (rw c.bytes.ensures at c.in-Err.ensures.fault)
