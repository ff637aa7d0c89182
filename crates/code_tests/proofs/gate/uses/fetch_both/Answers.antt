use Rattle.std.specs.Arc.{arc_value}
use Rattle.wasm_types.specs.Plain.{plain_module}
use Rattle.gatekeeper.specs.CodeBytes.{code_bytes}
use Rattle.code_tests.proofs.gate.uses.fetch_both.Goals as goal

pub returns-clause-spelled : goal.returns-clause-spelled
returns-clause-spelled g c = c.decoded_are_spelled.ensures (code_bytes c.args.second.now) (plain_module (arc_value c.in_ok-found.found)) c.is_accepted.ensures.bytes c.in_ok-found.ensures.module_is
