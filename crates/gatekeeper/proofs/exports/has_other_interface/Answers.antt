use Rattle.std.proofs.Common.{◌∙◌}
use Rattle.wasm_types.specs.Plain.{plain_export}
use Rattle.wasm_types.specs.Gate.{is_other_interface}
use Rattle.gatekeeper.proofs.Named.{any_shown}
use Rattle.gatekeeper.proofs.exports.has_other_interface.Goals as goal

pub returns : goal.returns
returns c = rw c.deref.ensures.value at c.any_other_interface.ensures ∙ any_shown plain_export is_other_interface c.args.m.now.exports.items
