use Rattle.std.proofs.Common.{◌∙◌, bytes_eq}
use Rattle.wasm_types.specs.Plain.{PlainExport, plain_export}
use Rattle.gatekeeper.proofs.Named.{any_shown}
use Rattle.gatekeeper.proofs.exports.is_exported.Goals as goal

pub returns : goal.returns
returns c = rw c.deref.ensures.value at c.any_named.ensures ∙ any_shown plain_export (λ (e : PlainExport). bytes_eq e.name c.args.name.now) c.args.m.now.exports.items
