use Rattle.std.proofs.Common.{List, ℕ, ◌∙◌, bytes_eq, string_bytes}
use Rattle.gatekeeper.proofs.Named.{any_shown}
use Rattle.gatekeeper.proofs.exports.is_among.Goals as goal

pub returns : goal.returns
returns c = c.any_same.ensures ∙ any_shown string_bytes (λ (cap : List ℕ). bytes_eq cap c.args.wanted.now) c.args.caps.now
