use Rattle.std.proofs.Common.{◌≡◌, ◌++◌}
use Rattle.kv_layers.proofs.Plains.{as_changes}
use Rattle.kv_layers.proofs.plain.Plain.into_delta.Given as goal

abbrev pub invariant-loop-key : goal.invariant-loop-key
invariant-loop-key l = l.changes.items ++ as_changes l.key-iterator ≡ as_changes l.initial.key-iterator
