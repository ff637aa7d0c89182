-- The others of those that were seen stand behind the code.
use Rattle.std.proofs.Common.{◌≡◌, ◌==◌, ◌∷◌, not, filter, take}
use Rattle.node_core.proofs.numbers.to_front.Given as goal

abbrev pub invariant-loop-other : goal.invariant-loop-other
invariant-loop-other l = l.front.items ≡ l.code ∷ filter (λ c. not (c == l.code)) (take l.other-index l.codes)
