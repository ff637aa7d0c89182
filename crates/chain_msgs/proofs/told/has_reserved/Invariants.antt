-- Whether a key is reserved is decided by those that are left.
use Rattle.std.proofs.Common.{◌≡◌, map, drop}
use Rattle.chain_msgs.specs.Plain.{attribute_view}
use Rattle.chain_msgs.specs.Answers.{has_reserved}
use Rattle.chain_msgs.proofs.told.has_reserved.Given as goal

abbrev pub invariant-loop-attribute : goal.invariant-loop-attribute
invariant-loop-attribute l =
    has_reserved (map attribute_view (drop l.attribute-index l.attributes)) ≡ has_reserved (map attribute_view l.attributes)
