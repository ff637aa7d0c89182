-- What is written has no number but integers.
use Rattle.std.proofs.Common.{◌≡◌, false, List, ℕ, refl}
use Rattle.serde_json.specs.Written.{has_float}
use Rattle.json_shapes.proofs.Whole.{list_whole}
use Rattle.chain_msgs.specs.Plain.{TxResult}
use Rattle.chain_msgs.specs.Texts.{result_data}
use Rattle.chain_msgs.proofs.Whole.{result_whole}
use Rattle.line_protocol.specs.Texts.{body_data}

pub body_whole : (height : ℕ) (results : List TxResult) → has_float (body_data height results) ≡ false
body_whole height results = rw (list_whole result_data result_whole results) refl
