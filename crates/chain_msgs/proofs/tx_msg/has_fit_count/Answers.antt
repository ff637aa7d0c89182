use Rattle.std.proofs.Common.{arith}
use Rattle.std.proofs.lemmas.Grind.{common_steps}
use Rattle.serde_json.proofs.Views.{items_len-items_view}
use Rattle.chain_msgs.proofs.tx_msg.has_fit_count.Goals as goal

pub returns-then-items-ge1 : goal.returns-then-items-ge1
returns-then-items-ge1 c = rw (items_len-items_view c.args.items.now) (grind (arith, common_steps))
