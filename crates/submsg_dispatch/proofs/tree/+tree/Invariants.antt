-- How deep each call may still go, and that the submessages so far and those left give what all give.
use Rattle.std.proofs.Common.{◌≡◌, ◌+◌, ◌-◌, ◌*◌, map, drop}
use Rattle.kv_layers.specs.Layers.{HasCurrent, depth}
use Rattle.chain_msgs.specs.Messages.{sub_msg_view}
use Rattle.query_router.specs.Lawful.{HasLawfulUnder}
use Rattle.submsg_dispatch.specs.Stages.{given_view}
use Rattle.submsg_dispatch.specs.Submessages.{at_depth, subs}
use Rattle.submsg_dispatch.proofs.Nesting.{GoesOn}
use Rattle.submsg_dispatch.proofs.tree.+tree.Given as goal

abbrev pub decreases-handle_under : goal.decreases-handle_under
decreases-handle_under g l = 8 * (33 - l.depth) + 1

abbrev pub decreases-by_kind : goal.decreases-by_kind
decreases-by_kind g l = 8 * (33 - l.depth) + 7

abbrev pub decreases-respond : goal.decreases-respond
decreases-respond g l = 8 * (33 - l.depth) + 6

abbrev pub decreases-run_subs : goal.decreases-run_subs
decreases-run_subs g l = 8 * (33 - l.depth) + 5

abbrev pub decreases-run_sub : goal.decreases-run_sub
decreases-run_sub g l = 8 * (33 - l.depth) + 4

abbrev pub decreases-settle : goal.decreases-settle
decreases-settle g l = 8 * (33 - l.depth) + 3

abbrev pub decreases-try_sub : goal.decreases-try_sub
decreases-try_sub g l = 8 * (33 - l.depth) + 2

abbrev pub decreases-run_reply : goal.decreases-run_reply
decreases-run_reply g l = 8 * (33 - l.depth) + 2

abbrev pub invariant-run_subs-loop-message : goal.invariant-run_subs-loop-message
invariant-run_subs-loop-message g l = record {
  goes : GoesOn l.fn.prefix g.B.Base.stands_for l.fn.layers l.layers (g.M.Modules.tally l.fn.modules) (g.M.Modules.tally l.modules) l.fn.meter.left l.meter.left
      (subs (at_depth l.fn.costs l.fn.index l.fn.depth) l.fn.caller (map sub_msg_view (drop l.message-index l.messages)) (given_view l.given)) (subs (at_depth l.fn.costs l.fn.index l.fn.depth) l.fn.caller (map sub_msg_view l.fn.messages) (given_view l.fn.given));
  lawful : HasLawfulUnder l.fn.prefix (HasCurrent g.B.Base.stands_for l.layers);
  gas : l.meter.left + l.meter.used ≡ l.fn.meter.left + l.fn.meter.used;
  layers : depth l.layers ≡ depth l.fn.layers;
}
