use Rattle.std.proofs.Common.{◌≡◌, ◌∙◌, ◌+◌, ◌-◌, ◌∷◌, ◌≤◌, [], List, ℕ, min, Ok, Err, refl, sym, ap, subst, map, drop, option_map, string_bytes, arith}
use Rattle.std.specs.Global.{Vec}
use Rattle.std.specs.Option.{unwrap_or}
use Rattle.std.proofs.lemmas.List.{drop_more, drop_all}
use Rattle.gas_meter.specs.Gas.{Gas}
use Rattle.coin_amounts.specs.Plain.{raw_coin_view}
use Rattle.chain_records.specs.Keys.{IsAddress}
use Rattle.chain_records.specs.Records.{PlainContract, plain_contract}
use Rattle.chain_records.specs.declared.record.Contract.{Contract}
use Rattle.chain_msgs.specs.Plain.{out_view}
use Rattle.chain_msgs.specs.Messages.{SubMsg, cosmos_view, sub_msg_view, reply_view}
use Rattle.submsg_dispatch.specs.declared.stop.HandleStop.TheVariants.{NoMemory}
use Rattle.call_outcomes.specs.Replies.{wants_reply}
use Rattle.submsg_dispatch.specs.Under.{LeadsUnder}
use Rattle.submsg_dispatch.specs.Parts.{fails, attempt, counts, share, ◌>>=◌}
use Rattle.submsg_dispatch.specs.Failures.{too_deep, unsupported}
use Rattle.submsg_dispatch.specs.Messages.{send_coins, burn_coins, change_admin, drop_admin}
use Rattle.submsg_dispatch.specs.Calling.{described, executes, migrates}
use Rattle.submsg_dispatch.specs.Stages.{Gives, instantiate_of, given_view}
use Rattle.submsg_dispatch.specs.Submessages.{at_depth, by_kind, handled, responds, settled, sub, subs}
use Rattle.submsg_dispatch.specs.Views.{outcome_view}
use Rattle.submsg_dispatch.proofs.Leading.{fails_from, fails_so, no_memory, passes}
use Rattle.submsg_dispatch.proofs.Chaining.{no_memory_on, on_of_under, passes_so, then_on, stop_on, then_gives, gives_on, lawful_on}
use Rattle.submsg_dispatch.proofs.Refusing.{by_sort}
use Rattle.submsg_dispatch.proofs.Closing.{lawful_pushed}
use Rattle.submsg_dispatch.proofs.Nesting.{paid_out, paid_too_deep, paid_kind, closed_one, reply_too_deep, reply_stops, reply_responds, deeper, goes_first, goes_more, goes_stop, goes_end, attempted, share_is, share_least, limit_left}
use Rattle.submsg_dispatch.proofs.Settling.{settled_ok, settled_failed, settled_stop, settled_told, responds_stop, responds_done, kind_stops, kind_responds}
use Rattle.submsg_dispatch.proofs.tree.+tree.Goals as goal

-- ---- handle_under

pub handle_under-returns-in_err-charge_message-clause-leads : goal.handle_under-returns-in_err-charge_message-clause-leads
handle_under-returns-in_err-charge_message-clause-leads g t c =
    let e = c.in_err-charge_message.ensures.err in
    passes c.from_residual.result c.in_err-charge_message.field-0.0 c.from_residual.ensures.1
    (paid_out _ c.in_err-charge_message.field-0.0 c.args.costs.now c.args.sender.now (cosmos_view c.args.msg.now) c.args.index c.args.depth c.args.meter.now.left c.charge_message.new.meter.left e.0 e.1 e.2)

pub handle_under-returns-then-depth-eq-DEEPEST-clause-leads : goal.handle_under-returns-then-depth-eq-DEEPEST-clause-leads
handle_under-returns-then-depth-eq-DEEPEST-clause-leads g t c =
    let e = c.in_ok-charge_message.ensures.ok in
    paid_too_deep _ c.stop_of.result c.args.costs.now c.args.sender.now (cosmos_view c.args.msg.now) c.args.index c.args.depth c.args.meter.now.left c.charge_message.new.meter.left c.if-depth-eq-DEEPEST.true
    (fails_from c.stop_of.result c.too_deep.result too_deep c.stop_of.ensures c.too_deep.ensures) e.0 e.1

pub handle_under-returns-in_err-push_layer-clause-leads : goal.handle_under-returns-in_err-push_layer-clause-leads
handle_under-returns-in_err-push_layer-clause-leads g t c = passes c.from_residual-in_err-push_layer.result NoMemory c.from_residual-in_err-push_layer.ensures.1 no_memory

pub handle_under-by_kind-done-requires : goal.handle_under-by_kind-done-requires
handle_under-by_kind-done-requires g t c = λ κs out.
    let below : c.args.depth + 1 ≤ 32 = deeper c.args.depth c.requires.1.1.1.1.1.0 c.if-depth-eq-DEEPEST.false in
    (omega (arith, below), (out.0, (out.1, (c.requires.1.1.1.1.0, (below, (c.requires.1.1.1.1.1.1.0, lawful_pushed c.in_ok-push_layer.ensures.ok c.requires.1.1.1.1.1.1.1))))))

pub handle_under-returns-clause-leads : goal.handle_under-returns-clause-leads
handle_under-returns-clause-leads g t c =
    let e = c.in_ok-charge_message.ensures.ok in
    paid_kind c.args.costs.now c.args.sender.now (cosmos_view c.args.msg.now) c.args.index c.args.depth c.args.meter.now.left c.charge_message.new.meter.left c.requires.1.1.1.1.1.0 c.if-depth-eq-DEEPEST.false e.0 e.1
    (closed_one c.by_kind-done.result c.close_message.result c.in_ok-push_layer.ensures.ok c.by_kind-done.ensures.leads c.close_message.ensures.closed)

-- ---- by_kind

pub by_kind-returns-in-BankSend-clause-leads : goal.by_kind-returns-in-BankSend-clause-leads
by_kind-returns-in-BankSend-clause-leads g t c =
    let costs = c.args.costs.now in
    let sender = c.args.sender.now in
    let does = rw (c.as_str-to.ensures.value, c.deref.ensures.value) at (c.send_coins.ensures.leads (g.M.Modules.tally c.args.modules.now)) in
    by_sort (send_coins costs sender (string_bytes c.in-BankSend.to) (map raw_coin_view c.in-BankSend.amount.items)) (at_depth costs c.args.index c.args.depth) costs c.args.index sender _ _ c.in-BankSend.is refl (on_of_under c.send_coins.result does)

pub by_kind-returns-in-BankBurn-clause-leads : goal.by_kind-returns-in-BankBurn-clause-leads
by_kind-returns-in-BankBurn-clause-leads g t c =
    let costs = c.args.costs.now in
    let sender = c.args.sender.now in
    let does = rw c.deref-in-BankBurn.ensures.value at (c.burn_coins.ensures.leads (g.M.Modules.tally c.args.modules.now)) in
    by_sort (burn_coins costs sender (map raw_coin_view c.in-BankBurn.amount.items)) (at_depth costs c.args.index c.args.depth) costs c.args.index sender _ _ c.in-BankBurn.is refl (on_of_under c.burn_coins.result does)

pub by_kind-returns-in_err-called-in-Execute-clause-leads : goal.by_kind-returns-in_err-called-in-Execute-clause-leads
by_kind-returns-in_err-called-in-Execute-clause-leads g t c =
    let costs = c.args.costs.now in
    let index = c.args.index in
    let sender = c.args.sender.now in
    let lvl = at_depth costs index c.args.depth in
    let e = c.in-Execute in
    let p = executes costs index c.args.prefix.now sender (string_bytes e.contract) e.msg.items (map raw_coin_view e.funds.items) in
    let does = rw (c.deref-in-Execute.ensures, c.deref-in-Execute-2.ensures.value, c.deref-in-Execute-3.ensures.value) at c.in_err-called-in-Execute.ensures.leads in
    kind_stops p lvl costs index sender _ _ c.in_err-called-in-Execute.field-0.0 c.from_residual.result c.from_residual.ensures.1 e.is refl does

pub by_kind-respond-requires : goal.by_kind-respond-requires
by_kind-respond-requires g t c = λ κs out. (
  omega arith,
  (out.0, (out.1, (c.in_ok-called-in-Execute.ensures.called, (c.requires.1.1.1.1.1.0, (c.requires.1.1.1.1.1.1.0, lawful_on _ c.requires.1.1.1.1.1.1.1 c.in_ok-called-in-Execute.ensures.leads))))),
)

pub by_kind-returns-in_ok-called-in-Execute-clause-leads : goal.by_kind-returns-in_ok-called-in-Execute-clause-leads
by_kind-returns-in_ok-called-in-Execute-clause-leads g t c =
    let costs = c.args.costs.now in
    let index = c.args.index in
    let sender = c.args.sender.now in
    let lvl = at_depth costs index c.args.depth in
    let e = c.in-Execute in
    let p = executes costs index c.args.prefix.now sender (string_bytes e.contract) e.msg.items (map raw_coin_view e.funds.items) in
    let does = rw (c.deref-in-Execute.ensures, c.deref-in-Execute-2.ensures.value, c.deref-in-Execute-3.ensures.value) at c.in_ok-called-in-Execute.ensures.leads in
    kind_responds c.fetches_join.ensures _ p lvl costs index sender _ _ e.is refl does c.respond.ensures.leads

pub by_kind-returns-in_err-contract-in-Instantiate-clause-leads : goal.by_kind-returns-in_err-contract-in-Instantiate-clause-leads
by_kind-returns-in_err-contract-in-Instantiate-clause-leads g t c =
    let costs = c.args.costs.now in
    let index = c.args.index in
    let sender = c.args.sender.now in
    let lvl = at_depth costs index c.args.depth in
    let e = c.in-Instantiate in
    let d = described sender (option_map string_bytes e.admin) e.code_id (string_bytes e.label) (out_view e.salt) in
    let make = λ (x : PlainContract). instantiate_of costs index c.args.prefix.now e.msg.items (map raw_coin_view e.funds.items) (out_view e.salt) x in
    let stop = c.in_err-contract-in-Instantiate.field-0.0 in
    let gives = subst (λ (label : List ℕ). Gives {X = Contract} c.args.prefix.now plain_contract (Err stop) (described sender (option_map string_bytes e.admin) e.code_id label (out_view e.salt))) c.deref-in-Instantiate.ensures c.in_err-contract-in-Instantiate.ensures.gives in
    kind_stops (d >>= make) lvl costs index sender _ _ stop c.from_residual-in_err-contract-in-Instantiate.result c.from_residual-in_err-contract-in-Instantiate.ensures.1 e.is refl (stop_on stop d make (gives_on {X = Contract} d plain_contract (Err stop) gives))

pub by_kind-returns-in_err-called-in-Instantiate-clause-leads : goal.by_kind-returns-in_err-called-in-Instantiate-clause-leads
by_kind-returns-in_err-called-in-Instantiate-clause-leads g t c =
    let costs = c.args.costs.now in
    let index = c.args.index in
    let sender = c.args.sender.now in
    let lvl = at_depth costs index c.args.depth in
    let e = c.in-Instantiate in
    let d = described sender (option_map string_bytes e.admin) e.code_id (string_bytes e.label) (out_view e.salt) in
    let make = λ (x : PlainContract). instantiate_of costs index c.args.prefix.now e.msg.items (map raw_coin_view e.funds.items) (out_view e.salt) x in
    let gives = subst (λ (label : List ℕ). Gives {X = Contract} c.args.prefix.now plain_contract (Ok c.in_ok-contract-in-Instantiate.contract) (described sender (option_map string_bytes e.admin) e.code_id label (out_view e.salt))) c.deref-in-Instantiate.ensures c.in_ok-contract-in-Instantiate.ensures.gives in
    let does = rw (c.deref-in-Instantiate-2.ensures.value, c.deref-in-Instantiate-3.ensures.value) at c.in_err-called-in-Instantiate.ensures.leads in
    kind_stops (d >>= make) lvl costs index sender _ _ c.in_err-called-in-Instantiate.field-0.0 c.from_residual-in_err-called-in-Instantiate.result c.from_residual-in_err-called-in-Instantiate.ensures.1 e.is refl
    (then_gives d make plain_contract c.in_ok-contract-in-Instantiate.contract gives does)

pub by_kind-respond-requires-in-Instantiate : goal.by_kind-respond-requires-in-Instantiate
by_kind-respond-requires-in-Instantiate g t c = λ κs out. (
  omega arith,
  (
    out.0,
    (
      out.1,
      (
        c.in_ok-called-in-Instantiate.ensures.called,
        (c.requires.1.1.1.1.1.0, (c.requires.1.1.1.1.1.1.0, lawful_on _ c.requires.1.1.1.1.1.1.1 c.in_ok-called-in-Instantiate.ensures.leads)),
      ),
    ),
  ),
)

pub by_kind-returns-in_ok-called-in-Instantiate-clause-leads : goal.by_kind-returns-in_ok-called-in-Instantiate-clause-leads
by_kind-returns-in_ok-called-in-Instantiate-clause-leads g t c =
    let costs = c.args.costs.now in
    let index = c.args.index in
    let sender = c.args.sender.now in
    let lvl = at_depth costs index c.args.depth in
    let e = c.in-Instantiate in
    let d = described sender (option_map string_bytes e.admin) e.code_id (string_bytes e.label) (out_view e.salt) in
    let make = λ (x : PlainContract). instantiate_of costs index c.args.prefix.now e.msg.items (map raw_coin_view e.funds.items) (out_view e.salt) x in
    let gives = subst (λ (label : List ℕ). Gives {X = Contract} c.args.prefix.now plain_contract (Ok c.in_ok-contract-in-Instantiate.contract) (described sender (option_map string_bytes e.admin) e.code_id label (out_view e.salt))) c.deref-in-Instantiate.ensures c.in_ok-contract-in-Instantiate.ensures.gives in
    let does = rw (c.deref-in-Instantiate-2.ensures.value, c.deref-in-Instantiate-3.ensures.value) at c.in_ok-called-in-Instantiate.ensures.leads in
    kind_responds c.fetches_join.ensures _ (d >>= make) lvl costs index sender _ _ e.is refl (then_gives d make plain_contract c.in_ok-contract-in-Instantiate.contract gives does) c.respond-in-Instantiate.ensures.leads

pub by_kind-returns-in_err-called-in-Migrate-clause-leads : goal.by_kind-returns-in_err-called-in-Migrate-clause-leads
by_kind-returns-in_err-called-in-Migrate-clause-leads g t c =
    let costs = c.args.costs.now in
    let index = c.args.index in
    let sender = c.args.sender.now in
    let lvl = at_depth costs index c.args.depth in
    let e = c.in-Migrate in
    let p = migrates costs index c.args.prefix.now sender (string_bytes e.contract) e.new_code_id e.msg.items in
    let does = rw (c.deref-in-Migrate.ensures, c.deref-in-Migrate-2.ensures.value) at c.in_err-called-in-Migrate.ensures.leads in
    kind_stops p lvl costs index sender _ _ c.in_err-called-in-Migrate.field-0.0 c.from_residual-in_err-called-in-Migrate.result c.from_residual-in_err-called-in-Migrate.ensures.1 e.is refl does

pub by_kind-respond-requires-in-Migrate : goal.by_kind-respond-requires-in-Migrate
by_kind-respond-requires-in-Migrate g t c = λ κs out. (
  omega arith,
  (
    out.0,
    (out.1, (c.in_ok-called-in-Migrate.ensures.called, (c.requires.1.1.1.1.1.0, (c.requires.1.1.1.1.1.1.0, lawful_on _ c.requires.1.1.1.1.1.1.1 c.in_ok-called-in-Migrate.ensures.leads)))),
  ),
)

pub by_kind-returns-in_ok-called-in-Migrate-clause-leads : goal.by_kind-returns-in_ok-called-in-Migrate-clause-leads
by_kind-returns-in_ok-called-in-Migrate-clause-leads g t c =
    let costs = c.args.costs.now in
    let index = c.args.index in
    let sender = c.args.sender.now in
    let lvl = at_depth costs index c.args.depth in
    let e = c.in-Migrate in
    let p = migrates costs index c.args.prefix.now sender (string_bytes e.contract) e.new_code_id e.msg.items in
    let does = rw (c.deref-in-Migrate.ensures, c.deref-in-Migrate-2.ensures.value) at c.in_ok-called-in-Migrate.ensures.leads in
    kind_responds c.fetches_join.ensures _ p lvl costs index sender _ _ e.is refl does c.respond-in-Migrate.ensures.leads

pub by_kind-returns-in-UpdateAdmin-clause-leads : goal.by_kind-returns-in-UpdateAdmin-clause-leads
by_kind-returns-in-UpdateAdmin-clause-leads g t c =
    let costs = c.args.costs.now in
    let sender = c.args.sender.now in
    let e = c.in-UpdateAdmin in
    let does = rw (c.as_str-contract.ensures.value, c.as_str-admin.ensures.value) at (c.change_admin.ensures.leads (g.M.Modules.tally c.args.modules.now) c.args.meter.now.left) in
    by_sort (change_admin sender (string_bytes e.contract) (string_bytes e.admin)) (at_depth costs c.args.index c.args.depth) costs c.args.index sender _ _ e.is refl (on_of_under c.change_admin.result does)

pub by_kind-returns-in-ClearAdmin-clause-leads : goal.by_kind-returns-in-ClearAdmin-clause-leads
by_kind-returns-in-ClearAdmin-clause-leads g t c =
    let costs = c.args.costs.now in
    let sender = c.args.sender.now in
    let e = c.in-ClearAdmin in
    let does = rw c.as_str.ensures.value at (c.drop_admin.ensures.leads (g.M.Modules.tally c.args.modules.now) c.args.meter.now.left) in
    by_sort (drop_admin sender (string_bytes e.contract)) (at_depth costs c.args.index c.args.depth) costs c.args.index sender _ _ e.is refl (on_of_under c.drop_admin.result does)

pub by_kind-returns-in-Other-clause-leads : goal.by_kind-returns-in-Other-clause-leads
by_kind-returns-in-Other-clause-leads g t c =
    let costs = c.args.costs.now in
    let sender = c.args.sender.now in
    let kind = c.as_str-in-Other.result.now in
    by_sort (fails (unsupported kind)) (at_depth costs c.args.index c.args.depth) costs c.args.index sender _ _ c.in-Other.is (ap (λ k. fails (unsupported k)) (sym c.as_str-in-Other.ensures.value))
    (on_of_under (Err c.stop_of.result) (fails_so (g.M.Modules.tally c.args.modules.now) c.stop_of.result (unsupported kind) (fails_from c.stop_of.result c.unsupported.result (unsupported kind) c.stop_of.ensures c.unsupported.ensures)))

-- ---- respond

pub respond-returns-in_err-addr-clause-leads : goal.respond-returns-in_err-addr-clause-leads
respond-returns-in_err-addr-clause-leads g t c = passes_so c.from_residual.result NoMemory c.from_residual.ensures.1 no_memory_on

pub respond-run_subs-requires : goal.respond-run_subs-requires
respond-run_subs-requires g t c = λ κs out.
    let same = c.deref.ensures.value ∙ ap (λ (v : Vec ℕ). v.items) c.in_ok-addr.ensures.addr in
    (omega arith, (out.0, (out.1, (subst IsAddress (sym same) c.requires.1.1.1.1.0, (c.requires.1.1.1.1.1.0, (c.requires.1.1.1.1.1.1.0, c.requires.1.1.1.1.1.1.1))))))

pub respond-returns-in_err-given-clause-leads : goal.respond-returns-in_err-given-clause-leads
respond-returns-in_err-given-clause-leads g t c =
    let does = rw (c.deref.ensures.value, c.deref-2.ensures.value) at c.in_err-given.ensures.leads in
    passes_so c.from_residual-in_err-given.result c.in_err-given.field-0.0 c.from_residual-in_err-given.ensures.1
    (responds_stop (at_depth c.args.costs.now c.args.index c.args.depth) c.args.called _ c.in_err-given.field-0.0 c.in_ok-addr.ensures does)

pub respond-returns-in_err-outcome_of-clause-leads : goal.respond-returns-in_err-outcome_of-clause-leads
respond-returns-in_err-outcome_of-clause-leads g t c = passes_so c.from_residual-in_err-outcome_of.result NoMemory c.from_residual-in_err-outcome_of.ensures.1 no_memory_on

pub respond-returns-clause-leads : goal.respond-returns-clause-leads
respond-returns-clause-leads g t c =
    let does = rw (c.deref.ensures.value, c.deref-2.ensures.value) at c.in_ok-given.ensures.leads in
    let gives = rw c.deref-3.ensures at c.in_ok-outcome_of.ensures in
    responds_done (at_depth c.args.costs.now c.args.index c.args.depth) c.args.called _ _ _ c.in_ok-addr.ensures gives does

-- ---- run_subs

pub run_subs-loop-message-init : goal.run_subs-loop-message-init
run_subs-loop-message-init g t c = record { goes = goes_first _; lawful = c.requires.1.1.1.1.1.1.1; gas = refl; layers = refl }

pub run_subs-run_sub-requires : goal.run_subs-run_sub-requires
run_subs-run_sub-requires g t c = λ κs out. (omega arith, (out.0, (out.1, (c.requires.1.1.1.1.0, (c.requires.1.1.1.1.1.0, (c.requires.1.1.1.1.1.1.0, c.loop-message.invariant.lawful))))))

pub run_subs-loop-message-preserved : goal.run_subs-loop-message-preserved
run_subs-loop-message-preserved g t c =
    let items = c.args.messages.now in
    let i = c.loop-message.message-index in
    let m : SubMsg = sub_msg_view c.message-item.result in
    let rest : List SubMsg = map sub_msg_view (drop (i + 1) items) in
    let splits : map sub_msg_view (drop i items) ≡ m ∷ rest = ap (map sub_msg_view) (drop_more items i c.message-item.result c.loop-message-test.true) ∙ ap (λ x. sub_msg_view x ∷ rest) (sym c.message-item.is) in
    let lvl = at_depth c.args.costs.now c.args.index c.args.depth in
    let whole = subs lvl c.args.caller.now (map sub_msg_view items) (given_view c.args.given) in
    let so_far = rw splits at c.loop-message.invariant.goes in
    record {
      goes = goes_more lvl c.args.caller.now m rest (given_view c.loop-message.given) whole _ c.fetches_join.ensures so_far c.in_ok-given.ensures.leads;
      lawful = lawful_on _ c.loop-message.invariant.lawful c.in_ok-given.ensures.leads;
      gas = c.in_ok-given.ensures.gas ∙ c.loop-message.invariant.gas;
      layers = c.in_ok-given.ensures.layers ∙ c.loop-message.invariant.layers;
    }

pub run_subs-returns-in_err-given-clause-leads : goal.run_subs-returns-in_err-given-clause-leads
run_subs-returns-in_err-given-clause-leads g t c =
    let items = c.args.messages.now in
    let i = c.loop-message.message-index in
    let m : SubMsg = sub_msg_view c.message-item.result in
    let rest : List SubMsg = map sub_msg_view (drop (i + 1) items) in
    let splits : map sub_msg_view (drop i items) ≡ m ∷ rest = ap (map sub_msg_view) (drop_more items i c.message-item.result c.loop-message-test.true) ∙ ap (λ x. sub_msg_view x ∷ rest) (sym c.message-item.is) in
    let lvl = at_depth c.args.costs.now c.args.index c.args.depth in
    let whole = subs lvl c.args.caller.now (map sub_msg_view items) (given_view c.args.given) in
    let so_far = rw splits at c.loop-message.invariant.goes in
    passes_so c.from_residual.result c.in_err-given.field-0.0 c.from_residual.ensures.1 (goes_stop lvl c.args.caller.now m rest (given_view c.loop-message.given) whole c.in_err-given.field-0.0 so_far c.in_err-given.ensures.leads)

pub run_subs-returns-clause-leads : goal.run_subs-returns-clause-leads
run_subs-returns-clause-leads g t c =
    let items = c.args.messages.now in
    let lvl = at_depth c.args.costs.now c.args.index c.args.depth in
    let whole = subs lvl c.args.caller.now (map sub_msg_view items) (given_view c.args.given) in
    let none : map sub_msg_view (drop c.loop-message.message-index items) ≡ [] = ap (map sub_msg_view) (drop_all c.loop-message.message-index items c.loop-message-test.false) in
    let so_far = rw none at c.loop-message.invariant.goes in
    goes_end lvl c.args.caller.now whole c.loop-message.given so_far

-- ---- run_sub

pub run_sub-returns-in_err-done-clause-leads : goal.run_sub-returns-in_err-done-clause-leads
run_sub-returns-in_err-done-clause-leads g t c =
    let lvl = at_depth c.args.costs.now c.args.index c.args.depth in
    let m = sub_msg_view c.args.message.now in
    let stop = c.in_err-done.field-0.0 in
    passes_so c.from_residual.result stop c.from_residual.ensures.1
    (stop_on stop (attempt m.gas_limit (lvl.message c.args.caller.now m.msg)) (settled lvl c.args.caller.now m (given_view c.args.given)) c.in_err-done.ensures.leads)

pub run_sub-settle-requires : goal.run_sub-settle-requires
run_sub-settle-requires g t c = λ κs out. (
  omega arith,
  (out.0, (out.1, (c.requires.1.1.1.1.0, (c.requires.1.1.1.1.1.0, (c.requires.1.1.1.1.1.1.0, lawful_on c.in_ok-done.done c.requires.1.1.1.1.1.1.1 c.in_ok-done.ensures.leads))))),
)

pub run_sub-returns-clause-leads : goal.run_sub-returns-clause-leads
run_sub-returns-clause-leads g t c =
    let lvl = at_depth c.args.costs.now c.args.index c.args.depth in
    let m = sub_msg_view c.args.message.now in
    then_on c.fetches_join.ensures c.in_ok-done.done (attempt m.gas_limit (lvl.message c.args.caller.now m.msg)) (settled lvl c.args.caller.now m (given_view c.args.given)) c.in_ok-done.ensures.leads c.settle.ensures.leads

pub run_sub-try_sub-requires : goal.run_sub-try_sub-requires
run_sub-try_sub-requires g t c = λ κs out. (omega arith, (out.0, (out.1, (c.requires.1.1.1.1.0, (c.requires.1.1.1.1.1.0, (c.requires.1.1.1.1.1.1.0, c.requires.1.1.1.1.1.1.1))))))

-- ---- try_sub

pub try_sub-handle_under-done-requires : goal.try_sub-handle_under-done-requires
try_sub-handle_under-done-requires g t c = λ κs out. (omega arith, (out.0, (out.1, (c.requires.1.1.1.1.0, (c.requires.1.1.1.1.1.0, (c.requires.1.1.1.1.1.1.0, c.requires.1.1.1.1.1.1.1))))))

pub try_sub-returns-clause-leads : goal.try_sub-returns-clause-leads
try_sub-returns-clause-leads g t c =
    let limit = c.args.message.now.gas_limit in
    let l = c.args.meter.now.left in
    let m = c.handle_under-done.new.meter.left in
    let part = handled c.args.costs.now c.args.caller.now (cosmos_view c.args.message.now.msg) c.args.index c.args.depth in
    let wanted : c.unwrap_or.result ≡ unwrap_or limit l = c.unwrap_or.ensures ∙ ap (unwrap_or limit) c.left-left.ensures in
    let same : c.part-part.result.left ≡ share limit l = ap (λ (x : Gas). x.left) c.part-part.ensures ∙ ap (λ (k : ℕ). min k l) wanted ∙ share_is limit l in
    let unused_yet : c.part-part.result.used ≡ 0 = ap (λ (x : Gas). x.used) c.part-part.ensures in
    let spent : c.spend.new.self.left ≡ l - c.used.result = ap (λ (x : Gas). x.left) c.spend.ensures in
    let counted : c.counts-counting.result ≡ counts limit l = c.counts-counting.ensures ∙ ap (counts limit) c.left-left.ensures in
    let leads =
    subst (λ (k : ℕ). LeadsUnder c.args.prefix.now g.B.Base.stands_for c.args.layers.now c.handle_under-done.new.layers (g.M.Modules.tally c.args.modules.now) (g.M.Modules.tally c.handle_under-done.new.modules) k m part outcome_view c.handle_under-done.result) same
    c.handle_under-done.ensures.leads
    in
    attempted limit part c.counts-counting.result c.handle_under-done.result c.caught.result counted leads c.caught.ensures
    (limit_left l (share limit l) m c.handle_under-done.new.meter.used c.part-part.result.left c.part-part.result.used c.used.result c.spend.new.self.left (share_least limit l) same unused_yet c.handle_under-done.ensures.gas c.used.ensures.used spent)

-- ---- settle

pub settle-returns-in_ok-with_events-in-Ok-clause-leads : goal.settle-returns-in_ok-with_events-in-Ok-clause-leads
settle-returns-in_ok-with_events-in-Ok-clause-leads g t c =
    let wants = ap (wants_reply c.args.message.now.reply_on) (sym c.is_ok.ensures.value) ∙ sym c.wants_reply.ensures ∙ c.if-not-wants_reply.true in
    settled_ok (at_depth c.args.costs.now c.args.index c.args.depth) c.args.caller.now (sub_msg_view c.args.message.now) c.args.given _ c.args.done c.in-Ok.outcome c.in-Ok.is wants c.in_ok-with_events-in-Ok.ensures

pub settle-returns-in-Err-clause-leads : goal.settle-returns-in-Err-clause-leads
settle-returns-in-Err-clause-leads g t c =
    let wants = ap (wants_reply c.args.message.now.reply_on) (sym c.is_ok.ensures.value) ∙ sym c.wants_reply.ensures ∙ c.if-not-wants_reply.true in
    settled_failed (at_depth c.args.costs.now c.args.index c.args.depth) c.args.caller.now (sub_msg_view c.args.message.now) c.args.given c.args.done c.in-Err.failure c.in-Err.is wants

pub settle-returns-in_err-with_events-in-Ok-clause-leads : goal.settle-returns-in_err-with_events-in-Ok-clause-leads
settle-returns-in_err-with_events-in-Ok-clause-leads g t c = passes_so c.from_residual.result NoMemory c.from_residual.ensures.1 no_memory_on

pub settle-returns-in_err-result-clause-leads : goal.settle-returns-in_err-result-clause-leads
settle-returns-in_err-result-clause-leads g t c = passes_so c.from_residual-in_err-result.result NoMemory c.from_residual-in_err-result.ensures.1 no_memory_on

pub settle-run_reply-requires : goal.settle-run_reply-requires
settle-run_reply-requires g t c = λ κs out. (omega arith, (out.0, (out.1, (c.requires.1.1.1.1.0, (c.requires.1.1.1.1.1.0, (c.requires.1.1.1.1.1.1.0, c.requires.1.1.1.1.1.1.1))))))

pub settle-returns-in_err-outcome-clause-leads : goal.settle-returns-in_err-outcome-clause-leads
settle-returns-in_err-outcome-clause-leads g t c =
    let wants = ap (wants_reply c.args.message.now.reply_on) (sym c.is_ok.ensures.value) ∙ sym c.wants_reply.ensures ∙ c.if-not-wants_reply.false in
    let stop = c.in_err-outcome.field-0.0 in
    passes_so c.from_residual-in_err-outcome.result stop c.from_residual-in_err-outcome.ensures.1
    (settled_stop (at_depth c.args.costs.now c.args.index c.args.depth) c.args.caller.now (sub_msg_view c.args.message.now) (given_view c.args.given) c.args.done _ stop wants c.in_ok-result.ensures c.in_err-outcome.ensures.leads)

pub settle-returns-in_err-with_reply-clause-leads : goal.settle-returns-in_err-with_reply-clause-leads
settle-returns-in_err-with_reply-clause-leads g t c = passes_so c.from_residual-in_err-with_reply.result NoMemory c.from_residual-in_err-with_reply.ensures.1 no_memory_on

pub settle-returns-clause-leads : goal.settle-returns-clause-leads
settle-returns-clause-leads g t c =
    let wants = ap (wants_reply c.args.message.now.reply_on) (sym c.is_ok.ensures.value) ∙ sym c.wants_reply.ensures ∙ c.if-not-wants_reply.false in
    settled_told (at_depth c.args.costs.now c.args.index c.args.depth) c.args.caller.now (sub_msg_view c.args.message.now) c.args.given c.in_ok-with_reply.field-0 c.args.done _ c.in_ok-outcome.outcome wants c.in_ok-result.ensures c.in_ok-with_reply.ensures c.in_ok-outcome.ensures.leads

-- ---- run_reply

pub run_reply-returns-then-depth-eq-DEEPEST-clause-leads : goal.run_reply-returns-then-depth-eq-DEEPEST-clause-leads
run_reply-returns-then-depth-eq-DEEPEST-clause-leads g t c =
    reply_too_deep (g.M.Modules.tally c.args.modules.now) c.stop_of.result c.args.costs.now c.args.addr.now (reply_view c.args.reply.now) c.args.index c.args.depth c.args.meter.now.left c.if-depth-eq-DEEPEST.true (fails_from c.stop_of.result c.too_deep.result too_deep c.stop_of.ensures c.too_deep.ensures)

pub run_reply-returns-in_err-to_vec-clause-leads : goal.run_reply-returns-in_err-to_vec-clause-leads
run_reply-returns-in_err-to_vec-clause-leads g t c = passes_so c.from_residual.result NoMemory c.from_residual.ensures.1 no_memory_on

pub run_reply-reply_to-requires-clause-address : goal.run_reply-reply_to-requires-clause-address
run_reply-reply_to-requires-clause-address g t c = subst IsAddress (sym (c.in_ok-to_vec.ensures.items_if_clones_equal (λ x y e. e))) c.requires.1.1.1.1.0

pub run_reply-returns-in_err-called-clause-leads : goal.run_reply-returns-in_err-called-clause-leads
run_reply-returns-in_err-called-clause-leads g t c =
    let does = rw (c.in_ok-to_vec.ensures.items_if_clones_equal (λ x y e. e)) at c.in_err-called.ensures.leads in
    passes_so c.from_residual-in_err-called.result c.in_err-called.field-0.0 c.from_residual-in_err-called.ensures.1
    (reply_stops c.in_err-called.field-0.0 c.args.costs.now c.args.addr.now (reply_view c.args.reply.now) c.args.index c.args.depth c.requires.1.1.1.1.1.0 c.if-depth-eq-DEEPEST.false does)

pub run_reply-respond-requires : goal.run_reply-respond-requires
run_reply-respond-requires g t c = λ κs out.
    let below : c.args.depth + 1 ≤ 32 = deeper c.args.depth c.requires.1.1.1.1.1.0 c.if-depth-eq-DEEPEST.false in
    (omega (arith, below), (out.0, (out.1, (c.in_ok-called.ensures.called, (below, (c.requires.1.1.1.1.1.1.0, lawful_on _ c.requires.1.1.1.1.1.1.1 c.in_ok-called.ensures.leads))))))

pub run_reply-returns-clause-leads : goal.run_reply-returns-clause-leads
run_reply-returns-clause-leads g t c =
    let does = rw (c.in_ok-to_vec.ensures.items_if_clones_equal (λ x y e. e)) at c.in_ok-called.ensures.leads in
    reply_responds c.fetches_join.ensures c.in_ok-called.called c.args.costs.now c.args.addr.now (reply_view c.args.reply.now) c.args.index c.args.depth c.requires.1.1.1.1.1.0 c.if-depth-eq-DEEPEST.false does c.respond.ensures.leads
