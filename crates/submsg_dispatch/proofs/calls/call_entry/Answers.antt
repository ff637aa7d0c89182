use Rattle.std.proofs.Common.{Ok, Err, ap, ◌∙◌}
use Rattle.std.specs.Option.{option_copied}
use Rattle.submsg_dispatch.proofs.Leading.{fails_from}
use Rattle.submsg_dispatch.proofs.Entering.{enters_as, finished_on, faulted_on, ran_out_on}
use Rattle.submsg_dispatch.proofs.calls.call_entry.Goals as goal

pub returns-in-Ok-Finished-clause-leads : goal.returns-in-Ok-Finished-clause-leads
returns-in-Ok-Finished-clause-leads g c =
    let callee = c.args.callee.now in
    let told = option_copied c.args.info in
    let msg = c.args.msg.now in
    let text = c.in_ok-env.env.items in
    let enters = enters_as c.args.layers.now c.call_contract.new.layers (g.M.Modules.tally c.args.modules.now) (g.M.Modules.tally c.call_contract.new.modules) c.args.meter.now.left c.call_contract.new.meter.left c.call_contract.result c.args.costs.now c.as_slice-addr.result.now callee.addr.items callee.code_id c.args.entry c.deref.result.now text told msg c.as_slice-addr.ensures.value c.deref.ensures.value c.call_contract.ensures.ends in
    finished_on c.args.costs.now c.args.index callee.addr.items callee.code_id c.args.entry told msg text c.call_contract.result c.in-Ok-Finished.bytes c.requires.callee.address c.in_ok-env.ensures (c.in-Ok-Finished.is ∙ ap Ok c.in-Ok-Finished.field-0-is) enters

pub returns-in-Ok-Fault-clause-leads : goal.returns-in-Ok-Fault-clause-leads
returns-in-Ok-Fault-clause-leads g c =
    let callee = c.args.callee.now in
    let told = option_copied c.args.info in
    let msg = c.args.msg.now in
    let text = c.in_ok-env.env.items in
    let enters = enters_as c.args.layers.now c.call_contract.new.layers (g.M.Modules.tally c.args.modules.now) (g.M.Modules.tally c.call_contract.new.modules) c.args.meter.now.left c.call_contract.new.meter.left c.call_contract.result c.args.costs.now c.as_slice-addr.result.now callee.addr.items callee.code_id c.args.entry c.deref.result.now text told msg c.as_slice-addr.ensures.value c.deref.ensures.value c.call_contract.ensures.ends in
    let fails = fails_from c.stop_of.result c.fault_failure.result _ c.stop_of.ensures c.fault_failure.ensures in
    faulted_on c.args.costs.now c.args.index callee.addr.items callee.code_id c.args.entry told msg text c.call_contract.result c.in-Ok-Fault.fault c.stop_of.result c.in_ok-env.ensures (c.in-Ok-Fault.is ∙ ap Ok c.in-Ok-Fault.field-0-is) fails enters

pub returns-in-Err-OutOfGas-clause-leads : goal.returns-in-Err-OutOfGas-clause-leads
returns-in-Err-OutOfGas-clause-leads g c =
    let callee = c.args.callee.now in
    let told = option_copied c.args.info in
    let msg = c.args.msg.now in
    let text = c.in_ok-env.env.items in
    let enters = enters_as c.args.layers.now c.call_contract.new.layers (g.M.Modules.tally c.args.modules.now) (g.M.Modules.tally c.call_contract.new.modules) c.args.meter.now.left c.call_contract.new.meter.left c.call_contract.result c.args.costs.now c.as_slice-addr.result.now callee.addr.items callee.code_id c.args.entry c.deref.result.now text told msg c.as_slice-addr.ensures.value c.deref.ensures.value c.call_contract.ensures.ends in
    ran_out_on c.args.costs.now c.args.index callee.addr.items callee.code_id c.args.entry told msg text c.call_contract.result c.in_ok-env.ensures (c.in-Err-OutOfGas.is ∙ ap Err c.in-Err-OutOfGas.field-0-is) enters
