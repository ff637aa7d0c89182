use Rattle.contract_call.proofs.Machines.{region_read_so, region_bad_so}
use Rattle.contract_call.proofs.handing.read_result.Goals as goal

pub returns-in-Ok : goal.returns-in-Ok
returns-in-Ok c = λ left. region_read_so c.memory.result.now 1048576 c.args.pointer c.in-Ok.bytes c.memory.ensures c.in-Ok.ensures

pub returns-in-Err-Bad : goal.returns-in-Err-Bad
returns-in-Err-Bad c = λ left.
    region_bad_so c.memory.result.now 1048576 c.args.pointer c.in-Err-Bad.bad c.region_fault.result c.memory.ensures (rw c.in-Err-Bad.field-0-is at c.in-Err-Bad.ensures) c.region_fault.ensures
