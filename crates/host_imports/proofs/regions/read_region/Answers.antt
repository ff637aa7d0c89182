use Rattle.host_imports.proofs.Machines.{region_read_so, region_bad_so}
use Rattle.host_imports.proofs.Lengths.{read_is_short}
use Rattle.host_imports.proofs.regions.read_region.Goals as goal

pub returns-in-Ok-clause-moves : goal.returns-in-Ok-clause-moves
returns-in-Ok-clause-moves c = λ left. region_read_so c.memory.result.now c.args.limit c.args.pointer c.in-Ok.bytes c.memory.ensures c.in-Ok.ensures

pub returns-in-Ok-clause-short : goal.returns-in-Ok-clause-short
returns-in-Ok-clause-short c = read_is_short c.memory.result.now c.args.pointer c.args.limit c.in-Ok.bytes.items c.in-Ok.ensures

pub returns-in-Err-Bad-clause-moves : goal.returns-in-Err-Bad-clause-moves
returns-in-Err-Bad-clause-moves c = λ left.
    region_bad_so c.memory.result.now c.args.limit c.args.pointer c.in-Err-Bad.bad c.region_fault.result c.memory.ensures (rw c.in-Err-Bad.field-0-is at c.in-Err-Bad.ensures) c.region_fault.ensures
