use Rattle.host_imports.proofs.Machines.{written_so, unwritten_so}
use Rattle.host_imports.proofs.regions.write_region.Goals as goal

pub returns-in-Ok-clause-moves : goal.returns-in-Ok-clause-moves
returns-in-Ok-clause-moves c = λ left.
    written_so c.memory_mut.result.now c.args.bytes.now c.write_region.new.self c.args.pointer c.memory_mut.ensures.value c.in-Ok.ensures.ok (λ acts s. c.memory_mut.ensures.stands c.write_region.new.self acts s) (c.memory_mut.ensures.module c.write_region.new.self)

pub returns-in-Err-clause-moves : goal.returns-in-Err-clause-moves
returns-in-Err-clause-moves c = λ left. unwritten_so c.memory_mut.result.now c.args.bytes.now c.args.pointer c.in-Err.bad c.region_fault.result c.memory_mut.ensures.value c.in-Err.ensures.bad c.region_fault.ensures
