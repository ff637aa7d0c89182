use Rattle.std.proofs.Common.{arith}
use Rattle.linear_memory.proofs.LittleEndian.{loaded_one}
use Rattle.linear_memory.proofs.memory.Memory.load.Goals as goal

pub returns-in-1-clause-ok : goal.returns-in-1-clause-ok
returns-in-1-clause-ok c =
    loaded_one c.args.self.now c.self.inside.bytes.items c.args.at c.args.width c.index.result.now c.from-in-1.result
    c.self.view_is c.in-1.is (omega arith) c.index.ensures c.from-in-1.ensures
