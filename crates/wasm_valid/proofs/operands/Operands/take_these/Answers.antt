use Rattle.std.proofs.Common.{option_to_list}
use Rattle.wasm_valid.specs.Stacks.{stack}
use Rattle.wasm_valid.specs.Rules.{params_of}
use Rattle.wasm_valid.proofs.Taking.{second_not_taken}
use Rattle.wasm_valid.proofs.operands.Operands.take_these.Goals as goal

pub returns-in-Err-take_if : goal.returns-in-Err-take_if
returns-in-Err-take_if c =
    second_not_taken (option_to_list c.args.wanted.top) (option_to_list c.args.wanted.below) (params_of c.args.wanted.callee) (stack c.args.self.now) (stack c.take_if.new.self) c.in-Err-take_if.kind c.in-Ok.ensures c.in-Err-take_if.ensures
