use Rattle.std.proofs.Common.{Some, ap}
use Rattle.contract_call.proofs.Machines.{pointer_given, wide_given}
use Rattle.contract_call.proofs.handing.pointer_in.Goals as goal

pub returns-in-I32 : goal.returns-in-I32
returns-in-I32 c = λ machine left. pointer_given (Some c.args.value) c.in-I32.pointer (ap Some c.in-I32.is)

pub returns-in-I64 : goal.returns-in-I64
returns-in-I64 c = λ machine left. wide_given (Some c.args.value) c.in-I64.field-0 (ap Some c.in-I64.is)
