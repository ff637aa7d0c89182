use Rattle.std.proofs.Common.{[], false, arith}
use Rattle.code_tests.proofs.laws.two_faults.Goals as goal

pub returns-clause-no_end : goal.returns-clause-no_end
returns-clause-no_end c = c.faults_come_in_order.ensures.nesting false 14

pub returns-clause-form : goal.returns-clause-form
returns-clause-form c = c.faults_have_their_kinds.ensures.types.form 11 0x61 [] (λ same. absurd (omega (arith, same)))
