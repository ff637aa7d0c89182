use Rattle.std.proofs.Common.{arith}
use Rattle.chain_records.specs.Keys.{code, pin}
use Rattle.state_tests.proofs.records.uses.codes_stand_before_pins.Goals as goal

pub returns-clause-codes : goal.returns-clause-codes
returns-clause-codes c = c.keys_keep_their_order.ensures.codes 255 256 (omega arith) (omega arith)

pub returns-clause-kinds : goal.returns-clause-kinds
returns-clause-kinds c = c.keys_keep_their_order.ensures.kinds (code 256) (pin 1) (omega arith)
