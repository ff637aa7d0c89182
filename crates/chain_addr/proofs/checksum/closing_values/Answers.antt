use Rattle.std.proofs.Common.{bit_xor, ap}
use Rattle.chain_addr.proofs.Closing.{closed}
use Rattle.chain_addr.proofs.checksum.closing_values.Goals as goal

pub returns-clause-one : goal.returns-clause-one
returns-clause-one c =
    closed c.args.state (bit_xor c.after_values-open.result 1) c.value_at.result c.value_at-2.result c.value_at-3.result c.value_at-4.result c.value_at-5.result c.value_at-6.result
    (ap (λ x. bit_xor x 1) c.after_values-open.ensures) c.value_at.ensures c.value_at-2.ensures c.value_at-3.ensures c.value_at-4.ensures c.value_at-5.ensures c.value_at-6.ensures
