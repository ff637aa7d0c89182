use Rattle.std.proofs.Common.{arith, ◌∙◌}
use Rattle.wasm_types.proofs.NumberLaws.{cut_end, cut_small, cut_few, cut_more}
use Rattle.wasm_types.proofs.leb.+goes_on.Goals as goal

pub returns-then-at-bytes : goal.returns-then-at-bytes
returns-then-at-bytes t c = cut_end c.args.bits c.args.bytes.now c.args.at c.if-at-bytes.true

pub returns-then-bytes-at-lt128 : goal.returns-then-bytes-at-lt128
returns-then-bytes-at-lt128 t c = cut_small c.args.bits c.args.bytes.now c.args.at (omega arith) c.if-bytes-at-lt128.true

pub returns-then-bits-le7 : goal.returns-then-bits-le7
returns-then-bits-le7 t c = cut_few c.args.bits c.args.bytes.now c.args.at (omega arith) c.if-bytes-at-lt128.false c.if-bits-le7.true

pub returns : goal.returns
returns t c = c.goes_on.ensures ∙ cut_more c.args.bits c.args.bytes.now c.args.at (omega arith) c.if-bytes-at-lt128.false (omega arith)
