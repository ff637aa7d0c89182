use Rattle.std.proofs.Common.{◌+◌, ◌-◌, ◌*◌, ◌^◌, ◌<◌, get_or, arith, sym, ◌∙◌, refl}
use Rattle.wasm_types.proofs.Numbers.{found-end, found-last, found-long, found-more, more_bits, below_word}
use Rattle.wasm_types.proofs.leb.+number.Goals as goal

pub returns-then-at-bytes-clause-value : goal.returns-then-at-bytes-clause-value
returns-then-at-bytes-clause-value t c = found-end c.args.signed c.args.bits c.args.bytes.now c.args.at c.if-at-bytes.true

pub returns-in_err-value-clause-value : goal.returns-in_err-value-clause-value
returns-in_err-value-clause-value t c =
    rw (c.from_residual.ensures, found-last c.args.signed c.args.bits c.args.bytes.now c.args.at (omega arith) c.if-byte-lt128.true _ (sym (c.in_err-value.was) ∙ c.last_byte.ensures.value)) refl

pub returns-then-byte-lt128-clause-value : goal.returns-then-byte-lt128-clause-value
returns-then-byte-lt128-clause-value t c =
    (found-last c.args.signed c.args.bits c.args.bytes.now c.args.at (omega arith) c.if-byte-lt128.true _ (sym (c.in_ok-value.was) ∙ c.last_byte.ensures.value), omega arith)

pub returns-then-bits-le7-clause-value : goal.returns-then-bits-le7-clause-value
returns-then-bits-le7-clause-value t c = found-long c.args.signed c.args.bits c.args.bytes.now c.args.at (omega arith) c.if-byte-lt128.false c.if-bits-le7.true

pub returns-in_err-high-clause-value : goal.returns-in_err-high-clause-value
returns-in_err-high-clause-value t c =
    let none = c.in_err-high.ensures.value in
    rw (c.from_residual-in_err-high.ensures, found-more c.args.signed c.args.bits c.args.bytes.now c.args.at (omega arith) c.if-byte-lt128.false (omega arith), none) refl

pub overflow_mul-result : goal.overflow_mul-result
overflow_mul-result t c =
    let b = get_or c.args.bytes.now c.args.at 0 in
    let below : b - 128 + 128 * c.in_ok-high.high < 2 ^ c.args.bits = more_bits c.args.bits c.in_ok-high.high b (omega arith) c.in_ok-high.ensures.bound (omega (arith, c.type_inv.bytes c.args.at)) c.if-byte-lt128.false in
    omega (arith, below_word c.args.bits _ c.requires.most below)

pub overflow_add-result-2 : goal.overflow_add-result-2
overflow_add-result-2 t c =
    let b = get_or c.args.bytes.now c.args.at 0 in
    let below : b - 128 + 128 * c.in_ok-high.high < 2 ^ c.args.bits = more_bits c.args.bits c.in_ok-high.high b (omega arith) c.in_ok-high.ensures.bound (omega (arith, c.type_inv.bytes c.args.at)) c.if-byte-lt128.false in
    omega (arith, below_word c.args.bits _ c.requires.most below)

pub returns-clause-value : goal.returns-clause-value
returns-clause-value t c =
    let some = c.in_ok-high.ensures.value in
    (rw (found-more c.args.signed c.args.bits c.args.bytes.now c.args.at (omega arith) c.if-byte-lt128.false (omega arith), some.0, c.from.ensures) refl, some.1)

pub returns-clause-bound : goal.returns-clause-bound
returns-clause-bound t c =
    let b = get_or c.args.bytes.now c.args.at 0 in
    let below : b - 128 + 128 * c.in_ok-high.high < 2 ^ c.args.bits = more_bits c.args.bits c.in_ok-high.high b (omega arith) c.in_ok-high.ensures.bound (omega (arith, c.type_inv.bytes c.args.at)) c.if-byte-lt128.false in
    omega (arith, below)
