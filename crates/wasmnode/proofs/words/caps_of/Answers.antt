use Rattle.std.proofs.Common.{map, string_bytes, arith}
use Rattle.wasmnode.proofs.Parts.{one_part, last_part}
use Rattle.wasmnode.proofs.words.caps_of.Goals as goal

pub loop-part-preserved : goal.loop-part-preserved
loop-part-preserved c =
    let first = c.in-Some.ensures.byte (omega arith) (λ w o f. f) in
    let old = map string_bytes c.loop-part.caps.items in (
      search,
      rw first.1 (one_part c.args.text.now c.loop-part.rest.now old (map string_bytes c.keep_part.new.caps.items) c.loop-part.invariant.1 first.2 (rw first.0 at c.in_ok-keep_part.ensures)),
    )

pub returns : goal.returns
returns c =
    last_part c.args.text.now c.loop-part.rest.now (map string_bytes c.loop-part.caps.items) (map string_bytes c.keep_part-2.new.caps.items) c.loop-part.invariant.1 (c.in_default.ensures.byte (omega arith) (λ w o f. f)) c.in_ok-keep_part-2.ensures
