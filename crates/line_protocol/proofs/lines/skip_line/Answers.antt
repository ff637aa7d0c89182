use Rattle.std.proofs.Common.{refl, sym, arith}
use Rattle.line_protocol.proofs.Skips.{measured_rest, measured_over, measured_fed, passed_rest, passed_over, passed_fed, skipped_on}
use Rattle.line_protocol.proofs.lines.skip_line.Goals as goal

pub returns-then-taken-eq0-clause-size : goal.returns-then-taken-eq0-clause-size
returns-then-taken-eq0-clause-size g c =
    let read = c.in-Ok.ensures.bytes in
    measured_rest _ _ _ c.args.before c.args.len c.loop-size.size c.requires.some c.loop-size.invariant.skipped
    (rw c.if-taken-eq0.true at read.0) (read.1 c.if-taken-eq0.true (omega arith))

pub returns-then-taken-eq0-clause-passed : goal.returns-then-taken-eq0-clause-passed
returns-then-taken-eq0-clause-passed g c =
    let read = c.in-Ok.ensures.bytes in
    passed_rest _ _ _ c.args.before c.args.len c.loop-size.size c.requires.some c.loop-size.invariant.skipped (rw c.if-taken-eq0.true at read.0)

pub returns-in-Some-clause-size : goal.returns-in-Some-clause-size
returns-in-Some-clause-size g c =
    measured_fed _ _ _ c.args.before c.args.len c.loop-size.size c.in-Some.at _ _ c.requires.some c.loop-size.invariant.skipped
    c.in-Ok.ensures.bytes.0 refl c.in-Some.ensures.0 c.in-Some.ensures.1

pub returns-in-Some-clause-passed : goal.returns-in-Some-clause-passed
returns-in-Some-clause-passed g c =
    passed_fed _ _ _ c.args.before c.args.len c.loop-size.size c.in-Some.at _ _ c.requires.some c.loop-size.invariant.skipped
    c.in-Ok.ensures.bytes.0 refl c.in-Some.ensures.0 c.in-Some.ensures.1

pub loop-size-preserved : goal.loop-size-preserved
loop-size-preserved g c =
    let moved = skipped_on _ _ _ c.args.len c.loop-size.size _ _ c.loop-size.invariant.skipped c.in-Ok.ensures.bytes.0 refl c.in_default-memchr.ensures in
    record {
      skipped = rw (sym c.in-Ok.ensures.bound.1) at moved;
      counted = omega (arith, c.loop-size.invariant.counted, c.take.ensures.cause.0);
    }

pub returns-clause-size : goal.returns-clause-size
returns-clause-size g c = measured_over _ _ c.args.before c.args.len c.loop-size.size c.requires.some c.loop-size.invariant.skipped (omega (arith, c.loop-size-test.false))

pub returns-clause-passed : goal.returns-clause-passed
returns-clause-passed g c = passed_over _ _ c.args.before c.args.len c.loop-size.size c.requires.some c.loop-size.invariant.skipped (omega (arith, c.loop-size-test.false))
