-- Where the end was read, the source has nothing left.
use Rattle.line_protocol.specs.Progress.{KnowsEnd}
use Rattle.line_tests.proofs.lines.expect_lines.Given as goal

abbrev pub invariant-loop-place : goal.invariant-loop-place
invariant-loop-place g l = KnowsEnd l.lines (g.S.Source.left l.source)
