-- The bytes taken so far have no line feed, and were counted.
use Rattle.std.proofs.Common.{◌+◌, ◌-◌, ◌≤◌}
use Rattle.line_protocol.specs.Gathering.{IsSkipped}
use Rattle.line_protocol.specs.Lines.{max_input}
use Rattle.line_protocol.proofs.lines.skip_line.Given as goal

abbrev pub invariant-loop-size : goal.invariant-loop-size
invariant-loop-size g l = record {
  skipped : IsSkipped (g.S.Source.left l.fn.source) (g.S.Source.left l.source) l.len l.size;
  counted : g.S.Source.faults l.fn.source ≤ g.S.Source.faults l.source;
}

abbrev pub decreases-loop-size : goal.decreases-loop-size
decreases-loop-size g l = max_input + 1 - (l.before + l.size)
