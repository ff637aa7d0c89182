-- The lines so far were empty: what those to come say is what all say.
use Rattle.std.proofs.Common.{◌≡◌, ◌+◌, ◌-◌, ◌≤◌}
use Rattle.line_protocol.specs.Lines.{max_input}
use Rattle.line_protocol.specs.Progress.{number, size, KnowsEnd}
use Rattle.wasmnode.specs.Playing.{IsCounted, Passes}
use Rattle.wasmnode.specs.Reading.{reading_from}
use Rattle.wasmnode.proofs.serial.open_chain.Given as goal

abbrev pub invariant-loop-line : goal.invariant-loop-line
invariant-loop-line g l =
    record {
      end : KnowsEnd l.lines (g.S.Source.left l.source);
      counted : IsCounted l.lines;
      numbered : l.number ≡ number l.lines + 1;
      passes : Passes reading_from (λ r. r) (g.S.Source.left l.fn.source) (g.S.Source.left l.source) l.lines;
      faults : g.S.Source.faults l.fn.source ≤ g.S.Source.faults l.source;
    }

abbrev pub decreases-loop-line : goal.decreases-loop-line
decreases-loop-line g l = max_input - size l.lines
