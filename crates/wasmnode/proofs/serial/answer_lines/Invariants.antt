-- The lines so far were answered: so was the genesis with the entries that they say.
use Rattle.std.proofs.Common.{◌-◌, ◌≤◌, ℕ, List, [], Option}
use Rattle.line_protocol.specs.Lines.{max_input}
use Rattle.line_protocol.specs.Progress.{number, size, KnowsEnd}
use Rattle.wasmnode.specs.Playing.{IsCounted, Goes}
use Rattle.wasmnode.specs.Reading.{Opening, Entry}
use Rattle.wasmnode.specs.Standing.{IsChain}
use Rattle.wasmnode.proofs.serial.answer_lines.Given as goal

abbrev pub invariant-loop-line : goal.invariant-loop-line
invariant-loop-line g l =
    record {
      end : KnowsEnd l.lines (g.S.Source.left l.source);
      counted : IsCounted l.lines;
      low : l.chain.height ≤ number l.lines;
      stands : IsChain l.chain;
      goes : (keep : ℕ) (input written : Option (List ℕ)) (o : Opening)
          → Goes keep l.fn.chain l.fn.lines input (g.S.Source.left l.fn.source) written (g.K.Sink.written l.fn.sink) o []
          → (entries : List Entry) × Goes keep l.chain l.lines input (g.S.Source.left l.source) written (g.K.Sink.written l.sink) o entries;
      reads : g.S.Source.faults l.fn.source ≤ g.S.Source.faults l.source;
      writes : g.K.Sink.faults l.fn.sink ≤ g.K.Sink.faults l.sink;
    }

abbrev pub decreases-loop-line : goal.decreases-loop-line
decreases-loop-line g l = max_input - size l.lines
