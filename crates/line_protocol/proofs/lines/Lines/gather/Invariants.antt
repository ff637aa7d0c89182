-- The bytes taken so far stand behind those that were kept at first, and those that were seen have no line feed.
use Rattle.std.proofs.Common.{◌≡◌, ℕ, ◌<◌, slice_index, ◌+◌, ◌-◌, ◌≤◌, cond, length, true}
use Rattle.line_protocol.specs.Gathering.{IsUnfed, Draws}
use Rattle.line_protocol.specs.Lines.{max_line, line_feed}
use Rattle.line_protocol.specs.Progress.{kept, KnowsEnd, IsBehind}
use Rattle.line_protocol.proofs.lines.Lines.gather.Given as goal

abbrev pub invariant-loop-at : goal.invariant-loop-at
invariant-loop-at g l = record {
  behind : IsBehind l.fn.self l.self;
  draws : Draws (g.S.Source.left l.fn.source) (g.S.Source.left l.source) (kept l.fn.self) (kept l.self);
  within : l.seen ≤ length (kept l.self);
  unfed : IsUnfed (kept l.self) 0 l.seen;
  end : KnowsEnd l.self (g.S.Source.left l.source);
  stays : l.fn.self.ended ≡ true → l.self.ended ≡ true;
  unasked : l.fn.self.ended ≡ true → l.source ≡ l.fn.source;
  spared : (k : ℕ) → k < length (kept l.fn.self) → slice_index (kept l.fn.self) k ≡ line_feed → l.source ≡ l.fn.source;
  counted : g.S.Source.faults l.fn.source ≤ g.S.Source.faults l.source;
}

abbrev pub decreases-loop-at : goal.decreases-loop-at
decreases-loop-at g l = max_line + 1 - length (kept l.self) + cond l.self.ended 0 1
