use Rattle.std.proofs.Common.{length, ◌∙◌, rules, arith}
use Rattle.line_protocol.specs.Progress.{kept}
use Rattle.line_protocol.proofs.Feeds.{Draws-trans, never_fed, unfed_drawn, unfed_join, unfed_len}
use Rattle.line_protocol.proofs.lines.Lines.gather.Goals as goal

pub loop-at-preserved : goal.loop-at-preserved
loop-at-preserved g c =
    let before = c.loop-at.invariant in
    let filled = c.in_ok-taken.ensures in
    let all = unfed_join (kept c.loop-at.self) c.loop-at.seen (length (kept c.loop-at.self)) before.unfed c.in_default.ensures in
    record {
      behind = record { number = filled.behind.number ∙ before.behind.number; size = filled.behind.size ∙ before.behind.size };
      draws = Draws-trans _ _ _ _ _ _ before.draws filled.draws;
      within = omega (arith, filled.len, c.kept_len-seen.ensures);
      unfed = unfed_len _ _ _ c.kept_len-seen.ensures (unfed_drawn _ _ _ _ filled.draws all);
      end = λ h. search rules;
      stays = λ h. filled.ended ∙ before.stays h;
      unasked = λ h. search rules;
      spared = λ k within fed. absurd (never_fed _ _ _ _ k before.draws all within fed);
      counted = omega (arith, filled.counted, before.counted);
    }
