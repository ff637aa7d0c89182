use Rattle.std.proofs.Common.{true≢false, refl, sym}
use Rattle.kv_layers.proofs.Keys.{crossed_holds_none}
use Rattle.kv_layers.proofs.Ranges.{is_forward, IsNext-first, IsNext-last}
use Rattle.kv_layers.proofs.sorted.next_entry.Goals as goal

pub returns-then-are_crossed : goal.returns-then-are_crossed
returns-then-are_crossed g c = λ key w. absurd (crossed_holds_none _ _ key (c.if-are_crossed.ensures.0 refl) w)

pub range-entries-requires : goal.range-entries-requires
range-entries-requires g c = rw (c.start.ensures, c.end.ensures) (is_forward _ _ (λ h. true≢false (sym (c.if-are_crossed.ensures.1 h))))

pub returns-in-Ascending : goal.returns-in-Ascending
returns-in-Ascending g c =
    let range = rw (c.start.ensures, c.end.ensures) at (c.range-entries.ensures.in_range tt) in
    rw c.in-Ascending.is (IsNext-first c.args.bounds.now.lo c.args.bounds.now.hi c.args.map.now _ _ _ range c.next.ensures.steps)

pub returns-in-Descending : goal.returns-in-Descending
returns-in-Descending g c =
    let range = rw (c.start.ensures, c.end.ensures) at (c.range-entries.ensures.in_range tt) in
    rw c.in-Descending.is (IsNext-last c.args.bounds.now.lo c.args.bounds.now.hi c.args.map.now _ _ _ range c.next_back.ensures.steps)
