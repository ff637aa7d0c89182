use Rattle.std.proofs.Common.{◌+◌, ◌∙◌, inl, ap, arith}
use Rattle.line_protocol.specs.Progress.{kept, number, size}
use Rattle.line_protocol.proofs.Handing.{line_fed, lines_rest, taken_size, bad_fed, stops_rest, bad_at, shown_fed, shows_rest, shown_drawn, TakesUnfed-drawn, fed_size, ended_rest, nothing_kept, spent_rest, err_is}
use Rattle.line_protocol.proofs.lines.Lines.next.Goals as goal

pub returns-in_ok-settle-in-Fed-clause-line : goal.returns-in_ok-settle-in-Fed-clause-line
returns-in_ok-settle-in-Fed-clause-line g c =
    let found = rw c.in-Fed.is at c.in_ok-at.ensures.found in
    let line = c.in_ok-settle-in-Fed.ensures in
    line_fed _ _ _ _ _ _ c.in-Fed.at _ c.in_ok-at.ensures.draws found.0 found.1 found.2 line.text line.kept
    (omega (arith, line.size, c.in_ok-at.ensures.behind.size))

pub returns-in_err-settle-in-Fed-clause-bad : goal.returns-in_err-settle-in-Fed-clause-bad
returns-in_err-settle-in-Fed-clause-bad g c =
    let found = rw c.in-Fed.is at c.in_ok-at.ensures.found in
    let behind = c.in_ok-at.ensures.behind in
    let stop = c.in_err-settle-in-Fed.field-0.0 in
    err_is _ c.from_residual-in_err-settle-in-Fed.result stop c.from_residual-in_err-settle-in-Fed.ensures.1
    (bad_at _ _ behind.size (ap (λ n. n + 1) behind.number)
    (bad_fed _ _ _ _ (size c.gather.new.self) c.in-Fed.at (number c.gather.new.self + 1) stop c.in_ok-at.ensures.draws found.0 found.1 found.2 c.in_err-settle-in-Fed.ensures.err))

pub returns-in-Rest-clause-line : goal.returns-in-Rest-clause-line
returns-in-Rest-clause-line g c =
    let found = rw c.in-Rest.is at c.in_ok-at.ensures.found in
    let line = c.last_line.ensures in
    lines_rest c.last_line.result _ _ _ (kept c.gather.new.self) _ _ c.in_ok-at.ensures.draws (c.in_ok-at.ensures.end found.0) found.1 line.some line.text line.kept
    (taken_size c.last_line.result _ _ _ _ c.in_ok-at.ensures.behind.size line.size)

pub returns-in-Rest-clause-bad : goal.returns-in-Rest-clause-bad
returns-in-Rest-clause-bad g c =
    let found = rw c.in-Rest.is at c.in_ok-at.ensures.found in
    let behind = c.in_ok-at.ensures.behind in
    rw (← behind.size, ← behind.number)
    (stops_rest c.last_line.result _ _ _ (kept c.gather.new.self) (size c.gather.new.self) (number c.gather.new.self + 1) c.in_ok-at.ensures.draws (c.in_ok-at.ensures.end found.0) found.1
    c.last_line.ensures.refused c.last_line.ensures.err)

pub returns-in-Over-clause-unfed : goal.returns-in-Over-clause-unfed
returns-in-Over-clause-unfed g c = λ is. TakesUnfed-drawn _ _ _ _ _ c.in_ok-at.ensures.draws (c.overlong.ensures.unfed cc)

pub returns-in_ok-settle-in-Fed-clause-ended : goal.returns-in_ok-settle-in-Fed-clause-ended
returns-in_ok-settle-in-Fed-clause-ended g c =
    let found = rw c.in-Fed.is at c.in_ok-at.ensures.found in
    let line = c.in_ok-settle-in-Fed.ensures in
    inl (fed_size _ _ c.in-Fed.at _ found.0 line.text (omega (arith, line.size, c.in_ok-at.ensures.behind.size)))

pub returns-in-Rest-clause-ended : goal.returns-in-Rest-clause-ended
returns-in-Rest-clause-ended g c =
    let found = rw c.in-Rest.is at c.in_ok-at.ensures.found in
    let line = c.last_line.ensures in
    ended_rest c.last_line.result c.last_line.new.self (kept c.gather.new.self) _ (line.ended ∙ found.0) line.text line.kept
    (taken_size c.last_line.result _ _ _ _ c.in_ok-at.ensures.behind.size line.size)

pub returns-in-Rest-clause-nothing : goal.returns-in-Rest-clause-nothing
returns-in-Rest-clause-nothing g c = nothing_kept c.last_line.result _ _ _ (kept c.gather.new.self) c.in_ok-at.ensures.draws c.last_line.ensures.none

pub returns-in_err-settle-in-Fed-clause-known : goal.returns-in_err-settle-in-Fed-clause-known
returns-in_err-settle-in-Fed-clause-known g c =
    let found = rw c.in-Fed.is at c.in_ok-at.ensures.found in
    let stop = c.in_err-settle-in-Fed.field-0.0 in
    err_is _ c.from_residual-in_err-settle-in-Fed.result stop c.from_residual-in_err-settle-in-Fed.ensures.1
    (rw (← c.in_ok-at.ensures.behind.size)
    (shown_fed _ _ _ _ (size c.gather.new.self) c.in-Fed.at (number c.gather.new.self + 1) stop c.in_ok-at.ensures.draws found.0 found.1 found.2 c.in_err-settle-in-Fed.ensures.err))

pub returns-in-Rest-clause-known : goal.returns-in-Rest-clause-known
returns-in-Rest-clause-known g c =
    let found = rw c.in-Rest.is at c.in_ok-at.ensures.found in
    rw (← c.in_ok-at.ensures.behind.size)
    (shows_rest c.last_line.result _ _ _ (kept c.gather.new.self) (size c.gather.new.self) (number c.gather.new.self + 1) c.in_ok-at.ensures.draws found.1
    c.last_line.ensures.refused c.last_line.ensures.err)

pub returns-in-Over-clause-known : goal.returns-in-Over-clause-known
returns-in-Over-clause-known g c =
    rw (← c.in_ok-at.ensures.behind.size)
    (shown_drawn _ _ _ _ (kept c.gather.new.self) (size c.gather.new.self) c.overlong.result c.in_ok-at.ensures.draws c.overlong.ensures.known)

pub returns-in-Rest-clause-spent : goal.returns-in-Rest-clause-spent
returns-in-Rest-clause-spent g c = spent_rest c.last_line.result _ _ _ (kept c.gather.new.self) c.in_ok-at.ensures.draws c.last_line.ensures.none
