use Rattle.std.proofs.Common.{map, string_bytes, subst, IfSome, List, ℕ, Option}
use Rattle.std.specs.Io.KnownBytes.{IsAtEnd}
use Rattle.line_protocol.specs.Lines.{StopsAt}
use Rattle.wasmnode.proofs.Checked.{waiting_fresh, no_line, first_is_long, settled_so}
use Rattle.wasmnode.proofs.checking.answer_first.Goals as goal

pub returns-in-Ok-None-clause-answer : goal.returns-in-Ok-None-clause-answer
returns-in-Ok-None-clause-answer g c =
    let caps = map string_bytes c.args.caps.now in
    let left = g.S.Source.left c.args.source.now in
    let end = rw c.in-Ok-None.field-0-is at c.in-Ok-None.ensures.none in
    let ended = subst IsAtEnd (waiting_fresh c.in_ok-lines.lines left c.in_ok-lines.ensures.fresh.0) end in
    settled_so c.judge_line-in-Ok-None.result c.settled-in-Ok-None.result c.settled-in-Ok-None.ensures.ok c.judge_line-in-Ok-None.ensures (λ a i. no_line caps left a ended i)

pub returns-in-Err-Bad-clause-answer : goal.returns-in-Err-Bad-clause-answer
returns-in-Err-Bad-clause-answer g c =
    let caps = map string_bytes c.args.caps.now in
    let left = g.S.Source.left c.args.source.now in
    let kind = c.in-Err-Bad.field-0-1 in
    let bad = rw c.in-Err-Bad.field-0-is at c.in-Err-Bad.ensures.bad in
    let large = rw c.in_ok-lines.ensures.none.1 at bad.2 in
    let stops = subst (λ (w : Option (List ℕ)). IfSome w (λ bytes. StopsAt bytes 0 kind)) (waiting_fresh c.in_ok-lines.lines left c.in_ok-lines.ensures.fresh.0) large in
    settled_so c.refused.result c.settled-in-Err-Bad.result c.settled-in-Err-Bad.ensures.ok c.refused.ensures (λ a i. first_is_long caps left kind a stops i)
