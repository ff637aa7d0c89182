use Rattle.std.proofs.Common.{map, string_bytes}
use Rattle.wasmnode.proofs.Checked.{checks_judged, checks_unread}
use Rattle.wasmnode.proofs.checking.check_line.Goals as goal

pub returns-in-Ok-clause-judged : goal.returns-in-Ok-clause-judged
returns-in-Ok-clause-judged g c = λ is.
    let first = rw c.deref.ensures.value at c.in-Ok.ensures.answer in
    checks_judged (map string_bytes c.args.options.now.caps.items) (g.S.Source.left c.args.source.now) _ _ c.in-Ok.answer first (c.put_answer.ensures.judged is)

pub returns-in-Ok-clause-unread : goal.returns-in-Ok-clause-unread
returns-in-Ok-clause-unread g c = λ is.
    let first = rw c.deref.ensures.value at c.in-Ok.ensures.answer in
    checks_unread (map string_bytes c.args.options.now.caps.items) (g.S.Source.left c.args.source.now) _ _ c.in-Ok.answer first (c.put_answer.ensures.unread is)
