use Rattle.host_imports.proofs.Asking.{no_bound, bound_read, bound_unread}
use Rattle.host_imports.proofs.scans.bound.Goals as goal

pub returns-then-pointer-eq0 : goal.returns-then-pointer-eq0
returns-then-pointer-eq0 c = λ left. no_bound c.args.pointer c.if-pointer-eq0.true

pub returns-in-Ok : goal.returns-in-Ok
returns-in-Ok c = λ left. bound_read c.args.pointer c.in-Ok.bytes c.if-pointer-eq0.false (c.in-Ok.ensures.moves left)

pub returns-in-Err : goal.returns-in-Err
returns-in-Err c = λ left. bound_unread c.args.pointer c.in-Err.stop c.if-pointer-eq0.false (c.in-Err.ensures.moves left)
