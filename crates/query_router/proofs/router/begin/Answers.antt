use Rattle.std.proofs.lemmas.Result.{IfOk-weaker}
use Rattle.std.proofs.Common.{[]}
use Rattle.query_router.proofs.Going.{begins_from, begins_so}
use Rattle.query_router.proofs.router.begin.Goals as goal

pub returns-clause-comes : goal.returns-clause-comes
returns-clause-comes g c = IfOk-weaker c.advance.result _ _ (λ step h maps s of ask tally stands spelled begun none.
    begins_so g.B.Base.stands_for maps s c.args.call.now c.requires.ready c.storages_are_typed.ensures c.args.view.now stands spelled of begun c.args.costs.now c.args.meter.now.left
    c.advance.new.layers (record { running = c.advance.new.self; store = c.advance.new.store; prefix = c.args.call.now.prefix }) c.advance.new.meter.left tally ask step none c.advance.ensures.spends
    (h maps of _ [] (begun.stands _) (rw (← c.deref.ensures) at (begins_from g.B.Base.stands_for maps s c.args.call.now c.requires.ready c.storages_are_typed.ensures c.args.view.now stands spelled of begun c.args.costs.now c.args.meter.now.left))))
    c.advance.ensures.step
