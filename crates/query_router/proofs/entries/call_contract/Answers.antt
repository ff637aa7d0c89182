use Rattle.std.proofs.Common.{refl}
use Rattle.std.specs.Option.{option_copied}
use Rattle.contract_call.specs.Calls.{arguments}
use Rattle.query_router.specs.Calls.{queries}
use Rattle.query_router.proofs.Entering.{call_at, entered, entered_on, called_ends, uncalled_ends}
use Rattle.query_router.proofs.entries.call_contract.Goals as goal

pub finish-requires-clause-begun : goal.finish-requires-clause-begun
finish-requires-clause-begun g c =
    let u = c.requires.lawful in
    let args = arguments c.args.env.now (option_copied c.args.info) c.args.msg.now in
    let h = rw c.in-Some.is at (c.in_ok-call.ensures.opened u.map u.state u.stands u.spelled u.holds.0) in
    let ready = rw c.in-Some.is at c.in_ok-call.ensures.ready in
    entered_on g.B.Base.stands_for c.args.layers.now c.args.code_id c.args.entry args (g.M.Modules.tally c.args.modules.now) (g.M.Modules.tally c.open_call.new.modules) c.in-Some.call c.args.prefix.now _ c.args.addr.now u h ready c.in_ok-own.ensures.ok

pub returns-in-Some-clause-ends : goal.returns-in-Some-clause-ends
returns-in-Some-clause-ends g c = λ maps s stands spelled lawful is.
    let args = arguments c.args.env.now (option_copied c.args.info) c.args.msg.now in
    let before = g.M.Modules.tally c.args.modules.now in
    let between = g.M.Modules.tally c.open_call.new.modules in
    let h = rw c.in-Some.is at (c.in_ok-call.ensures.opened maps.current s (maps, stands, refl) spelled lawful) in
    let ready = rw c.in-Some.is at c.in_ok-call.ensures.ready in
    called_ends g.B.Base.stands_for c.finish.new.view maps s (queries c.args.costs.now 9) c.args.costs.now c.args.code_id c.args.entry args c.args.meter.now.left c.finish.new.meter.left before between (g.M.Modules.tally c.finish.new.modules) c.in-Some.call _ c.args.addr.now c.finish.result h ready c.fetches_join.ensures
    (c.finish.ensures.ends maps s (call_at s c.args.code_id c.args.entry args before between c.in-Some.call h) stands spelled lawful (entered s c.args.code_id c.args.entry args before between c.in-Some.call c.args.prefix.now _ c.args.addr.now h ready c.in_ok-own.ensures.ok is))

pub returns-in-None-clause-ends : goal.returns-in-None-clause-ends
returns-in-None-clause-ends g c = λ maps s stands spelled lawful is.
    let args = arguments c.args.env.now (option_copied c.args.info) c.args.msg.now in
    let none = rw c.in-None.is at (c.in_ok-call.ensures.opened maps.current s (maps, stands, refl) spelled lawful) in
    uncalled_ends g.B.Base.stands_for c.args.layers.now maps s (queries c.args.costs.now 9) c.args.costs.now c.args.code_id c.args.entry args c.args.meter.now.left (g.M.Modules.tally c.args.modules.now) (g.M.Modules.tally c.open_call.new.modules) c.args.addr.now
    c.requires.address c.bytes_tell_keys.ensures c.storages_change_alone.ensures c.storages_are_typed.ensures stands spelled lawful none.0 none.1
