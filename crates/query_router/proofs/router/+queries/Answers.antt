use Rattle.std.proofs.Common.{◌-◌, ◌+◌, ◌<◌, Ok, refl, ap, subst, ◌∙◌, arith}
use Rattle.chain_records.specs.Keys.{IsAddress}
use Rattle.gas_store.specs.Views.{addr_of, is_read_only}
use Rattle.query_router.specs.Calls.{gathered_all, outset_of, queries}
use Rattle.query_router.proofs.Deep.{query_begun, begun_ready, begun_deep, known_gives, unpaid_gives, answered_gives, unanswered_gives}
use Rattle.query_router.proofs.Going.{ends_so}
use Rattle.query_router.proofs.Nesting.{no_query, turns_if_twice, underway, underway_lawful, scope_of, set_for, falls_now, gone_unanswered, gone_on_so, ends_as, ends_gone}
use Rattle.query_router.proofs.Telling.{none_fetched}
use Rattle.query_router.proofs.router.+queries.Goals as goal

-- ---- query

pub query-returns-in-Ok-Known-clause-answer : goal.query-returns-in-Ok-Known-clause-answer
query-returns-in-Ok-Known-clause-answer g t c = λ m s stands spelled lawful.
    known_gives c.args.costs.now c.args.depth s c.args.request.now c.args.meter.now.left c.begin_query.result c.in-Ok-Known.answer c.begin_query.new.meter.left (g.M.Modules.tally c.args.modules.now) (g.M.Modules.tally c.begin_query.new.modules)
    (c.in-Ok-Known.is ∙ ap Ok c.in-Ok-Known.field-0-is) (c.begin_query.ensures.begun m s stands spelled lawful)

pub query-returns-in-Err-clause-answer : goal.query-returns-in-Err-clause-answer
query-returns-in-Err-clause-answer g t c = λ m s stands spelled lawful.
    unpaid_gives c.args.costs.now c.args.depth s c.args.request.now c.args.meter.now.left c.begin_query.result c.in-Err.stop c.begin_query.new.meter.left (g.M.Modules.tally c.args.modules.now) (g.M.Modules.tally c.begin_query.new.modules)
    c.in-Err.is (c.begin_query.ensures.begun m s stands spelled lawful)

pub query-returns-in_ok-end_answer-in-Ok-clause-answer : goal.query-returns-in_ok-end_answer-in-Ok-clause-answer
query-returns-in_ok-end_answer-in-Ok-clause-answer g t c = λ m s stands spelled lawful.
    answered_gives c.args.costs.now c.args.depth s c.args.request.now c.args.meter.now.left g.B.Base.stands_for c.args.view.now c.finish.new.view c.fetches_join.ensures c.begin_query.result c.in-Ok-Call.call
    c.begin_query.new.meter.left c.finish.new.meter.left (g.M.Modules.tally c.args.modules.now) (g.M.Modules.tally c.begin_query.new.modules) (g.M.Modules.tally c.finish.new.modules)
    (c.in-Ok-Call.is ∙ ap Ok c.in-Ok-Call.field-0-is) (begun_ready c.begin_query.result c.in-Ok-Call.call c.begin_query.ensures.ready (c.in-Ok-Call.is ∙ ap Ok c.in-Ok-Call.field-0-is)).1 (c.begin_query.ensures.begun m s stands spelled lawful) c.finish.result m stands spelled lawful c.finish.ensures.ends c.in-Ok.end _ c.in-Ok.is c.in_ok-end_answer-in-Ok.ensures

pub query-returns-in-Err-finish-clause-answer : goal.query-returns-in-Err-finish-clause-answer
query-returns-in-Err-finish-clause-answer g t c = λ m s stands spelled lawful.
    unanswered_gives c.args.costs.now c.args.depth s c.args.request.now c.args.meter.now.left g.B.Base.stands_for c.args.view.now c.finish.new.view c.fetches_join.ensures c.begin_query.result c.in-Ok-Call.call
    c.begin_query.new.meter.left c.finish.new.meter.left (g.M.Modules.tally c.args.modules.now) (g.M.Modules.tally c.begin_query.new.modules) (g.M.Modules.tally c.finish.new.modules)
    (c.in-Ok-Call.is ∙ ap Ok c.in-Ok-Call.field-0-is) (begun_ready c.begin_query.result c.in-Ok-Call.call c.begin_query.ensures.ready (c.in-Ok-Call.is ∙ ap Ok c.in-Ok-Call.field-0-is)).1 (c.begin_query.ensures.begun m s stands spelled lawful) c.finish.result m stands spelled lawful c.finish.ensures.ends c.in-Err-finish.stop c.in-Err-finish.is

pub query-finish-requires : goal.query-finish-requires
query-finish-requires g t c = λ κs out.
    let is = c.in-Ok-Call.is ∙ ap Ok c.in-Ok-Call.field-0-is in
    let ready = begun_ready c.begin_query.result c.in-Ok-Call.call c.begin_query.ensures.ready is in (
      omega (arith, c.requires.depth),
      (
        out.0,
        (
          out.1,
          (
            begun_deep (c.args.depth < 10) c.begin_query.result c.in-Ok-Call.call c.begin_query.ensures.deep is,
            (
              c.requires.costs,
              (
                query_begun g.B.Base.stands_for c.args.view.now c.args.costs.now c.args.depth c.args.request.now c.args.meter.now.left c.begin_query.new.meter.left (g.M.Modules.tally c.args.modules.now) (g.M.Modules.tally c.begin_query.new.modules)
                    c.begin_query.result c.in-Ok-Call.call is ready.1 c.requires.lawful c.begin_query.ensures.begun,
                ready.0,
              ),
            ),
          ),
        ),
      ),
    )

pub query-returns-in_ok-end_answer-in-Ok-clause-unchanged : goal.query-returns-in_ok-end_answer-in-Ok-clause-unchanged
query-returns-in_ok-end_answer-in-Ok-clause-unchanged g t c =
    c.finish.ensures.unchanged (begun_ready c.begin_query.result c.in-Ok-Call.call c.begin_query.ensures.ready (c.in-Ok-Call.is ∙ ap Ok c.in-Ok-Call.field-0-is)).1

pub query-returns-in-Err-finish-clause-unchanged : goal.query-returns-in-Err-finish-clause-unchanged
query-returns-in-Err-finish-clause-unchanged g t c =
    c.finish.ensures.unchanged (begun_ready c.begin_query.result c.in-Ok-Call.call c.begin_query.ensures.ready (c.in-Ok-Call.is ∙ ap Ok c.in-Ok-Call.field-0-is)).1

-- ---- go_on

pub go_on-returns-in-Err-clause-comes : goal.go_on-returns-in-Err-clause-comes
go_on-returns-in-Err-clause-comes g t c = λ maps s addr of o before called spelled lawful set h.
    gone_unanswered g.B.Base.stands_for maps s addr (subst IsAddress set.same_addr c.requires.kept.address) c.bytes_tell_keys.ensures c.storages_change_alone.ensures c.fetches_join.ensures spelled lawful
    c.args.costs.now (9 - c.args.depth) (10 - (c.args.depth + 1)) (omega arith) of o called before (g.M.Modules.tally c.args.modules.now) (g.M.Modules.tally c.query.new.modules)
    c.args.view.now c.query.new.view c.args.call.now set c.args.meter.now.left c.query.new.meter.left c.args.request c.deref.result.now c.deref.ensures.value c.query.ensures.unchanged h c.args.call.now c.in-Err.stop c.in-Err.ensures.answer

pub go_on-returns-clause-comes : goal.go_on-returns-clause-comes
go_on-returns-clause-comes g t c = λ maps s addr of o before called spelled lawful set h.
    gone_on_so g.B.Base.stands_for maps s addr (subst IsAddress set.same_addr c.requires.kept.address) c.bytes_tell_keys.ensures c.storages_change_alone.ensures c.fetches_join.ensures spelled lawful
    c.args.costs.now (9 - c.args.depth) (10 - (c.args.depth + 1)) (omega arith) of o called before (g.M.Modules.tally c.args.modules.now) (g.M.Modules.tally c.query.new.modules)
    c.args.view.now c.query.new.view c.args.call.now set c.args.meter.now.left c.query.new.meter.left c.args.request c.deref.result.now c.deref.ensures.value c.query.ensures.unchanged h
    c.in-Ok.answer c.deref-2.result.now c.answer.new.self (record { running = c.advance.new.self; store = c.advance.new.store; prefix = c.args.call.now.prefix }) c.advance.new.layers c.advance.new.meter.left _
    c.in-Ok.ensures.answer (c.deref-2.ensures.value ∙ c.in_ok-bytes.ensures) c.query.ensures.spends (falls_now _ _ c.advance.new.meter.left c.query.new.meter.left c.in_ok-advance.ensures.falls c.in_ok-answer.ensures.answered)
    c.deref-3.result.now c.deref-3.ensures (c.in_ok-answer.ensures.stands of o h.so_far c.query.new.meter.left h.comes.stands) c.in_ok-advance.ensures.step

pub go_on-query-requires : goal.go_on-query-requires
go_on-query-requires g t c = λ κs out. (
  omega (arith, c.requires.depth),
  (
    out.0,
    (
      out.1,
      (
        omega (arith, c.requires.depth),
        (c.requires.costs, underway_lawful g.B.Base.stands_for c.args.view.now c.args.call.now c.args.meter.now.left (g.M.Modules.tally c.args.modules.now) c.args.costs.now _ _ c.bytes_tell_keys.ensures c.storages_change_alone.ensures c.requires.kept c.requires.underway),
      ),
    ),
  ),
)

-- ---- finish

pub finish-loop-step-init : goal.finish-loop-step-init
finish-loop-step-init g t c = record {
  comes = λ maps s of stands spelled lawful begun.
      c.in_ok-step.ensures.comes maps s of (queries c.args.costs.now (9 - c.args.depth)) (g.M.Modules.tally c.args.modules.now) stands spelled begun (none_fetched (g.M.Modules.tally c.args.modules.now));
  waits = c.in_ok-step.ensures.waits;
  scope = c.begin.ensures.kept.0;
  prefix = c.begin.ensures.kept.1;
  gas = c.begin.ensures.gas;
  spends = c.begin.ensures.spends;
  unchanged = c.begin.ensures.unchanged;
  deep = c.begin.ensures.layers;
}

pub finish-go_on-requires : goal.finish-go_on-requires
finish-go_on-requires g t c = λ κs out. (
  omega (arith, c.requires.depth),
  (
    out.0,
    (
      out.1,
      (
        c.requires.depth,
        (
          c.requires.costs,
          (
            rw c.in-Query.is at c.loop-step.invariant.waits,
            (
              scope_of c.args.call c.loop-step.call c.requires.ready c.loop-step.invariant.scope c.loop-step.invariant.prefix,
              rw c.in-Query.is at (underway g.B.Base.stands_for c.args.view.now c.loop-step.view c.args.call c.loop-step.call c.args.meter.now.left c.loop-step.meter.left (g.M.Modules.tally c.args.modules.now) (g.M.Modules.tally c.loop-step.modules) c.args.costs.now (queries c.args.costs.now (9 - c.args.depth)) c.loop-step.step
                  c.requires.begun c.loop-step.invariant.scope c.loop-step.invariant.prefix c.loop-step.invariant.comes),
            ),
          ),
        ),
      ),
    ),
  ),
)

pub finish-loop-step-preserved : goal.finish-loop-step-preserved
finish-loop-step-preserved g t c = record {
  comes = λ maps s of stands spelled lawful begun.
      c.in-Ok.ensures.comes maps s (addr_of c.args.call.store) of (outset_of c.args.costs.now s (addr_of c.args.call.store) c.args.meter.now.left) (g.M.Modules.tally c.args.modules.now) (gathered_all (queries c.args.costs.now (9 - c.args.depth)) s (addr_of c.args.call.store) of (outset_of c.args.costs.now s (addr_of c.args.call.store) c.args.meter.now.left))
      spelled lawful (set_for s c.args.call c.loop-step.call c.args.costs.now of _ begun c.loop-step.invariant.scope c.loop-step.invariant.prefix refl refl)
      (rw c.in-Query.is at (c.loop-step.invariant.comes maps s of stands spelled lawful begun));
  waits = c.in-Ok.ensures.waits;
  scope = record { addr = c.go_on.ensures.kept.0.addr ∙ c.loop-step.invariant.scope.addr; read_only = c.go_on.ensures.kept.0.read_only ∙ c.loop-step.invariant.scope.read_only };
  prefix = c.go_on.ensures.kept.1 ∙ c.loop-step.invariant.prefix;
  gas = c.go_on.ensures.gas ∙ c.loop-step.invariant.gas;
  spends = let l = c.go_on.ensures.spends in let m = c.loop-step.invariant.spends in omega (arith, l, m);
  unchanged = turns_if_twice (is_read_only c.args.call.store) (is_read_only c.loop-step.call.store) c.loop-step.invariant.scope.read_only c.loop-step.invariant.unchanged c.go_on.ensures.unchanged;
  deep = c.go_on.ensures.layers ∙ c.loop-step.invariant.deep;
}

pub finish-returns-in-Err-clause-ends : goal.finish-returns-in-Err-clause-ends
finish-returns-in-Err-clause-ends g t c = λ maps s of stands spelled lawful begun.
    ends_gone g.B.Base.stands_for c.go_on.new.view maps s (addr_of c.args.call.store) c.go_on.new.call c.go_on.new.meter.left (g.M.Modules.tally c.args.modules.now) (g.M.Modules.tally c.go_on.new.modules) c.args.costs.now (9 - c.args.depth) of
    (outset_of c.args.costs.now s (addr_of c.args.call.store) c.args.meter.now.left) (gathered_all (queries c.args.costs.now (9 - c.args.depth)) s (addr_of c.args.call.store) of (outset_of c.args.costs.now s (addr_of c.args.call.store) c.args.meter.now.left)) c.in-Err.stop
    (c.in-Err.ensures.comes maps s (addr_of c.args.call.store) of (outset_of c.args.costs.now s (addr_of c.args.call.store) c.args.meter.now.left) (g.M.Modules.tally c.args.modules.now) (gathered_all (queries c.args.costs.now (9 - c.args.depth)) s (addr_of c.args.call.store) of (outset_of c.args.costs.now s (addr_of c.args.call.store) c.args.meter.now.left))
    spelled lawful (set_for s c.args.call c.loop-step.call c.args.costs.now of _ begun c.loop-step.invariant.scope c.loop-step.invariant.prefix refl refl)
    (rw c.in-Query.is at (c.loop-step.invariant.comes maps s of stands spelled lawful begun)))

pub finish-returns : goal.finish-returns
finish-returns g t c = record {
  ends = λ maps s of stands spelled lawful begun.
      ends_as g.B.Base.stands_for c.loop-step.view maps s (addr_of c.args.call.store) c.loop-step.meter.left (g.M.Modules.tally c.args.modules.now) (g.M.Modules.tally c.loop-step.modules) (gathered_all (queries c.args.costs.now (9 - c.args.depth)) s (addr_of c.args.call.store) of (outset_of c.args.costs.now s (addr_of c.args.call.store) c.args.meter.now.left))
      c.loop-step.step c.ended.result c.ended.ensures.ok c.ended.ensures.err
      (ends_so g.B.Base.stands_for maps s (addr_of c.args.call.store) c.requires.ready.address c.bytes_tell_keys.ensures c.storages_change_alone.ensures spelled lawful (queries c.args.costs.now (9 - c.args.depth)) of (outset_of c.args.costs.now s (addr_of c.args.call.store) c.args.meter.now.left) (gathered_all (queries c.args.costs.now (9 - c.args.depth)) s (addr_of c.args.call.store) of (outset_of c.args.costs.now s (addr_of c.args.call.store) c.args.meter.now.left)) (g.M.Modules.tally c.args.modules.now)
      c.loop-step.view c.loop-step.call c.loop-step.invariant.scope.addr c.loop-step.meter.left (g.M.Modules.tally c.loop-step.modules) c.loop-step.step (no_query c.loop-step.step c.in_default.not-Query) (c.loop-step.invariant.comes maps s of stands spelled lawful begun));
  gas = c.loop-step.invariant.gas;
  spends = c.loop-step.invariant.spends;
  unchanged = c.loop-step.invariant.unchanged;
  layers = c.loop-step.invariant.deep;
}
