use Rattle.std.proofs.Common.{List, ℕ, Option, None, Some, Result, Ok, Err, sym, subst}
use Rattle.chain_records.specs.State.{State}
use Rattle.contract_admin.specs.Administration.{migrate_refusal}
use Rattle.contract_admin.specs.Administration as contracts
use Rattle.submsg_dispatch.specs.declared.stop.HandleStop.{HandleStop}
use Rattle.submsg_dispatch.specs.Failures.{no_such_code}
use Rattle.submsg_dispatch.specs.Calling.{refused_if}
use Rattle.submsg_dispatch.specs.Stages.{nothing_view}
use Rattle.submsg_dispatch.specs.Under.{LeadsOn}
use Rattle.submsg_dispatch.proofs.Leading.{fails_from}
use Rattle.submsg_dispatch.proofs.Making.{refused_seen, refused_for, refused_stops, migrate_stop, may_be_migrated, without_code}
use Rattle.submsg_dispatch.proofs.migration.may_migrate.Goals.{in-Some, in-None}
use Rattle.submsg_dispatch.proofs.migration.may_migrate.Goals as goal

pub returns-in-Err : goal.returns-in-Err
returns-in-Err g c = λ tally left.
    let sender = c.args.sender.now in
    let addr : List ℕ = c.args.addr.now in
    let id : ℕ = c.args.code_id in
    refused_stops addr (λ (s : State). migrate_refusal s sender addr id) c.in-Err.stop c.contract_stop.result (λ map s stands spelled. migrate_stop s sender addr id c.in-Err.stop (c.in-Err.ensures.stop map s stands spelled)) c.contract_stop.ensures

pub returns : goal.returns
returns g c = λ tally left.
    let sender = c.args.sender.now in
    let addr : List ℕ = c.args.addr.now in
    let id : ℕ = c.args.code_id in
    let refusal = λ (s : State). migrate_refusal s sender addr id in
    let layers = c.args.layers.now in
    let gives = λ (r : Result (Unit {0}) HandleStop). LeadsOn c.args.prefix.now g.B.Base.stands_for layers layers tally tally left left (refused_if c.args.prefix.now addr refusal) nothing_view r in
    elim c.match-branch-2.branch [
      | in-Some w ↦
          let has = rw w.in-Some.is at c.in_ok-info.ensures in
          subst gives (sym w.result-is) (refused_seen addr refusal (λ map s stands spelled. may_be_migrated s sender addr id (λ k. k.info) _ (c.in_default.ensures.ok map s stands spelled) (has map s stands spelled)))
      | in-None w ↦
          let none = rw w.in-None.is at c.in_ok-info.ensures in
          subst gives (sym w.result-is) (refused_for addr refusal w.stop_of.result (contracts.no_such_code id) (λ map s stands spelled. without_code s sender addr id (λ k. k.info) (c.in_default.ensures.ok map s stands spelled) (none map s stands spelled))
          (fails_from w.stop_of.result w.no_such_code.result (no_such_code id) w.stop_of.ensures w.no_such_code.ensures))
    ]
