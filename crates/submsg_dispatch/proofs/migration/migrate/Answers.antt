use Rattle.std.proofs.Common.{List, ℕ, Ok, Err}
use Rattle.std.specs.Global.{Vec}
use Rattle.chain_records.specs.State.{State}
use Rattle.contract_admin.specs.Administration.{migrate_refusal}
use Rattle.submsg_dispatch.specs.Parts.{◌>>=◌}
use Rattle.submsg_dispatch.specs.Messages.{address_in}
use Rattle.submsg_dispatch.specs.Calling.{refused_if}
use Rattle.submsg_dispatch.specs.Stages.{migrate_told}
use Rattle.submsg_dispatch.specs.Under.{bytes_view}
use Rattle.submsg_dispatch.proofs.Chaining.{address_gives, gives_on, passes_so, then_on, stop_on, then_gives}
use Rattle.submsg_dispatch.proofs.migration.migrate.Goals as goal

pub returns-in_err-addr-clause-leads : goal.returns-in_err-addr-clause-leads
returns-in_err-addr-clause-leads g c =
    let prefix = c.args.prefix.now in
    let sender = c.args.sender.now in
    let id : ℕ = c.args.code_id in
    let told = λ (addr : List ℕ) (u : Unit {0}). migrate_told c.args.costs.now c.args.index prefix sender addr id c.args.msg.now in
    let next = λ (addr : List ℕ). refused_if prefix addr (λ (s : State). migrate_refusal s sender addr id) >>= told addr in
    let stop = c.in_err-addr.field-0.0 in
    passes_so c.from_residual.result stop c.from_residual.ensures.1
    (stop_on stop (address_in c.args.contract.now) next (gives_on {X = Vec ℕ} (address_in c.args.contract.now) bytes_view (Err stop) (address_gives prefix (Err stop) c.args.contract.now c.in_err-addr.ensures.found)))

pub returns-in_err-may_migrate-clause-leads : goal.returns-in_err-may_migrate-clause-leads
returns-in_err-may_migrate-clause-leads g c =
    let prefix = c.args.prefix.now in
    let sender = c.args.sender.now in
    let id : ℕ = c.args.code_id in
    let told = λ (addr : List ℕ) (u : Unit {0}). migrate_told c.args.costs.now c.args.index prefix sender addr id c.args.msg.now in
    let next = λ (addr : List ℕ). refused_if prefix addr (λ (s : State). migrate_refusal s sender addr id) >>= told addr in
    let addr = c.in_ok-addr.addr in
    let at : List ℕ = addr.items in
    let stop = c.in_err-may_migrate.field-0.0 in
    let does = rw c.deref.ensures.value at (c.in_err-may_migrate.ensures (g.M.Modules.tally c.args.modules.now) c.args.meter.now.left) in
    passes_so c.from_residual-in_err-may_migrate.result stop c.from_residual-in_err-may_migrate.ensures.1
    (then_gives (address_in c.args.contract.now) next bytes_view addr (address_gives prefix (Ok addr) c.args.contract.now c.in_ok-addr.ensures.found)
    (stop_on stop (refused_if prefix at (λ (s : State). migrate_refusal s sender at id)) (told at) does))

pub returns-clause-leads : goal.returns-clause-leads
returns-clause-leads g c =
    let prefix = c.args.prefix.now in
    let sender = c.args.sender.now in
    let id : ℕ = c.args.code_id in
    let told = λ (addr : List ℕ) (u : Unit {0}). migrate_told c.args.costs.now c.args.index prefix sender addr id c.args.msg.now in
    let next = λ (addr : List ℕ). refused_if prefix addr (λ (s : State). migrate_refusal s sender addr id) >>= told addr in
    let addr = c.in_ok-addr.addr in
    let at : List ℕ = addr.items in
    let does = rw c.deref.ensures.value at (c.in_ok-may_migrate.ensures (g.M.Modules.tally c.args.modules.now) c.args.meter.now.left) in
    then_gives (address_in c.args.contract.now) next bytes_view addr (address_gives prefix (Ok addr) c.args.contract.now c.in_ok-addr.ensures.found)
    (then_on c.fetches_join.ensures tt (refused_if prefix at (λ (s : State). migrate_refusal s sender at id)) (told at) does c.migrate_told.ensures.leads)
