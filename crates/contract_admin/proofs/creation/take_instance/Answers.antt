use Rattle.std.proofs.Common.{◌≡◌, ◌+◌, ◌%◌, ◌^◌, refl}
use Rattle.chain_records.specs.declared.record.Counters.{Counters}
use Rattle.chain_records.specs.State.{State}
use Rattle.state_records.specs.Records.{with_counters}
use Rattle.contract_admin.specs.Effects.{IsInstanceTaken}
use Rattle.contract_admin.specs.Lawful.{HasLawfulContracts}
use Rattle.contract_admin.proofs.Changed.{numbered}
use Rattle.contract_admin.proofs.Writing.{Becomes-written, Becomes-some}
use Rattle.contract_admin.proofs.creation.take_instance.Goals as goal

pub returns-clause-taken : goal.returns-clause-taken
returns-clause-taken g c =
    let given : Counters = c.in_ok-given.given in
    let next : Counters = record given { next_instance = (given.next_instance + 1) % 2 ^ 64 } in
    Becomes-written g.B.Base.stands_for c.args.layers.now c.set_counters.new.layers (λ s. with_counters s next) (λ (s : State). given ≡ s.counters) (λ (s t : State). IsInstanceTaken s given.next_instance t)
    (λ s lawful is. numbered s given next given.next_instance is refl refl lawful) c.in_ok-given.ensures c.in_ok-set_counters.ensures.ok

pub returns-clause-lawful : goal.returns-clause-lawful
returns-clause-lawful g c =
    Becomes-some g.B.Base.stands_for c.args.layers.now c.set_counters.new.layers (λ (s t : State). IsInstanceTaken s c.in_ok-given.given.next_instance t) HasLawfulContracts (λ s t so. so.lawful) (returns-clause-taken g c) c.requires
