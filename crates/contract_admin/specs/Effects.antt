-- What the calls that change contracts do to a state with lawful contracts.
use Rattle.std.specs.Prelude.{ℕ, ◌≡◌, List, Option, None}
use Rattle.chain_records.specs.Records.{PlainContract}
use Rattle.chain_records.specs.State.{State}
use Rattle.state_records.specs.Records.{with_contract}
use Rattle.contract_admin.specs.Administration.{create_refusal, change_refusal, migrate_refusal, instance_taken, with_admin, with_code_id}
use Rattle.contract_admin.specs.Lawful.{HasLawfulContracts}

-- there is a contract more, and nothing else is changed
pub record IsCreated (s : State) (addr : List ℕ) (c : PlainContract) (t : State) : Type 0 where
  pub taken : create_refusal s addr c ≡ None
  pub state : t ≡ with_contract s addr c
  pub lawful : HasLawfulContracts t

-- an instance's number is given, and nothing else is changed
pub record IsInstanceTaken (s : State) (id : ℕ) (t : State) : Type 0 where
  pub next : id ≡ s.counters.next_instance
  pub state : t ≡ instance_taken s
  pub lawful : HasLawfulContracts t

-- the contract has another admin or none, and nothing else is changed
pub record IsAdminSet (s : State) (sender addr : List ℕ) (admin : Option (List ℕ)) (t : State) : Type 0 where
  pub taken : change_refusal s sender addr ≡ None
  pub state : t ≡ with_admin s addr admin
  pub lawful : HasLawfulContracts t

-- the contract has another code, and nothing else is changed
pub record IsCodeSet (s : State) (sender addr : List ℕ) (id : ℕ) (t : State) : Type 0 where
  pub taken : migrate_refusal s sender addr id ≡ None
  pub state : t ≡ with_code_id s addr id
  pub lawful : HasLawfulContracts t
