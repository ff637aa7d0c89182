-- What follows from the definition of lawful contracts.
use Rattle.std.specs.Prelude.{ℕ, ◌≡◌, Some}
use Rattle.std.specs.FinMap.{get}
use Rattle.chain_records.specs.State.{Code, State}
use Rattle.chain_records.specs.Changes.{with_code}
use Rattle.contract_admin.specs.Lawful.{HasLawfulContracts}

-- with a code more, lawful contracts stay lawful
abbrev pub StayLawfulWithCode : Type 0
StayLawfulWithCode = (s : State) (code : Code) → HasLawfulContracts s → HasLawfulContracts (with_code s code)

-- and where each id that had a code has one, and contracts and storage are the same
abbrev pub StayLawful : Type 0
StayLawful =
    (s t : State) → ((id : ℕ) (code : Code) → get s.codes id ≡ Some code → (other : Code) × (get t.codes id ≡ Some other))
    → t.contracts ≡ s.contracts → t.storage ≡ s.storage → HasLawfulContracts s → HasLawfulContracts t
