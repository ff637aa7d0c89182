-- What is refused of a code that nobody may instantiate, of a contract without an admin, and of one without a label.
use Rattle.std.specs.Prelude.{◌≡◌, ℕ, List, [], ◌∷◌, None, Some, refl}
use Rattle.chain_records.specs.Records.{PlainContract}
use Rattle.chain_records.specs.State.{Code, State}
use Rattle.contract_admin.specs.Administration.{not_admin, may_not_instantiate, label_bad, instantiating_refusal, create_refusal, changing_refusal}

abbrev one : List ℕ
one = 0xAA ∷ []

-- its list is empty
abbrev closed : Code
closed = record { bytes = []; info = record { creator = one; checksum = []; allow = Some [] } }

nobody_may : instantiating_refusal (Some closed) 1 one ≡ Some may_not_instantiate
nobody_may = refl

-- its admin was cleared
abbrev cleared : PlainContract
cleared = record { code_id = 1; creator = one; admin = None; label = 0x61 ∷ [] }

nobody_changes : changing_refusal (Some cleared) one ≡ Some not_admin
nobody_changes = refl

-- whether its code is there or not
label_first : (s : State) → create_refusal s one (record cleared { label = [] }) ≡ Some label_bad
label_first s = refl
