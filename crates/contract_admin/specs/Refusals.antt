-- What the stops of these calls tell.
use Rattle.std.specs.Prelude.{◌≡◌, Option, Some}
use Rattle.kv_layers.specs.declared.layers.Layers.{Layers}
use Rattle.kv_layers.specs.Layers.{Turns}
use Rattle.chain_records.specs.State.{Bytes}
use Rattle.contract_admin.specs.declared.stop.AdminStop.{AdminStop}
use Rattle.contract_admin.specs.declared.stop.AdminStop.TheVariants.{NoSuchContract, NotAdmin, NoSuchCode, MayNotInstantiate, AddressTaken, LabelBad, NoMemory}
use Rattle.contract_admin.specs.Administration.{Refusal, no_such_contract, not_admin, no_such_code, may_not_instantiate, address_taken, label_bad}

-- of an answer, unless memory ran out
abbrev pub UnlessNoMemory : AdminStop → Type 0 → Type 0
UnlessNoMemory NoMemory P = Unit {0}
UnlessNoMemory stop P = P

-- the stop is that of a refusal; want of memory says nothing
abbrev pub IsStop : AdminStop → Option Refusal → Type 0
IsStop NoSuchContract refusal = refusal ≡ Some no_such_contract
IsStop NotAdmin refusal = refusal ≡ Some not_admin
IsStop (NoSuchCode id) refusal = refusal ≡ Some (no_such_code id)
IsStop MayNotInstantiate refusal = refusal ≡ Some may_not_instantiate
IsStop AddressTaken refusal = refusal ≡ Some address_taken
IsStop LabelBad refusal = refusal ≡ Some label_bad
IsStop NoMemory refusal = Unit {0}

-- nothing is changed, unless memory ran out
abbrev pub Leaves : {B : Type 0} → (B → Bytes → Type 0) → Layers B → Layers B → AdminStop → Type 0
Leaves S old new stop = UnlessNoMemory stop (Turns S old new (λ maps. maps))
