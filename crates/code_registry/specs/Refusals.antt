-- What the stops of the registry tell.
use Rattle.std.specs.Prelude.{◌≡◌, Option, Some}
use Rattle.wasm_types.specs.Plain.{plain_refusal}
use Rattle.kv_layers.specs.declared.layers.Layers.{Layers}
use Rattle.kv_layers.specs.Layers.{Turns}
use Rattle.chain_records.specs.State.{Bytes}
use Rattle.code_registry.specs.declared.stop.CodeStop.{CodeStop}
use Rattle.code_registry.specs.declared.stop.CodeStop.TheVariants as stops
use Rattle.code_registry.specs.Codes.{Refusal, refused, not_authority, no_such_code, too_many_codes, too_many_pins}

-- the stop is that of a refusal; want of memory says nothing
abbrev pub IsStop : CodeStop → Option Refusal → Type 0
IsStop (stops.Refused r) refusal = refusal ≡ Some (refused (plain_refusal r))
IsStop stops.NotAuthority refusal = refusal ≡ Some not_authority
IsStop (stops.NoSuchCode id) refusal = refusal ≡ Some (no_such_code id)
IsStop stops.TooManyCodes refusal = refusal ≡ Some too_many_codes
IsStop stops.TooManyPins refusal = refusal ≡ Some too_many_pins
IsStop stops.NoMemory refusal = Unit {0}

-- of an answer, unless memory ran out
abbrev pub UnlessNoMemory : CodeStop → Type 0 → Type 0
UnlessNoMemory (stops.Refused r) P = P
UnlessNoMemory stops.NotAuthority P = P
UnlessNoMemory (stops.NoSuchCode id) P = P
UnlessNoMemory stops.TooManyCodes P = P
UnlessNoMemory stops.TooManyPins P = P
UnlessNoMemory stops.NoMemory P = Unit {0}

-- nothing is changed, unless memory ran out
abbrev pub Leaves : {B : Type 0} → (B → Bytes → Type 0) → Layers B → Layers B → CodeStop → Type 0
Leaves S old new stop = UnlessNoMemory stop (Turns S old new (λ maps. maps))
