-- Codes that the gate takes.
use Rattle.std.specs.Prelude.{◌≡◌, ℕ, List, [], filter_map, Option, Some, None}
use Rattle.wasm_types.specs.Plain.{PlainExport, PlainModule}
use Rattle.wasm_types.specs.ModuleText.{module_of}
use Rattle.wasm_types.specs.Gate.{required, gate}

abbrev pub required_in : Option PlainModule → List (List ℕ)
required_in None = []
required_in (Some m) = filter_map (λ (e : PlainExport). required e.name) m.exports

-- the gate takes the code where the chain has the capabilities that the code itself requires, so under some list of them
abbrev pub IsAccepted : List ℕ → Type 0
IsAccepted code = gate code (required_in (module_of code)) ≡ None

-- what is taken under any list of capabilities is accepted
abbrev pub TakenIsAccepted : Type 0
TakenIsAccepted = (code : List ℕ) (caps : List (List ℕ)) → gate code caps ≡ None → IsAccepted code
