-- When bytes are refused.
use Rattle.std.specs.Prelude.{ℕ, ◌≡◌, List, length}
use Rattle.chain_records.specs.declared.fault.RecordFault.{RecordFault}
use Rattle.chain_records.specs.declared.fault.RecordFault.TheVariants.{Bad, NoMemory}

-- the bytes are those of no value; the number is how many there are
abbrev pub IsRefused : {A : Type 0} → (List ℕ → A → Type 0) → List ℕ → RecordFault → Type 0
IsRefused {A} IsOf bytes (Bad n) = (n ≡ length bytes) × ((a : A) → IsOf bytes a → ⊥)
IsRefused IsOf bytes NoMemory = Unit {0}
