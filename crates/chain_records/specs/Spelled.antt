-- What holds of the states that some maps of bytes spell.
use Rattle.chain_records.specs.State.{Bytes, State, Spells}

-- of the state that one of the maps spells
pub record OfSome (S : Bytes → Type 0) (P : State → Type 0) : Type 0 where
  pub map : Bytes
  pub state : State
  pub stands : S map
  pub spelled : Spells map state
  pub holds : P state

-- of each state that one of the maps spells
abbrev pub OfEach : (Bytes → Type 0) → (State → Type 0) → Type 0
OfEach S P = (map : Bytes) (s : State) → S map → Spells map s → P s

-- one of the maps spells a state
abbrev pub HasTyped : (Bytes → Type 0) → Type 0
HasTyped S = OfSome S (λ s. Unit {0})
