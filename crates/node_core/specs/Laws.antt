-- What holds of the answers, whatever events came before.
use Rattle.std.specs.Prelude.{ℕ, ◌≡◌, ◌≤◌, ◌⊎◌, true, List, Option, slice_index}
use Rattle.node_core.specs.declared.answer.CoreAnswer.TheVariants.{Entered, Found}
use Rattle.node_core.specs.Plain.{Event, enter, look, shelf_answer}
use Rattle.node_core.specs.Steps.{State, start, oldest, stepped}
use Rattle.node_core.specs.Events.{state_after}

-- the state behind some events, on a core as it begins
abbrev pub reached : ℕ → ℕ → ℕ → List Event → State
reached keep recent readers events = state_after (start keep recent readers) events

-- the event asks for this code
abbrev pub Asks : Event → ℕ → Type 0
Asks e code = ((actor : ℕ) × (e ≡ look actor code)) ⊎ ((actor : ℕ) × (e ≡ shelf_answer actor code true))

-- what is found is what was asked
abbrev pub FindsAsked : Type 0
FindsAsked = (s : State) (e : Event) (code : ℕ) → (stepped s e).answer ≡ Found code → Asks e code

-- a reader enters no height list older than all that it had seen or was told
abbrev pub NeverFalls : Type 0
NeverFalls = (keep recent readers : ℕ) (events : List Event) (reader : ℕ) (asked : Option ℕ) (newest height : ℕ)
    → (stepped (reached keep recent readers events) (enter reader asked)).answer ≡ Entered newest height
    → slice_index (reached keep recent readers events).seen reader ≤ newest

-- a height that is entered is within the window of the newest
abbrev pub IsWithin : Type 0
IsWithin = (s : State) (e : Event) (newest height : ℕ) → (stepped s e).answer ≡ Entered newest height
    → (newest ≡ s.newest) × (oldest s.keep newest ≤ height) × (height ≤ newest)
