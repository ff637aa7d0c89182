-- Lists of events.
use Rattle.std.specs.Prelude.{List, [], ◌∷◌, fold}
use Rattle.node_core.specs.declared.answer.CoreAnswer.{CoreAnswer}
use Rattle.node_core.specs.Plain.{Event}
use Rattle.node_core.specs.Steps.{State, stepped}

-- the state behind a list of events
abbrev pub state_after : State → List Event → State
state_after s events = fold (λ t e. (stepped t e).state) s events

abbrev pub answers : State → List Event → List CoreAnswer
answers s [] = []
answers s (e ∷ events) = (stepped s e).answer ∷ answers (stepped s e).state events
