-- A short run of a core that keeps two heights and one recent module, and has one reader.
use Rattle.std.specs.Prelude.{◌≡◌, List, [], ◌∷◌, Some, refl}
use Rattle.node_core.specs.declared.answer.CoreAnswer.TheVariants.{Nothing, Pruned, Found, Missing, Refused}
use Rattle.node_core.specs.Plain.{Event, publish, enter, look, stow, tell}
use Rattle.node_core.specs.Steps.{start}
use Rattle.node_core.specs.Events.{answers}

abbrev events : List Event
events = publish 2 ∷ publish 1 ∷ publish 2 ∷ tell 0 ∷ enter 0 (Some 0) ∷ look 0 5 ∷ stow 0 5 ∷ look 0 5 ∷ stow 0 6 ∷ look 0 5 ∷ []

run : answers (start 2 1 1) events
    ≡ Refused ∷ Nothing ∷ Nothing ∷ Nothing ∷ Pruned 1 2 ∷ Missing ∷ Nothing ∷ Found 5 ∷ Nothing ∷ Missing ∷ []
run = refl
