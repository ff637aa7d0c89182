-- Fetches of some codes and then of others.
use Rattle.std.proofs.Common.{◌≡◌, ℕ, List, ◌++◌, Option, Some, None, sym, ap, subst, ◌∙◌}
use Rattle.std.proofs.lemmas.List.Sums.{fold-append}
use Rattle.gatekeeper.specs.Cache.{Tally, tallied, all_tallied}
use Rattle.gatekeeper.specs.Fetches.{Tallies, TalliesJoin}

told : (codes more : List (List ℕ)) (t : Tally) (middle last : Option Tally) → middle ≡ Some (all_tallied t codes) → Tallies middle more last → last ≡ Some (all_tallied t (codes ++ more))
told codes more t middle last e f =
    subst (λ (o : Option Tally). Tallies o more last) e f ∙ sym (ap Some (fold-append tallied t codes more))

pub tallies_join : TalliesJoin
tallies_join codes more None middle last e f = tt
tallies_join codes more (Some t) middle last e f = told codes more t middle last e f
