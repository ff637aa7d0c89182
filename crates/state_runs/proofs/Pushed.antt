-- The runs that a loop has seen, and those that it has left.
use Rattle.std.proofs.Common.{◌≡◌, ℕ, suc, ◌+◌, ◌<◌, List, [], ◌∷◌, ◌++◌, take, drop, length, get_or, drop-cons, Option, sym, ◌∙◌, ap, arith}
use Rattle.std.specs.declared.sync.Arc.{Arc}
use Rattle.std.specs.Arc.{arc_value}
use Rattle.std.specs.Global.{Global}
use Rattle.std.specs.Option.{option_or}
use Rattle.std.proofs.lemmas.List.{map-append, take_more}
use Rattle.kv_layers.specs.declared.order.Order.{Order}
use Rattle.kv_layers.specs.Next.{IsNext}
use Rattle.state_runs.specs.declared.run.Run.{Run as SharedRun}
use Rattle.state_runs.specs.Runs.{entry_in}
use Rattle.state_runs.specs.Views.{run_view, runs_view}
use Rattle.state_runs.proofs.Lists.{found, entry_in-push}
use Rattle.state_runs.proofs.Places.{IsNext-agree}

abbrev pub Shares : Type 0
Shares = List (Arc SharedRun Global)

pub seen-more : (runs : Shares) (i : ℕ) (run : Arc SharedRun Global) → i < length runs → run ≡ get_or runs i run → runs_view (take (i + 1) runs) ≡ runs_view (take i runs) ++ run_view (arc_value run) ∷ []
seen-more runs i run lt is =
    ap runs_view (take_more runs i run lt ∙ ap (λ x. take i runs ++ x ∷ []) (sym is))
    ∙ map-append (λ share. run_view (arc_value share)) (take i runs) (run ∷ [])

pub left-less : (runs : Shares) (i : ℕ) (run : Arc SharedRun Global) → i < length runs → run ≡ get_or runs i run → runs_view (drop i runs) ≡ run_view (arc_value run) ∷ runs_view (drop (i + 1) runs)
left-less runs i run lt is =
    let next : suc i ≡ i + 1 = omega arith in
    ap runs_view (drop-cons runs i run lt ∙ ap (λ x. x ∷ drop (suc i) runs) (sym is) ∙ ap (λ n. run ∷ drop n runs) next)

-- a run without the key leaves the look-up to the older ones
pub entry-left : (key : List ℕ) (runs : Shares) (i : ℕ) (run : Arc SharedRun Global) → i < length runs → run ≡ get_or runs i run → entry_in (runs_view (drop i runs)) key ≡ option_or (found key (run_view (arc_value run))) (entry_in (runs_view (drop (i + 1) runs)) key)
entry-left key runs i run lt is = ap (λ rs. entry_in rs key) (left-less runs i run lt is)

-- a run below the others is the last to have a say
pub entry-seen : (key : List ℕ) (runs : Shares) (i : ℕ) (run : Arc SharedRun Global) → i < length runs → run ≡ get_or runs i run → entry_in (runs_view (take (i + 1) runs)) key ≡ option_or (entry_in (runs_view (take i runs)) key) (found key (run_view (arc_value run)))
entry-seen key runs i run lt is = ap (λ rs. entry_in rs key) (seen-more runs i run lt is) ∙ entry_in-push key (runs_view (take i runs)) (run_view (arc_value run))

pub IsNext-seen : (order : Order) (lo hi : Option (List ℕ)) (runs : Shares) (i : ℕ) (run : Arc SharedRun Global) (r : Option (List ℕ × Option (List ℕ))) → i < length runs → run ≡ get_or runs i run → IsNext (λ key. option_or (entry_in (runs_view (take i runs)) key) (found key (run_view (arc_value run)))) lo hi order r → IsNext (entry_in (runs_view (take (i + 1) runs))) lo hi order r
IsNext-seen order lo hi runs i run r lt is next =
    IsNext-agree (λ key. option_or (entry_in (runs_view (take i runs)) key) (found key (run_view (arc_value run)))) (entry_in (runs_view (take (i + 1) runs))) order lo hi r (λ q _. entry-seen q runs i run lt is) next
