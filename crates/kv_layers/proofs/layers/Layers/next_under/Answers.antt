use Rattle.std.proofs.Common.{◌≡◌, true, Option, sym, ap, ◌∙◌, subst}
use Rattle.std.specs.FinMap.{get}
use Rattle.std.specs.Global.{Vec}
use Rattle.std.specs.Option.{option_map}
use Rattle.std.specs.Prelude.{ℕ}
use Rattle.std.proofs.lemmas.Result.{IfOk-weaker}
use Rattle.kv_layers.specs.Next.{IsNext, is_within}
use Rattle.kv_layers.specs.Plain.{entry_view}
use Rattle.kv_layers.specs.Sorted.{lower, upper}
use Rattle.kv_layers.proofs.Maps.{IsNext-inside, IsNext-inside_none}
use Rattle.kv_layers.proofs.layers.Layers.next_under.Goals as goal

pub returns-in_default : goal.returns-in_default
returns-in_default g c = λ map lo hi stands inside first.
    let bounds = c.args.bounds.now in
    let none = subst (λ (e : Option (Vec ℕ × Vec ℕ)). IsNext (get map) lo hi c.args.order (option_map entry_view e)) c.in_default.is first in
    IsNext-inside_none (get map) (lower bounds) (upper bounds) lo hi c.args.order inside none

pub returns-then-holds : goal.returns-then-holds
returns-then-holds g c = λ map lo hi stands inside first.
    let bounds = c.args.bounds.now in
    let entry = entry_view (c.in-Some.key, c.in-Some.value) in
    let within : is_within (lower c.args.bounds.now) (upper c.args.bounds.now) c.in-Some.key.items ≡ true =
    ap (is_within (lower bounds) (upper bounds)) (sym c.deref.ensures.value) ∙ sym c.holds.ensures ∙ c.if-holds.true in
    let some = subst (λ (e : Option (Vec ℕ × Vec ℕ)). IsNext (get map) lo hi c.args.order (option_map entry_view e)) c.in-Some.is first in
    IsNext-inside (get map) (lower bounds) (upper bounds) lo hi c.args.order entry inside within some

pub returns-else-holds : goal.returns-else-holds
returns-else-holds g c =
    IfOk-weaker c.next_in.result _ _ (λ under answer map lo hi stands inside first. rw (c.lo.ensures, c.hi.ensures) at (answer map stands)) c.next_in.ensures
