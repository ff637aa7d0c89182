use Rattle.std.proofs.Common.{◌≡◌, ℕ, Option, Some, None, true, sym, ap, ◌∙◌, subst}
use Rattle.std.specs.FinMap.{get}
use Rattle.std.specs.Global.{Vec}
use Rattle.std.specs.Option.{option_map, option_copied}
use Rattle.std.proofs.lemmas.Result.{IfOk-weaker}
use Rattle.kv_layers.specs.Bytes.{Bytes}
use Rattle.kv_layers.specs.Merge.{shown_change}
use Rattle.kv_layers.specs.Next.{IsNext, is_within}
use Rattle.kv_layers.specs.Plain.{value_view}
use Rattle.kv_layers.specs.Sorted.{lower, upper}
use Rattle.state_runs.specs.Runs.{entry_in, map_of}
use Rattle.state_runs.specs.Views.{runs_view}
use Rattle.state_runs.proofs.Maps.{get-map_of}
use Rattle.state_runs.proofs.Next.{IsNext-none, IsNext-value, IsNext-removed, AreNarrowed, fewer-left}
use Rattle.state_runs.proofs.snapshot.SnapshotBase.next_in.Goals as goal

pub scan-init : goal.scan-init
scan-init c = λ found next.
    subst (λ lo. IsNext (get (map_of c.args.self.now)) lo (option_copied c.args.hi) c.args.order found) c.in_ok-bounds.ensures.lo
    (subst (λ hi. IsNext (get (map_of c.args.self.now)) (lower c.in_ok-bounds.bounds) hi c.args.order found) c.in_ok-bounds.ensures.hi next)

pub returns-in_default : goal.returns-in_default
returns-in_default c = λ map same.
    let runs = c.args.self.now in
    let lo = lower c.scan.bounds in
    let hi = upper c.scan.bounds in
    let order = c.args.order in
    let shown = subst (λ rs. IsNext (entry_in rs) lo hi order (option_map shown_change c.next_change.result)) (ap runs_view c.deref.ensures.value ∙ c.self.view_is) c.next_change.ensures in
    let first = subst (λ r. IsNext (entry_in runs) lo hi order (option_map shown_change r)) c.in_default.is shown in
    let next = c.scan.invariant None (IsNext-none (get (map_of runs)) (entry_in runs) (get-map_of runs) order lo hi first) in
    subst (λ (m : Bytes). IsNext (get m) (option_copied c.args.lo) (option_copied c.args.hi) order None) same next

pub returns-in-Some-value : goal.returns-in-Some-value
returns-in-Some-value c =
    let runs = c.args.self.now in
    let lo = lower c.scan.bounds in
    let hi = upper c.scan.bounds in
    let order = c.args.order in
    let key = c.in-Some.key.now.items in
    let bytes = c.in-Some-value.value.items in
    let shown = subst (λ rs. IsNext (entry_in rs) lo hi order (option_map shown_change c.next_change.result)) (ap runs_view c.deref.ensures.value ∙ c.self.view_is) c.next_change.ensures in
    let is : option_map shown_change c.next_change.result ≡ Some (c.in-Some.key.now.items, Some c.in-Some-value.value.items) = ap (option_map shown_change) c.in-Some.is ∙ ap (λ (o : Option (Vec ℕ)). Some (c.in-Some.key.now.items, value_view o)) c.in-Some-value.is in
    let first = subst (IsNext (entry_in runs) lo hi order) is shown in
    let next = c.scan.invariant (Some (key, bytes)) (IsNext-value (get (map_of runs)) (entry_in runs) (get-map_of runs) order lo hi key bytes first) in
    IfOk-weaker c.owned_entry.result _ _ (λ found e map same.
    subst (IsNext (get map) (option_copied c.args.lo) (option_copied c.args.hi) c.args.order) (sym e)
    (subst (λ (m : Bytes). IsNext (get m) (option_copied c.args.lo) (option_copied c.args.hi) order (Some (key, bytes))) same next)) c.owned_entry.ensures

pub scan-preserved : goal.scan-preserved
scan-preserved c = λ found next.
    let runs = c.args.self.now in
    let lo = lower c.scan.bounds in
    let hi = upper c.scan.bounds in
    let order = c.args.order in
    let key = c.in-Some.key.now.items in
    let shown = subst (λ rs. IsNext (entry_in rs) lo hi order (option_map shown_change c.next_change.result)) (ap runs_view c.deref.ensures.value ∙ c.self.view_is) c.next_change.ensures in
    let is : option_map shown_change c.next_change.result ≡ Some (c.in-Some.key.now.items, None) = ap (option_map shown_change) c.in-Some.is ∙ ap (λ (o : Option (Vec ℕ)). Some (c.in-Some.key.now.items, value_view o)) c.in-None.is in
    let first = subst (IsNext (entry_in runs) lo hi order) is shown in
    let copied : c.in_ok-from_slice-in-None.field-0.items ≡ c.in-Some.key.now.items = c.in_ok-from_slice-in-None.ensures.items ∙ c.deref-in-None.ensures.value in
    let narrowed = subst (λ k. is_within lo hi k ≡ true → AreNarrowed order lo hi (lower c.narrow_past.new.self) (upper c.narrow_past.new.self) k) copied c.in_ok-narrow_past-in-None.ensures.past in
    c.scan.invariant found
    (IsNext-removed (get (map_of runs)) (entry_in runs) (get-map_of runs) order lo hi key (lower c.narrow_past.new.self) (upper c.narrow_past.new.self) first (narrowed first.0) found next)

pub scan-smaller : goal.scan-smaller
scan-smaller c =
    let runs = c.args.self.now in
    let lo = lower c.scan.bounds in
    let hi = upper c.scan.bounds in
    let order = c.args.order in
    let key = c.in-Some.key.now.items in
    let shown = subst (λ rs. IsNext (entry_in rs) lo hi order (option_map shown_change c.next_change.result)) (ap runs_view c.deref.ensures.value ∙ c.self.view_is) c.next_change.ensures in
    let is : option_map shown_change c.next_change.result ≡ Some (c.in-Some.key.now.items, None) = ap (option_map shown_change) c.in-Some.is ∙ ap (λ (o : Option (Vec ℕ)). Some (c.in-Some.key.now.items, value_view o)) c.in-None.is in
    let first = subst (IsNext (entry_in runs) lo hi order) is shown in
    let copied : c.in_ok-from_slice-in-None.field-0.items ≡ c.in-Some.key.now.items = c.in_ok-from_slice-in-None.ensures.items ∙ c.deref-in-None.ensures.value in
    let narrowed = subst (λ k. is_within lo hi k ≡ true → AreNarrowed order lo hi (lower c.narrow_past.new.self) (upper c.narrow_past.new.self) k) copied c.in_ok-narrow_past-in-None.ensures.past in
    fewer-left order lo hi (lower c.narrow_past.new.self) (upper c.narrow_past.new.self) key runs None first.0 (narrowed first.0) first.1
