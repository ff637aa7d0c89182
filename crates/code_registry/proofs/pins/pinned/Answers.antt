use Rattle.std.proofs.Common.{ℕ, ◌+◌, ◌<◌, ◌^◌, List, ◌++◌, length, Some, None, sym, ap, ◌∙◌, subst, arith}
use Rattle.std.specs.FinMap.{entries}
use Rattle.chain_records.specs.State.{Bytes, State, Spells}
use Rattle.code_registry.specs.Steps.{IsPlace, IsNextPin}
use Rattle.code_registry.proofs.Ids.{rest_of, all_left, pin_next, pin_none, length_pushed}
use Rattle.code_registry.proofs.Places.{first_place, next_place}
use Rattle.code_registry.proofs.pins.pinned.Goals as goal

pub pins-init : goal.pins-init
pins-init g c =
    let order = c.keys_keep_their_order.ensures in
    record {
      hi = sym c.in_ok-hi.ensures.same;
      lo = (
        0,
        first_place order.pins order.kinds c.in_ok-lo.lo.items c.in_ok-lo.ensures,
        omega (arith, ap length c.new-ids.ensures.items),
        λ m s stands spelled.
            all_left s ∙ ap (λ (ids : List ℕ). ids ++ rest_of 0 (entries s.pins)) (sym c.new-ids.ensures.items),
      );
    }

pub pins-smaller : goal.pins-smaller
pins-smaller g c =
    let t = c.requires in
    let at = c.pins.invariant.lo in
    let next : IsNextPin t.state at.0 (Some (c.in-Some.key.items, c.in-Some.id)) = rw c.in-Some.is at (c.in_ok-key.ensures at.0 (rw c.deref.ensures.value at.1) t.map t.state t.stands t.spelled) in
    let small : c.in-Some.id < 2 ^ 64 = next.0.is_key in
    let longer = length_pushed c.pins.ids.items c.in-Some.id c.push.new.self.items c.in_ok-push.ensures.items in
    omega (arith, next.1, small, longer, at.2)

pub pins-preserved : goal.pins-preserved
pins-preserved g c =
    let order = c.keys_keep_their_order.ensures in
    let t = c.requires in
    let at = c.pins.invariant.lo in
    let id = c.in-Some.id in
    let next = λ (m : Bytes) (s : State) (stands : g.B.Base.stands_for c.args.view.now m) (spelled : Spells m s).
    let n : IsNextPin s at.0 (Some (c.in-Some.key.items, id)) = rw c.in-Some.is at (c.in_ok-key.ensures at.0 (rw c.deref.ensures.value at.1) m s stands spelled) in n in
    let first = next t.map t.state t.stands t.spelled in
    let longer = length_pushed c.pins.ids.items id c.push.new.self.items c.in_ok-push.ensures.items in
    record {
      hi = c.pins.invariant.hi;
      lo = (
        id + 1,
        subst (λ (place : List ℕ). IsPlace place (id + 1)) (sym c.in_ok-push-2.ensures.items) (next_place order.pins order.kinds id c.in-Some.key.items first.0),
        omega (arith, first.1, longer, at.2),
        λ m s stands spelled.
            pin_next s at.0 id c.in-Some.key.items c.pins.ids.items (next m s stands spelled) (at.3 m s stands spelled)
            ∙ ap (λ (done : List ℕ). done ++ rest_of (id + 1) (entries s.pins)) (sym c.in_ok-push.ensures.items),
      );
    }

pub returns : goal.returns
returns g c = λ m s stands spelled.
    let at = c.pins.invariant.lo in
    let last : IsNextPin s at.0 None = rw c.in_default.is at (c.in_ok-key.ensures at.0 (rw c.deref.ensures.value at.1) m s stands spelled) in
    sym (pin_none s at.0 c.pins.ids.items last (at.3 m s stands spelled))
