use Rattle.std.proofs.Common.{◌≡◌, ◌∙◌, true, false, cond, sym, ap, bytes_eq}
use Rattle.block_runner.proofs.Distinct.{names, met_more, new_all, new_step, not_true, has_bytes, set_changed}
use Rattle.block_runner.proofs.addresses.are_unlike.Goals as goal

pub loop-address-init : goal.loop-address-init
loop-address-init c = record { has = λ address. search; left = new_all (names c.args.addresses.now) }

pub loop-address-preserved : goal.loop-address-preserved
loop-address-preserved c =
    let i = c.loop-address.address-index in
    let items = c.args.addresses.now in
    let name = c.address-item.result in
    let inv = c.loop-address.invariant in
    let bytes = c.in_ok-copied.field-0.items in
    let clone : bytes ≡ name.items = c.in_ok-copied.ensures ∙ c.deref.ensures.value in
    let absent : has_bytes c.loop-address.before bytes ≡ false = not_true _ _ c.in_ok-insert.ensures.added c.if-not-branch.false in
    let new = sym (inv.has name.items) ∙ ap (has_bytes c.loop-address.before) (sym clone) ∙ absent in
    let within = c.loop-address-test.true in
    let is = c.address-item.is in
    record {
      has = λ address.
          set_changed c.loop-address.before c.insert.new.self bytes true c.in_ok-insert.ensures.updates address
          ∙ ap (λ bs. cond (bytes_eq bs address) true (has_bytes c.loop-address.before address)) clone
          ∙ ap (cond (bytes_eq name.items address) true) (inv.has address)
          ∙ met_more items i name within is address;
      left = new_step items i name within is new ∙ inv.left;
    }
