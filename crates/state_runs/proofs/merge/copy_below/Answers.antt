use Rattle.std.proofs.Common.{◌≡◌, ◌∙◌, true, sym, ap}
use Rattle.std.specs.Option.{option_copied}
use Rattle.kv_layers.specs.Next.{is_below}
use Rattle.state_runs.proofs.Copying.{copied-step, from-step}
use Rattle.state_runs.proofs.merge.copy_below.Goals as goal

pub loop-change-preserved : goal.loop-change-preserved
loop-change-preserved c =
    let end = option_copied c.args.end in
    let change = c.in-Some.change.now in
    let later = c.in-Some.later.now in
    let test : is_below end c.in-Some.change.now.0.items ≡ true = ap (is_below end) (sym c.deref.ensures.value) ∙ sym c.is_below.ensures ∙ c.if-not-is_below.false in
    record {
      copied = copied-step end c.loop-change.copies.items c.push.new.self.items change c.in_ok-copied.field-0 c.loop-change.rest.now later c.in_ok-push.ensures.items c.in_ok-copied.ensures c.in-Some.ensures.cases.0 test ∙ c.loop-change.invariant.copied;
      rest = from-step end change c.loop-change.rest.now later c.in-Some.ensures.cases.0 test ∙ c.loop-change.invariant.rest;
    }
