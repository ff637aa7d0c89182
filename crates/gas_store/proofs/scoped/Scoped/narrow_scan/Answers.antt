use Rattle.std.proofs.Common.{◌<◌, length, sym, ap, ◌∙◌, arith}
use Rattle.gas_store.specs.Views.{entries_view}
use Rattle.gas_store.proofs.Advances.{kept_given, narrowed_in}
use Rattle.gas_store.proofs.scoped.Scoped.narrow_scan.Goals as goal

pub invariant_of-self : goal.invariant_of-self
invariant_of-self c =
    let scoped = c.args.self.now in
    let within : c.args.index < length scoped.scans.items = omega (arith, c.requires, scoped.scans.ok.0) in
    record {
      own = scoped.own;
      short = scoped.short;
      bounded = scoped.bounded;
      counted = scoped.counted ∙ sym (kept_given scoped.scans.items c.args.index c.index_mut.result.now c.narrow.new.scan within c.index_mut.ensures.value c.narrow.ensures.given);
      within = scoped.within;
      few = scoped.few;
    }

pub returns-in_ok-narrow-clause-scans : goal.returns-in_ok-narrow-clause-scans
returns-in_ok-narrow-clause-scans c = λ d.
    let scoped = c.args.self.now in
    let within : c.args.index < length scoped.scans.items = omega (arith, c.requires, scoped.scans.ok.0) in
    let view = rw c.deref.ensures.value at (c.in_ok-narrow.ensures.ok c.in-Some.field-0-1.items) in
    let found = ap entries_view c.in-Some.is in
    narrowed_in scoped.scans.items c.args.index c.index_mut.result.now c.narrow.new.scan (entries_view c.args.found.now) d within c.index_mut.ensures.value (rw found view)
