use Rattle.std.proofs.Common.{Bool, refl, sym, ◌∙◌, ap, subst, arith}
use Rattle.std.specs.Prelude.{IsTrue}
use Rattle.host_imports.specs.Imports.{setting}
use Rattle.contract_call.proofs.Turns.{leads_here, turned_on, over_on, stop_on}
use Rattle.contract_call.proofs.turning.go_on.Goals as goal

pub loop-pause-init : goal.loop-pause-init
loop-pause-init g c = record {
  leads = λ n h. (n, h, leads_here _);
  phase = c.requires.phase;
  begun = c.requires.begun;
  scope = record { addr = refl; read_only = refl };
  deep = refl;
  unchanged = λ reads maps stands. stands;
  same = refl;
  spends = omega arith;
  used = refl;
}

pub loop-pause-preserved : goal.loop-pause-preserved
loop-pause-preserved g c =
    let i = c.loop-pause.invariant in
    let e = c.in-Ok-None.ensures in
    let paused = rw c.in-Ok-None.field-0-is at e.paused in
    let less = rw c.in-Ok-None.field-0-is at e.falls in
    let one = rw c.in-Ok-None.field-0-is at e.does in record {
      leads = λ n h.
          let l = i.leads n h in
          turned_on _ _ n l.0 (ap (λ (b : Bool). setting c.args.costs.now b c.args.prefix.now) (sym i.scope.read_only)) l.1 (less i.begun) l.2 one;
      phase = paused.0;
      begun = paused.1;
      scope = record { addr = e.scope.addr ∙ i.scope.addr; read_only = e.scope.read_only ∙ i.scope.read_only };
      deep = e.layers ∙ i.deep;
      unchanged = λ reads maps stands. e.unchanged (subst IsTrue (sym i.scope.read_only) reads) maps (i.unchanged reads maps stands);
      same = e.module ∙ i.same;
      spends = omega arith;
      used = e.used ∙ i.used;
    }

pub returns-in-Ok-Some-clause-does : goal.returns-in-Ok-Some-clause-does
returns-in-Ok-Some-clause-does g c = λ n h.
    let i = c.loop-pause.invariant in
    let l = i.leads n h in
    over_on _ _ n l.0 c.in-Ok-Some.pause (ap (λ (b : Bool). setting c.args.costs.now b c.args.prefix.now) (sym i.scope.read_only)) l.1 l.2 (rw c.in-Ok-Some.field-0-is at c.in-Ok-Some.ensures.does)

pub returns-in-Err-clause-does : goal.returns-in-Err-clause-does
returns-in-Err-clause-does g c = λ n h.
    let i = c.loop-pause.invariant in
    let l = i.leads n h in
    stop_on _ _ n l.0 c.in-Err.stop (ap (λ (b : Bool). setting c.args.costs.now b c.args.prefix.now) (sym i.scope.read_only)) l.1 l.2 c.in-Err.ensures.does

pub returns-in-Ok-Some-clause-unchanged : goal.returns-in-Ok-Some-clause-unchanged
returns-in-Ok-Some-clause-unchanged g c = λ reads maps stands.
    let i = c.loop-pause.invariant in
    c.in-Ok-Some.ensures.unchanged (subst IsTrue (sym i.scope.read_only) reads) maps (i.unchanged reads maps stands)

pub returns-in-Err-clause-unchanged : goal.returns-in-Err-clause-unchanged
returns-in-Err-clause-unchanged g c = λ reads maps stands.
    let i = c.loop-pause.invariant in
    c.in-Err.ensures.unchanged (subst IsTrue (sym i.scope.read_only) reads) maps (i.unchanged reads maps stands)
