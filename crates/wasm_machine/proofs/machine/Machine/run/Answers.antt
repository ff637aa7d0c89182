use Rattle.std.proofs.Common.{◌≡◌, ℕ, ◌<◌, ◌≤◌, sym, ◌∙◌, ap, arith}
use Rattle.wasm_machine.specs.Acts.{Stands}
use Rattle.wasm_machine.specs.Machine.{HasUnbegunCall, StandsFor}
use Rattle.wasm_machine.specs.Rests.{ahead, pauses_at, StopsAt}
use Rattle.wasm_machine.proofs.Runs.{led_on, paused, paused_here, stopped, stopped_turn, stopped_left}
use Rattle.wasm_machine.proofs.Standing.{pause_not_ready, turn_begins}
use Rattle.wasm_machine.proofs.machine.Machine.run.Goals as goal

pub returns-in-Ok-clause-stands : goal.returns-in-Ok-clause-stands
unfolding StandsFor
returns-in-Ok-clause-stands c = λ acts r.
    let k = c.args.self.now in
    let e = led_on _ _ _ k.state c.args.meter.now.left c.args.costs.now (λ m acts o. o ≡ pauses_at m c.run.new.self c.in-Ok.pause (ahead c.run.new.meter.left c.args.costs.now acts)) c.deref.ensures c.in-Ok.ensures.leads in
    rw c.after_pause-self.ensures
    (paused k c.run.new.self c.in-Ok.pause c.args.meter.now.left c.run.new.meter.left c.args.costs.now c.requires.phase
    (λ more h. e more h (c.deref-2.ensures.value ∙ r.cells)) c.in-Ok.ensures.hosts acts r)

pub returns-in-Ok-clause-turn : goal.returns-in-Ok-clause-turn
unfolding StandsFor
returns-in-Ok-clause-turn c = λ acts r.
    let k = c.args.self.now in
    let e = led_on _ _ _ k.state c.args.meter.now.left c.args.costs.now (λ m acts o. o ≡ pauses_at m c.run.new.self c.in-Ok.pause (ahead c.run.new.meter.left c.args.costs.now acts)) c.deref.ensures c.in-Ok.ensures.leads in
    c.turn_of.ensures
    ∙ sym (ap (λ (x : Stands). x.standing) (paused_here k c.run.new.self c.in-Ok.pause c.args.meter.now.left c.run.new.meter.left c.args.costs.now c.requires.phase
    (λ more h. e more h (c.deref-2.ensures.value ∙ r.cells)) acts r))

pub returns-in-Ok-clause-left : goal.returns-in-Ok-clause-left
unfolding StandsFor
returns-in-Ok-clause-left c = λ acts r.
    let k = c.args.self.now in
    let e = led_on _ _ _ k.state c.args.meter.now.left c.args.costs.now (λ m acts o. o ≡ pauses_at m c.run.new.self c.in-Ok.pause (ahead c.run.new.meter.left c.args.costs.now acts)) c.deref.ensures c.in-Ok.ensures.leads in
    sym (ap (λ (x : Stands). x.left) (paused_here k c.run.new.self c.in-Ok.pause c.args.meter.now.left c.run.new.meter.left c.args.costs.now c.requires.phase
    (λ more h. e more h (c.deref-2.ensures.value ∙ r.cells)) acts r))

pub returns-in-Err-clause-stands : goal.returns-in-Err-clause-stands
unfolding StandsFor
returns-in-Err-clause-stands c =
    let k = c.args.self.now in
    let e = led_on _ _ _ k.state c.args.meter.now.left c.args.costs.now (λ m acts o. StopsAt c.in-Err.stop c.run.new.self (ahead c.run.new.meter.left c.args.costs.now acts) o) c.deref.ensures c.in-Err.ensures.leads in
    stopped _ k c.run.new.self c.in-Err.stop c.turn_at.result c.args.meter.now.left c.run.new.meter.left c.args.costs.now c.turn_at.ensures c.requires.phase
    (λ more h cells. e more h (c.deref-2.ensures.value ∙ cells))

pub returns-in-Err-clause-turn : goal.returns-in-Err-clause-turn
unfolding StandsFor
returns-in-Err-clause-turn c =
    let k = c.args.self.now in
    let e = led_on _ _ _ k.state c.args.meter.now.left c.args.costs.now (λ m acts o. StopsAt c.in-Err.stop c.run.new.self (ahead c.run.new.meter.left c.args.costs.now acts) o) c.deref.ensures c.in-Err.ensures.leads in
    stopped_turn _ k c.run.new.self c.in-Err.stop c.turn_at.result c.args.meter.now.left c.run.new.meter.left c.args.costs.now c.turn_at.ensures c.requires.phase
    (λ more h cells. e more h (c.deref-2.ensures.value ∙ cells))

pub returns-in-Err-clause-left : goal.returns-in-Err-clause-left
unfolding StandsFor
returns-in-Err-clause-left c =
    let k = c.args.self.now in
    let e = led_on _ _ _ k.state c.args.meter.now.left c.args.costs.now (λ m acts o. StopsAt c.in-Err.stop c.run.new.self (ahead c.run.new.meter.left c.args.costs.now acts) o) c.deref.ensures c.in-Err.ensures.leads in
    stopped_left _ k c.run.new.self c.in-Err.stop c.turn_at.result c.args.meter.now.left c.run.new.meter.left c.args.costs.now c.turn_at.ensures c.requires.phase
    (λ more h cells. e more h (c.deref-2.ensures.value ∙ cells))

falls : (new old : ℕ) → new ≤ old → (new ≡ old → ⊥) → new < old
falls new old le differ = omega arith

pub returns-in-Ok-clause-asks : goal.returns-in-Ok-clause-asks
unfolding HasUnbegunCall
returns-in-Ok-clause-asks c = λ ask begun.
    falls c.run.new.meter.left c.args.meter.now.left c.run.ensures.left
    (λ same. begun (c.requires.phase, turn_begins c.args.self.now.state.next c.turn_of.result c.in-Ok.pause c.turn_of.ensures ask (c.in-Ok.ensures.free same)))

pub returns-in-Ok-clause-begun : goal.returns-in-Ok-clause-begun
unfolding HasUnbegunCall
returns-in-Ok-clause-begun c = λ h.
    pause_not_ready c.args.self.now.phase c.in-Ok.pause c.requires.phase (rw c.after_pause-self.ensures at h.0)

pub returns-in-Err-clause-begun : goal.returns-in-Err-clause-begun
unfolding HasUnbegunCall
returns-in-Err-clause-begun c = λ h. h.0
