use Rattle.std.proofs.Common.{◌∙◌, ap, ◌∷◌}
use Rattle.wasm_machine.specs.Acts as host
use Rattle.wasm_machine.specs.Exec.{at_last, exec}
use Rattle.wasm_machine.specs.Rests.{hosts}
use Rattle.wasm_machine.specs.Machine.{HasUnbegunCall, StandsFor, plain_of}
use Rattle.wasm_machine.proofs.Calls.{hosts_host}
use Rattle.wasm_machine.specs.declared.frame.Next.TheVariants.{Enter}
use Rattle.wasm_machine.proofs.Standing.{with_next, one_more_act, call_rests, call_hosts, call_ready}
use Rattle.wasm_machine.proofs.machine.Machine.call.Goals as goal

pub returns-clause-stands : goal.returns-clause-stands
unfolding StandsFor
returns-clause-stands c = λ acts r.
    let k = c.args.self.now in
    let m = plain_of k in
    let e = c.in_ok-begin_call.ensures in
    rw c.called-self.ensures (record {
      standing = r.standing;
      left = r.left;
      costs = r.costs;
      goes_on = λ more. ap (exec m) (one_more_act acts more (host.call c.args.func c.args.args.now)) ∙ r.goes_on (host.call c.args.func c.args.args.now ∷ more)
          ∙ ap at_last (call_rests k.phase m k.state (with_next c.begin_call.new.self (Enter c.args.func)) k.state.next r.standing r.left r.costs c.args.func c.args.args.now more c.requires
          (record { callers = e.callers; args = e.args; operands = e.operands; locals = e.locals; labels = e.labels; shared = e.shared; depth = e.depth }));
      hosts_in = call_hosts k.phase (hosts k.state.callers.items) (hosts c.begin_call.new.self.callers.items) c.requires (ap hosts e.callers ∙ hosts_host k.state.callers.items) r.hosts_in;
      cells = r.cells;
    })

pub returns-clause-unbegun : goal.returns-clause-unbegun
unfolding HasUnbegunCall
returns-clause-unbegun c = rw c.called-self.ensures (call_ready c.args.self.now.phase c.requires, tt)
