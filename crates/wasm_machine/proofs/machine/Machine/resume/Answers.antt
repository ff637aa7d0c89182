use Rattle.std.proofs.Common.{◌∙◌, ap, ◌∷◌}
use Rattle.wasm_machine.specs.Acts as host
use Rattle.wasm_machine.specs.Exec.{at_last, exec}
use Rattle.wasm_machine.specs.Rests.{hosts}
use Rattle.wasm_machine.specs.Machine.{HasUnbegunCall, StandsFor, plain_of}
use Rattle.wasm_machine.proofs.Standing.{one_more_act, answer_rests, answer_hosts}
use Rattle.wasm_machine.proofs.machine.Machine.resume.Goals as goal

pub returns-clause-stands : goal.returns-clause-stands
unfolding StandsFor
returns-clause-stands c = λ acts r.
    let k = c.args.self.now in
    let m = plain_of k in
    rw c.answered-self.ensures (record {
      standing = r.standing;
      left = r.left;
      costs = r.costs;
      goes_on = λ more. ap (exec m) (one_more_act acts more (host.answer c.args.answer)) ∙ r.goes_on (host.answer c.args.answer ∷ more) ∙ ap at_last (answer_rests k.phase m k.state k.state.next r.standing r.left r.costs c.args.answer more c.requires);
      hosts_in = answer_hosts k.phase (hosts k.state.callers.items) c.requires r.hosts_in;
      cells = r.cells;
    })

pub returns-clause-begun : goal.returns-clause-begun
unfolding HasUnbegunCall
returns-clause-begun c = λ h. h.1
