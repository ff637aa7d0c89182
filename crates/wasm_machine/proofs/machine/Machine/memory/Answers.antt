use Rattle.std.proofs.Common.{sym, ◌∙◌, ap, []}
use Rattle.std.proofs.lemmas.List.{append-nil}
use Rattle.wasm_machine.specs.Acts.{Stands}
use Rattle.wasm_machine.specs.Exec.{exec}
use Rattle.wasm_machine.specs.Machine.{StandsFor, plain_of}
use Rattle.wasm_machine.proofs.Standing.{rests_memory}
use Rattle.wasm_machine.proofs.machine.Machine.memory.Goals as goal

pub returns : goal.returns
unfolding StandsFor
returns c = λ acts r.
    let k = c.args.self.now in
    let m = plain_of k in
    sym (ap (λ (s : Stands). s.memory) (ap (exec m) (sym (append-nil acts)) ∙ r.goes_on []) ∙ rests_memory k.phase m k.state k.state.next r.standing r.left r.costs)
