use Rattle.std.proofs.Common.{refl, sym, ◌∙◌, ap, [], ◌∷◌}
use Rattle.std.proofs.lemmas.List.{append-nil}
use Rattle.wasm_machine.specs.Acts as host
use Rattle.wasm_machine.specs.Acts.{Stands}
use Rattle.wasm_machine.specs.Exec.{at_last, exec}
use Rattle.wasm_machine.specs.Machine.{HasUnbegunCall, with_memory, StandsFor, plain_of}
use Rattle.wasm_machine.proofs.Standing.{one_more_act, rests_memory, memory_rests}
use Rattle.wasm_machine.proofs.machine.Machine.memory_mut.Goals as goal

pub returns : goal.returns
unfolding HasUnbegunCall StandsFor with_memory
returns c =
    let k = c.args.self.now in
    let m = plain_of k in (
      (refl, λ w. refl),
      record {
        changes = tt;
        value = λ acts r. sym (ap (λ (s : Stands). s.memory) (ap (exec m) (sym (append-nil acts)) ∙ r.goes_on []) ∙ rests_memory k.phase m k.state k.state.next r.standing r.left r.costs);
        stands = λ bytes acts r. record {
          standing = r.standing;
          left = r.left;
          costs = r.costs;
          goes_on = λ more. ap (exec m) (one_more_act acts more (host.memory bytes)) ∙ r.goes_on (host.memory bytes ∷ more) ∙ ap at_last (memory_rests k.phase m k.state k.state.next r.standing r.left r.costs bytes more c.requires);
          hosts_in = r.hosts_in;
          cells = r.cells;
        };
        phase = λ bytes. refl;
        «module» = λ bytes. refl;
        unbegun = λ bytes. (λ h. h, λ h. h);
      },
    )
