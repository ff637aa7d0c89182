use Rattle.std.proofs.Common.{◌≡◌, sym, ◌∙◌, ap, ℕ, ◌+◌, List, [], ◌∷◌, ◌++◌, subst}
use Rattle.std.specs.Prelude.{◌≢◌}
use Rattle.gas_meter.specs.declared.schedule.Schedule.{Schedule}
use Rattle.wasm_machine.specs.declared.machine.Machine.{Machine}
use Rattle.wasm_machine.specs.Acts.{Act, go, Stands, out_of_gas, with_more_left, gas_aside}
use Rattle.wasm_machine.specs.Exec.{at_last}
use Rattle.wasm_machine.specs.Rests.{ahead, next_at}
use Rattle.wasm_machine.specs.Machine.{phase_of, plain_of, stands_after, StandsFor}
use Rattle.wasm_machine.specs.Phases.{IsReady}
use Rattle.wasm_machine.proofs.Gas.{more_left, same_later}
use Rattle.wasm_machine.proofs.Standing.{go_rests}
use Rattle.wasm_machine.proofs.laws.more_gas_only_leaves_more.Goals as goal

goes : (k : Machine) (acts : List Act) → StandsFor k acts → IsReady (phase_of k) → (gas : ℕ) (costs : Schedule) (later : List Act) → stands_after k (acts ++ go gas costs ∷ later) ≡ at_last (next_at (plain_of k) k.state k.state.next (ahead gas costs later))
unfolding StandsFor
goes k acts r ready gas costs later =
    r.goes_on (go gas costs ∷ later)
    ∙ ap at_last (go_rests k.phase (plain_of k) k.state k.state.next r.standing r.left r.costs gas costs later ready)

some_gas : (k : Machine) (acts : List Act) → StandsFor k acts → IsReady (phase_of k) → (gas : ℕ) (costs : Schedule) → (stands_after k (acts ++ go gas costs ∷ [])).standing ≢ out_of_gas → (at_last (next_at (plain_of k) k.state k.state.next (ahead gas costs []))).standing ≢ out_of_gas
some_gas k acts r ready gas costs some = subst (λ (s : Stands). s.standing ≢ out_of_gas) (goes k acts r ready gas costs []) some

pub returns : goal.returns
returns c = record {
  left = λ k acts gas more costs r ready some.
      goes k acts r ready (gas + more) costs []
      ∙ more_left more (plain_of k) k.state k.state.next gas costs (some_gas k acts r ready gas costs some)
      ∙ ap (with_more_left more) (sym (goes k acts r ready gas costs []));
  later = λ k acts later gas more costs r ready some.
      ap gas_aside (goes k acts r ready (gas + more) costs later)
      ∙ same_later more (plain_of k) k.state k.state.next gas costs later (some_gas k acts r ready gas costs some)
      ∙ ap gas_aside (sym (goes k acts r ready gas costs later));
}
