use Rattle.std.proofs.Common.{◌≡◌, sym, ◌∙◌, ap, List, [], ◌++◌}
use Rattle.std.proofs.lemmas.List.{append-nil}
use Rattle.wasm_types.specs.Plain.{plain_module}
use Rattle.wasm_machine.specs.declared.turn.Phase.TheVariants.{Spent}
use Rattle.wasm_machine.specs.declared.machine.Machine.{Machine}
use Rattle.wasm_machine.specs.Acts.{Act, Stands}
use Rattle.wasm_machine.specs.Exec.{at_last, exec}
use Rattle.wasm_machine.specs.Rests.{ahead}
use Rattle.wasm_machine.specs.Machine.{memory_of, rests_in, plain_of, stands_after, StandsFor}
use Rattle.wasm_machine.proofs.Standing.{rests_memory}
use Rattle.wasm_machine.proofs.laws.acts_tell_what_stands.Goals as goal

its_memory : (k : Machine) (acts : List Act) → StandsFor k acts → (stands_after k acts).memory ≡ memory_of k
unfolding StandsFor memory_of
its_memory k acts r =
    ap (λ (s : Stands). s.memory) (ap (exec (plain_of k)) (sym (append-nil acts)) ∙ r.goes_on [])
    ∙ rests_memory k.phase (plain_of k) k.state k.state.next r.standing r.left r.costs

stays : (k : Machine) (acts more : List Act) → StandsFor k acts → k.phase ≡ Spent → stands_after k (acts ++ more) ≡ stands_after k acts
unfolding StandsFor
stays k acts more r spent =
    r.goes_on more
    ∙ ap (λ p. at_last (rests_in p (plain_of k) k.state k.state.next r.standing (ahead r.left r.costs more))) spent
    ∙ ap (λ p. at_last (rests_in p (plain_of k) k.state k.state.next r.standing (ahead r.left r.costs []))) (sym spent)
    ∙ sym (r.goes_on []) ∙ ap (exec (plain_of k)) (append-nil acts)

pub returns : goal.returns
returns c = record {
  memory = λ one other acts same a b. sym (its_memory one acts a) ∙ ap (λ m. (exec (plain_module m) acts).memory) same ∙ its_memory other acts b;
  spent = λ k acts more r e. stays k acts more r e;
}
