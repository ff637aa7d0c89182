-- The chain that stands for the state that a genesis opens it with.
use Rattle.std.proofs.Common.{◌≡◌, ◌∙◌, ℕ, ◌≤◌, List, [], ◌∷◌, Option, sym, ap, subst, arith}
use Rattle.chain_records.specs.Records.{PlainFacts}
use Rattle.chain_records.specs.State.{State}
use Rattle.chain_msgs.specs.Plain.{Genesis}
use Rattle.circular_buffer.specs.Buffer.{buffer, keep_last}
use Rattle.state_runs.specs.Runs.{Run}
use Rattle.block_runner.specs.Opening.{facts_of}
use Rattle.line_protocol.specs.Texts.{first_digest}
use Rattle.wasmnode.specs.declared.chain.Chain as chain_type
use Rattle.wasmnode.specs.History.{begun, state_of}
use Rattle.wasmnode.specs.Kept.{Keeps}
use Rattle.wasmnode.specs.Standing.{Shows, StandsFor}
use Rattle.wasmnode.proofs.Keeping.{with_first}

-- the chain that a genesis opens stands for what it opens
pub stands_first : (keep : ℕ) (g : Genesis) (s : State) (authority : Option (List ℕ)) (runs : List Run) (new : chain_type.Chain) → 1 ≤ keep → s.facts ≡ facts_of g authority → Shows runs s → new.heights ≡ buffer (keep_last keep (runs ∷ [])) keep → new.height ≡ 0 → new.digest ≡ first_digest → new.query_gas ≡ g.query_gas → StandsFor keep new (begun (record { genesis = g; state = s }))
stands_first keep g s authority runs new some facts shows heights height digest query_gas =
    let h = begun (record { genesis = g; state = s }) in
    let P : ℕ → List Run → Type 0 = λ height x. Shows x (state_of h height) in
    record {
      height = height;
      digest = digest;
      kept = subst (Keeps P keep 0) (sym heights) (with_first P keep runs some shows);
      facts = record {
        heights = λ k low.
            let none : k ≡ 0 = omega (arith, low) in
            ap (λ i. (state_of h i).facts.height) none ∙ ap (λ (f : PlainFacts). f.height) facts ∙ sym none;
        limits = λ k low.
            let none : k ≡ 0 = omega (arith, low) in
            ap (λ i. (state_of h i).facts.query_gas) none ∙ ap (λ (f : PlainFacts). f.query_gas) facts ∙ sym query_gas;
      };
    }
