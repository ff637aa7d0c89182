-- A history with one block more: earlier heights are as they were, and the newest is what the block does to the one before.
use Rattle.std.proofs.Common.{◌≡◌, ◌∙◌, ℕ, ◌+◌, ◌≤◌, ◌⊎◌, inl, inr, List, [], ◌∷◌, ◌++◌, length, take, fold, sym, ap, refl, arith, length-append}
use Rattle.std.proofs.lemmas.List.{take-append-le}
use Rattle.std.proofs.Math.Nat.{eq-or-lt_of_le}
use Rattle.std.proofs.Math.Seq.{take-append-add, take-length}
use Rattle.chain_msgs.specs.Plain.{Block}
use Rattle.chain_records.specs.Records.{PlainFacts}
use Rattle.submsg_dispatch.specs.Blocks.{next_facts, block}
use Rattle.chain_records.specs.State.{State}
use Rattle.gas_meter.specs.Costs.{standard_schedule}
use Rattle.line_protocol.specs.Texts.{first_digest}
use Rattle.wasmnode.specs.Chain.{Chain, block_on, block_digest, digest_after}
use Rattle.wasmnode.specs.History.{History, newest, chain_of, state_of, chain_next, with_block}
use Rattle.wasmnode.specs.Standing.{HasFacts}

pub newest-with_block : (h : History) (b : Block) → newest (with_block h b) ≡ newest h + 1
newest-with_block h b = length-append h.blocks (b ∷ [])

-- the chain after these blocks, the first of which comes on this state and after this digest
abbrev pub chain_over : State → List ℕ → List Block → Chain
chain_over start last blocks = record {
  state = fold (λ s b. (block standard_schedule s b).state) start blocks;
  digest = digest_after start last blocks;
}

over_more : (start : State) (last : List ℕ) (blocks : List Block) (b : Block) → chain_over start last (blocks ++ b ∷ []) ≡ chain_next (chain_over start last blocks) b
over_more start last [] b = refl
over_more start last (first ∷ blocks) b =
    let chain : Chain = record { state = start; digest = last } in
    over_more (block_on chain first).state (block_digest chain first) blocks b

pub earlier : (h : History) (b : Block) (k : ℕ) → k ≤ newest h → chain_of (with_block h b) k ≡ chain_of h k
earlier h b k low = ap (chain_over h.opening.state first_digest) (take-append-le k h.blocks (b ∷ []) low)

pub latest : (h : History) (b : Block) → chain_of (with_block h b) (newest h + 1) ≡ chain_next (chain_of h (newest h)) b
latest h b =
    let over = chain_over h.opening.state first_digest in
    let all : take (length h.blocks) h.blocks ≡ h.blocks = take-length h.blocks in
    ap over (take-append-add h.blocks (b ∷ []) 1) ∙ over_more h.opening.state first_digest h.blocks b ∙ ap (λ l. chain_next (over l) b) (sym all)

-- a height of the longer history is an earlier one or the newest
pub of_more : (h : History) (b : Block) (k : ℕ) → k ≤ newest (with_block h b) → (k ≡ newest h + 1) ⊎ (k ≤ newest h)
of_more h b k low =
    let more = newest-with_block h b in
    let top : k ≤ newest h + 1 = omega (arith, low, more) in
    elim (eq-or-lt_of_le top) [ inl e ↦ inl e | inr less ↦ inr (omega (arith, less)) ]

-- a block leaves all facts but height and time as they are
pub facts_more : (query_gas : ℕ) (h : History) (b : Block) → HasFacts query_gas h → (block_on (chain_of h (newest h)) b).state.facts ≡ next_facts (state_of h (newest h)).facts b.time → HasFacts query_gas (with_block h b)
facts_more query_gas h b has next =
    let last = latest h b in
    record {
      heights = λ k low.
          elim (of_more h b k low) as (λ _. (state_of (with_block h b) k).facts.height ≡ k) [
            | inl new ↦
                ap (λ i. (state_of (with_block h b) i).facts.height) new ∙ ap (λ (c : Chain). c.state.facts.height) last ∙ ap (λ (f : PlainFacts). f.height) next ∙ ap (λ n. n + 1) (has.heights (newest h) (omega arith)) ∙ sym new
            | inr old ↦ ap (λ (c : Chain). c.state.facts.height) (earlier h b k old) ∙ has.heights k old
          ];
      limits = λ k low.
          elim (of_more h b k low) as (λ _. (state_of (with_block h b) k).facts.query_gas ≡ query_gas) [
            | inl new ↦
                ap (λ i. (state_of (with_block h b) i).facts.query_gas) new ∙ ap (λ (c : Chain). c.state.facts.query_gas) last ∙ ap (λ (f : PlainFacts). f.query_gas) next ∙ has.limits (newest h) (omega arith)
            | inr old ↦ ap (λ (c : Chain). c.state.facts.query_gas) (earlier h b k old) ∙ has.limits k old
          ];
    }
