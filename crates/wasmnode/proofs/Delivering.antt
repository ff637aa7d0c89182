-- A chain that stands for a history, and a block that was delivered on its newest state.
use Rattle.std.proofs.Common.{◌≡◌, ◌∙◌, ℕ, ◌+◌, ◌<◌, ◌≤◌, ◌^◌, List, [], ◌∷◌, ◌++◌, sym, ap, subst, refl, arith}
use Rattle.circular_buffer.specs.Buffer.{Buffer, buffer, keep_last}
use Rattle.chain_msgs.specs.Plain.{Block, TxResult}
use Rattle.state_runs.specs.Runs.{Run, map_of}
use Rattle.submsg_dispatch.specs.Blocks.{next_facts}
use Rattle.block_runner.specs.Delivering.{HasNextHeight}
use Rattle.line_protocol.specs.Texts.{next_digest}
use Rattle.wasmnode.specs.declared.chain.Chain as chain_type
use Rattle.wasmnode.specs.Chain.{Chain, block_on, block_digest, next_height}
use Rattle.wasmnode.specs.History.{History, newest, chain_of, state_of, chain_next, with_block}
use Rattle.wasmnode.specs.Kept.{Keeps}
use Rattle.wasmnode.specs.Standing.{Shows, HasFacts, StandsFor}
use Rattle.wasmnode.proofs.Histories.{newest-with_block, earlier, latest, facts_more}
use Rattle.wasmnode.proofs.Keeping.{with_newest}

-- the newest state can have a block more
pub has_next : (query_gas : ℕ) (h : History) (base : List Run) → Shows base (state_of h (newest h)) → HasFacts query_gas h → newest h + 1 < 2 ^ 64 → HasNextHeight (λ map. map_of base ≡ map)
has_next query_gas h base shows has low =
    let height = has.heights (newest h) (omega arith) in
    record {
      map = map_of base;
      state = state_of h (newest h);
      stands = refl;
      spelled = shows.spelled;
      holds = (shows.lawful, omega (arith, low, height));
    }

-- the height, the results and the digests of a block on the newest state of a history
pub record IsTold (h : History) (b : Block) (height : ℕ) (last : List ℕ) (results : List TxResult) (digest : List ℕ) : Type 0 where
  pub height_is : height ≡ newest h + 1
  pub state_height : (state_of h (newest h)).facts.height ≡ newest h
  pub last_is : last ≡ (chain_of h (newest h)).digest
  pub results_are : results ≡ (block_on (chain_of h (newest h)) b).results
  pub digest_is : digest ≡ next_digest last height results

height_told : (h : History) (b : Block) (height : ℕ) (last : List ℕ) (results : List TxResult) (digest : List ℕ) → IsTold h b height last results digest → height ≡ next_height (chain_of h (newest h))
height_told h b height last results digest is = is.height_is ∙ ap (λ n. n + 1) (sym is.state_height)

pub digest_told : (h : History) (b : Block) (height : ℕ) (last : List ℕ) (results : List TxResult) (digest : List ℕ) → IsTold h b height last results digest → digest ≡ block_digest (chain_of h (newest h)) b
digest_told h b height last results digest is =
    let before = chain_of h (newest h) in
    is.digest_is ∙ ap (λ d. next_digest d height results) is.last_is ∙ ap (λ n. next_digest before.digest n results) (height_told h b height last results digest is)
    ∙ ap (next_digest before.digest (next_height before)) is.results_are

-- the state after the block stands last among those that are kept
pub kept_more : (keep : ℕ) (h : History) (b : Block) (old new : Buffer (List Run)) (runs : List Run) → Keeps (λ height x. Shows x (state_of h height)) keep (newest h) old → Shows runs (block_on (chain_of h (newest h)) b).state → new ≡ buffer (keep_last old.capacity (old.items ++ runs ∷ [])) old.capacity → Keeps (λ height x. Shows x (state_of (with_block h b) height)) keep (newest (with_block h b)) new
kept_more keep h b old new runs kept shows is =
    let P : ℕ → List Run → Type 0 = λ height x. Shows x (state_of h height) in
    let Q : ℕ → List Run → Type 0 = λ height x. Shows x (state_of (with_block h b) height) in
    let still : (height : ℕ) (x : List Run) → height ≤ newest h → P height x → Q height x =
    λ height x low s. subst (λ (c : Chain). Shows x c.state) (sym (earlier h b height low)) s in
    let last : Q (newest h + 1) runs = subst (λ (c : Chain). Shows runs c.state) (sym (latest h b)) shows in
    subst (λ n. Keeps Q keep n new) (sym (newest-with_block h b)) (subst (Keeps Q keep (newest h + 1)) (sym is) (with_newest P Q keep (newest h) old runs kept still last))

-- what the delivery of a block leaves
pub record IsLeft (h : History) (b : Block) (old new : chain_type.Chain) (runs : List Run) : Type 0 where
  pub shows : Shows runs (block_on (chain_of h (newest h)) b).state
  pub facts : (block_on (chain_of h (newest h)) b).state.facts ≡ next_facts (state_of h (newest h)).facts b.time
  pub heights : new.heights ≡ buffer (keep_last old.heights.capacity (old.heights.items ++ runs ∷ [])) old.heights.capacity
  pub height : new.height ≡ old.height + 1
  pub digest : new.digest ≡ block_digest (chain_of h (newest h)) b
  pub query_gas : new.query_gas ≡ old.query_gas

pub stands_more : (keep : ℕ) (h : History) (b : Block) (old new : chain_type.Chain) (runs : List Run) → StandsFor keep old h → IsLeft h b old new runs → StandsFor keep new (with_block h b)
stands_more keep h b old new runs stands left =
    let more = newest-with_block h b in
    let last : chain_of (with_block h b) (newest (with_block h b)) ≡ chain_next (chain_of h (newest h)) b = ap (chain_of (with_block h b)) more ∙ latest h b in
    record {
      height = left.height ∙ ap (λ n. n + 1) stands.height ∙ sym more;
      digest = left.digest ∙ sym (ap (λ (c : Chain). c.digest) last);
      kept = kept_more keep h b old.heights new.heights runs stands.kept left.shows left.heights;
      facts = subst (λ gas. HasFacts gas (with_block h b)) (sym left.query_gas) (facts_more old.query_gas h b stands.facts left.facts);
    }
