-- Not for readers of contracts: it serves the proofs of this crate alone.
-- Which history a chain in the node stands for.
use Rattle.std.specs.Prelude.{ℕ, ◌≡◌, ◌+◌, ◌≤◌, List, length, Result, Ok, Err}
use Rattle.chain_records.specs.State.{State, Spells}
use Rattle.chain_msgs.specs.Plain.{Genesis}
use Rattle.state_runs.specs.Runs.{Run, map_of}
use Rattle.query_router.specs.Lawful.{IsLawful}
use Rattle.block_runner.specs.Opening.{Fault}
use Rattle.block_runner.specs.Answers.{Stops}
use Rattle.block_runner.specs.declared.stop.GenesisStop.{GenesisStop}
use Rattle.wasmnode.specs.declared.chain.Chain as chain_type
use Rattle.wasmnode.specs.History.{History, begun, newest, chain_of, state_of}
use Rattle.wasmnode.specs.Kept.{Keeps}
use Rattle.wasmnode.specs.Merging.{most_runs}

-- a snapshot of these runs, of which there are few, is that of the state, which is lawful
pub record Shows (runs : List Run) (s : State) : Type 0 where
  pub spelled : Spells (map_of runs) s
  pub lawful : IsLawful s
  pub few : length runs ≤ most_runs + 1

-- each state has its height, and a query has the same gas on all
pub record HasFacts (query_gas : ℕ) (h : History) : Type 0 where
  pub heights : (k : ℕ) → k ≤ newest h → (state_of h k).facts.height ≡ k
  pub limits : (k : ℕ) → k ≤ newest h → (state_of h k).facts.query_gas ≡ query_gas

-- it has a snapshot of each height that is kept, and the digest of the newest block
pub record StandsFor (keep : ℕ) (chain : chain_type.Chain) (h : History) : Type 0 where
  pub height : chain.height ≡ newest h
  pub digest : chain.digest ≡ (chain_of h (newest h)).digest
  pub kept : Keeps (λ height runs. Shows runs (state_of h height)) keep (newest h) chain.heights
  pub facts : HasFacts chain.query_gas h

-- there is a history that it stands for
abbrev pub IsChain : chain_type.Chain → Type 0
IsChain chain = (keep : ℕ) × (h : History) × StandsFor keep chain h

-- this holds of each history that it stands for, and of how many heights are kept
abbrev pub OfChain : chain_type.Chain → (ℕ → History → Type 0) → Type 0
OfChain chain P = (keep : ℕ) (h : History) → StandsFor keep chain h → P keep h

-- what a genesis opens, or the first of its faults
abbrev pub OpensAs : ℕ → Genesis → Result chain_type.Chain GenesisStop → Result State Fault → Type 0
OpensAs keep g (Ok chain) (Ok s) = StandsFor keep chain (begun (record { genesis = g; state = s }))
OpensAs keep g (Ok chain) (Err fault) = ⊥
OpensAs keep g (Err stop) opened = Stops stop opened
