-- What the call `run_block` gives.
use Rattle.std.specs.Prelude.{◌≡◌, ◌+◌, ◌<◌, ◌^◌, map, Option}
use Rattle.std.specs.FinMap.{keys}
use Rattle.gas_meter.specs.declared.schedule.Schedule.{Schedule}
use Rattle.kv_layers.specs.Delta.{IsDelta, delta_view}
use Rattle.chain_records.specs.State.{Bytes, State, Spells}
use Rattle.chain_records.specs.Spelled.{OfSome}
use Rattle.chain_msgs.specs.Plain.{Block, result_view}
use Rattle.gatekeeper.specs.Cache.{Tally}
use Rattle.gatekeeper.specs.Fetches.{Tallies}
use Rattle.query_router.specs.Lawful.{IsLawful}
use Rattle.submsg_dispatch.specs.Blocks.{next_facts, block}
use Rattle.block_runner.specs.declared.blocks.BlockDone.{BlockDone}

-- one of the maps spells a lawful state, of a height that isn't the last one
abbrev pub HasNextHeight : (Bytes → Type 0) → Type 0
HasNextHeight S = OfSome S (λ s. IsLawful s × (s.facts.height + 1 < 2 ^ 64))

-- The changes lead exactly from the map of a state to one that spells the state after the block, which is lawful again. The
-- results are the block's, the pins are those of its state, and its codes were fetched in order.
pub record IsDelivered (costs : Schedule) (before after : Option Tally) (b : Block) (old : Bytes) (s : State) (done : BlockDone) : Type 0 where
  pub new : Bytes
  pub delta : IsDelta old (delta_view done.delta) new
  pub spelled : Spells new (block costs s b).state
  pub lawful : IsLawful (block costs s b).state
  pub facts : (block costs s b).state.facts ≡ next_facts s.facts b.time
  pub results : map result_view done.results.items ≡ (block costs s b).results
  pub pins : done.pins.items ≡ keys (block costs s b).state.pins
  pub fetched : Tallies before (block costs s b).fetched after

-- for each lawful state that one of the maps spells
abbrev pub Delivers : (Bytes → Type 0) → Schedule → Option Tally → Option Tally → Block → BlockDone → Type 0
Delivers S costs before after b done = (old : Bytes) (s : State) → S old → Spells old s → IsLawful s → IsDelivered costs before after b old s done
