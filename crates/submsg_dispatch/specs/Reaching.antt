-- What a call does to layers that stand for a lawful state, by the part of a transaction that it is.
use Rattle.std.specs.Prelude.{ℕ, ◌≡◌, List, Option, Result, Ok, Err, ⊤}
use Rattle.gas_meter.specs.declared.schedule.Schedule.{Schedule}
use Rattle.kv_layers.specs.declared.layers.Layers.{Layers}
use Rattle.kv_layers.specs.Layers.{Stands}
use Rattle.kv_layers.specs.Maps.{Maps, changed}
use Rattle.chain_records.specs.State.{Bytes, State, Spells}
use Rattle.gatekeeper.specs.Cache.{Tally}
use Rattle.gatekeeper.specs.Fetches.{Tallies}
use Rattle.chain_msgs.specs.Plain.{failure_view, Tx, TxResult}
use Rattle.query_router.specs.Lawful.{IsLawful}
use Rattle.submsg_dispatch.specs.declared.stop.HandleStop.{HandleStop}
use Rattle.submsg_dispatch.specs.declared.stop.HandleStop.TheVariants.{Failed, OutOfGas, NoMemory}
use Rattle.submsg_dispatch.specs.Parts.{Part, Ran, kept, failed, out_of_gas}
use Rattle.submsg_dispatch.specs.Transactions.{TxRan}
use Rattle.submsg_dispatch.specs.Blocks.{BlockRan, all_run}

-- the layers stand for a map that spells a lawful state of the same chain
pub record Arrives {B : Type 0} (S : B → Bytes → Type 0) (new : Layers B) (maps : Maps) (from to : State) : Type 0 where
  pub map : Bytes
  pub stands : Stands S new (changed maps map)
  pub spelled : Spells map to
  pub lawful : IsLawful to
  pub facts : to.facts ≡ from.facts

-- so much gas is left, and these codes were fetched in order
abbrev pub Leaves : {A : Type 0} → ℕ → Option Tally → Option Tally → Ran A → Type 0
Leaves left before after ran = (ran.left ≡ left) × Tallies before ran.fetched after

-- A part that is kept leads to its state, and one that fails or runs out of gas leaves the map as it was. Want of memory says nothing.
abbrev pub Comes : {B X A : Type 0} → (B → Bytes → Type 0) → Layers B → Maps → State → (X → A) → Result X HandleStop → Ran A → Type 0
Comes S new maps s view (Ok x) ran = (t : State) × Arrives S new maps s t × (ran.ended ≡ kept t (view x))
Comes S new maps s view (Err (Failed failure)) ran = Stands S new maps × (ran.ended ≡ failed (failure_view failure))
Comes S new maps s view (Err OutOfGas) ran = Stands S new maps × (ran.ended ≡ out_of_gas)
Comes S new maps s view (Err NoMemory) ran = ⊤

abbrev pub UnlessNoMemory : {X : Type 0} → Result X HandleStop → Type 0 → Type 0
UnlessNoMemory (Err NoMemory) P = ⊤
UnlessNoMemory _ P = P

-- for each map and lawful state that the layers stood for
abbrev pub Leads : {B X A : Type 0} → (B → Bytes → Type 0) → Layers B → Layers B → Option Tally → Option Tally → ℕ → ℕ → Part A → (X → A) → Result X HandleStop → Type 0
Leads S old new before after left_before left_after part view result =
    (maps : Maps) (s : State) → Stands S old maps → Spells maps.current s → IsLawful s
    → Comes S new maps s view result (part s left_before) × UnlessNoMemory result (Leaves left_after before after (part s left_before))

-- ---- transactions

-- For each map and lawful state that the layers stood for, they stand for that of the transaction. This is its result, and its
-- codes were fetched in order.
abbrev pub Runs : {B : Type 0} → (B → Bytes → Type 0) → Layers B → Layers B → Option Tally → Option Tally → (State → TxRan) → TxResult → Type 0
Runs S old new before after run result =
    (maps : Maps) (s : State) → Stands S old maps → Spells maps.current s → IsLawful s
    → Arrives S new maps s (run s).state × (result ≡ (run s).result) × Tallies before (run s).fetched after

-- the layers stand for each map that they stood for, where it spells a lawful state
abbrev pub Undoes : {B : Type 0} → (B → Bytes → Type 0) → Layers B → Layers B → Type 0
Undoes S old new = (maps : Maps) (s : State) → Stands S old maps → Spells maps.current s → IsLawful s → Stands S new maps

-- ---- all transactions of a block

-- For each map and lawful state that the layers stood for, they stand for that after all of them. These are the results, and the
-- codes were fetched in order.
abbrev pub RunsAll : {B : Type 0} → (B → Bytes → Type 0) → Layers B → Layers B → Option Tally → Option Tally → Schedule → List Tx → List TxResult → Type 0
RunsAll S old new before after costs txs results =
    (maps : Maps) (s : State) → Stands S old maps → Spells maps.current s → IsLawful s
    → Arrives S new maps s (all_run costs s 0 txs).state × (results ≡ (all_run costs s 0 txs).results) × Tallies before (all_run costs s 0 txs).fetched after
