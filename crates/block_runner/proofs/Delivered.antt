-- A block that began and whose transactions ran was delivered.
use Rattle.std.proofs.Common.{◌≡◌, map, Option, refl}
use Rattle.std.specs.FinMap.{keys}
use Rattle.gas_meter.specs.declared.schedule.Schedule.{Schedule}
use Rattle.kv_layers.specs.declared.layers.Layers.{Layers}
use Rattle.kv_layers.specs.Delta.{IsDelta, delta_view}
use Rattle.kv_layers.specs.Layers.{Stands, HasCurrent}
use Rattle.kv_layers.specs.Maps.{Maps, new_maps, changed}
use Rattle.kv_layers.specs.Spelling.{Writes}
use Rattle.chain_records.specs.Spelled.{OfEach}
use Rattle.chain_records.specs.State.{Bytes, Spells}
use Rattle.chain_msgs.specs.Plain.{Block, result_view}
use Rattle.gatekeeper.specs.Cache.{Tally}
use Rattle.submsg_dispatch.specs.Blocks.{begun, block}
use Rattle.submsg_dispatch.specs.Reaching.{RunsAll}
use Rattle.block_runner.specs.declared.blocks.BlockDone.{BlockDone}
use Rattle.block_runner.specs.Delivering.{Delivers}
use Rattle.block_runner.proofs.Beginning.{begun_lawful}

module _ {B : Type 0} {S : B → Bytes → Type 0} where
  pub delivers : (base : B) (first started last : Layers B) (costs : Schedule) (before after : Option Tally) (b : Block) (done : BlockDone) → ((map : Bytes) → S base map → Stands S first (new_maps map)) → Writes Spells S first started (λ s. begun s b.time)
      → RunsAll S started last before after costs b.txs (map result_view done.results.items) → OfEach (HasCurrent S last) (λ s. done.pins.items ≡ keys s.pins) → ((maps : Maps) → Stands S last maps → IsDelta maps.base (delta_view done.delta) maps.current)
      → Delivers (S base) costs before after b done
  unfolding block
  delivers base first started last costs before after b done new begins runs pins delta old s is spelled lawful =
      let written = begins (new_maps old) s (new old is) spelled in
      let maps = changed (new_maps old) written.0 in
      let did = runs maps (begun s b.time) written.1 written.2 (begun_lawful s b.time lawful) in
      let arrives = did.0 in
      record {
        new = arrives.map;
        delta = delta (changed maps arrives.map) arrives.stands;
        spelled = arrives.spelled;
        lawful = arrives.lawful;
        facts = arrives.facts;
        results = did.1;
        pins = pins arrives.map _ (changed maps arrives.map, arrives.stands, refl) arrives.spelled;
        fetched = did.2;
      }
