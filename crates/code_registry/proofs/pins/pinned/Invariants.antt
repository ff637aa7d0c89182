-- What was found so far are the pinned ids before the one that is next looked from, and they aren't more than these.
use Rattle.std.proofs.Common.{◌≡◌, ℕ, ◌-◌, ◌≤◌, ◌^◌, ◌++◌, length}
use Rattle.std.specs.FinMap.{entries, keys}
use Rattle.chain_records.specs.Keys.{key_bytes, counters}
use Rattle.chain_records.specs.Spelled.{OfEach}
use Rattle.code_registry.specs.Steps.{IsPlace}
use Rattle.code_registry.proofs.Ids.{rest_of}
use Rattle.code_registry.proofs.pins.pinned.Given as goal

abbrev pub invariant-pins : goal.invariant-pins
invariant-pins g l = record {
  hi : l.hi.items ≡ key_bytes counters;
  lo : (from : ℕ)
      × IsPlace l.lo.items from
      × (length l.ids.items ≤ from)
      × OfEach (g.B.Base.stands_for l.fn.view) (λ s. keys s.pins ≡ l.ids.items ++ rest_of from (entries s.pins));
}

abbrev pub decreases-pins : goal.decreases-pins
decreases-pins g l = 2 ^ 64 - length l.ids.items
