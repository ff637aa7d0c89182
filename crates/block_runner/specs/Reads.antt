-- Not for readers of contracts: it serves the proofs of this crate alone.
-- What a reader of a part of a genesis answers.
use Rattle.std.specs.Prelude.{◌≡◌, Option, None, Some, Result, Ok, Err, ⊤}
use Rattle.block_runner.specs.declared.stop.GenesisStop.{GenesisStop}
use Rattle.block_runner.specs.declared.stop.GenesisStop.TheVariants as stops
use Rattle.block_runner.specs.Opening.{Fault, bad_address, bad_coins, bad_supply}

-- there is nothing to read, and that is the fault; want of memory says nothing
abbrev pub IsUnread : {A : Type 0} → Fault → GenesisStop → Option A → Type 0
IsUnread fault stops.Address form = (fault ≡ bad_address) × (form ≡ None)
IsUnread fault stops.Coins form = (fault ≡ bad_coins) × (form ≡ None)
IsUnread fault stops.Supply form = (fault ≡ bad_supply) × (form ≡ None)
IsUnread fault stops.NoMemory form = ⊤

-- what is there to read, or that there is nothing, which is this fault
abbrev pub Reads : {X A : Type 0} → Fault → (X → A) → Result X GenesisStop → Option A → Type 0
Reads fault view (Ok x) form = form ≡ Some (view x)
Reads fault view (Err stop) form = IsUnread fault stop form
