-- What the call `genesis` answers, where this is what the genesis opens a chain with.
use Rattle.std.specs.Prelude.{ℕ, ◌≡◌, List, Option, Some, Result, Ok, Err, ⊤}
use Rattle.chain_records.specs.State.{Bytes, State, Spells}
use Rattle.chain_msgs.specs.Plain.{Genesis}
use Rattle.block_runner.specs.declared.stop.GenesisStop.{GenesisStop}
use Rattle.block_runner.specs.declared.stop.GenesisStop.TheVariants as stops
use Rattle.query_router.specs.Lawful.{IsLawful}
use Rattle.block_runner.specs.Opening.{Fault, bad_address, bad_coins, bad_supply, optional_address, facts_of}

-- the stop is the first fault; want of memory says nothing
abbrev pub Stops : GenesisStop → Result State Fault → Type 0
Stops stops.Address opened = opened ≡ Err bad_address
Stops stops.Coins opened = opened ≡ Err bad_coins
Stops stops.Supply opened = opened ≡ Err bad_supply
Stops stops.NoMemory opened = ⊤

-- The records spell exactly the state that the genesis opens a chain with, which is lawful. Its facts are those of the genesis,
-- with the address that its authority names.
pub record IsOpened (g : Genesis) (plain : Bytes) (opened : Result State Fault) : Type 0 where
  pub state : State
  pub opens : opened ≡ Ok state
  pub spelled : Spells plain state
  pub lawful : IsLawful state
  pub authority : Option (List ℕ)
  pub named : optional_address g.prefix g.authority ≡ Some authority
  pub facts : state.facts ≡ facts_of g authority

abbrev pub Opens : Genesis → Result Bytes GenesisStop → Result State Fault → Type 0
Opens g (Ok plain) opened = IsOpened g plain opened
Opens g (Err stop) opened = Stops stop opened
