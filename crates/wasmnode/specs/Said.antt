-- Not for readers of contracts: it serves the proofs of this crate alone.
-- What the functions that read a line answer, by what the line says. Want of memory says nothing.
use Rattle.std.specs.Prelude.{◌≡◌, ℕ, Option, None, Some, Result, Ok, Err, ⊤}
use Rattle.chain_msgs.specs.Plain.{block_view}
use Rattle.line_protocol.specs.Plain.{question_view}
use Rattle.line_protocol.specs.declared.kind.BadKind.TheVariants.{Address, Coins, Supply}
use Rattle.line_protocol.specs.declared.line.ParseStop.{ParseStop}
use Rattle.line_protocol.specs.declared.line.ParseStop.TheVariants.{Bad, NoMemory}
use Rattle.block_runner.specs.declared.stop.GenesisStop.{GenesisStop}
use Rattle.block_runner.specs.declared.stop.GenesisStop.TheVariants as stops
use Rattle.wasmnode.specs.declared.entry.Entry as entry_type
use Rattle.wasmnode.specs.declared.entry.Entry.TheVariants as entries
use Rattle.wasmnode.specs.declared.entry.Start as start_type
use Rattle.wasmnode.specs.Chain.{genesis_answer}
use Rattle.wasmnode.specs.History.{begun}
use Rattle.wasmnode.specs.Reading.{Said, nothing, says, refused, Opening, Entry, delivers, asks}
use Rattle.wasmnode.specs.Standing.{StandsFor}

abbrev pub entry_view : entry_type.Entry → Entry
entry_view (entries.Block b) = delivers (block_view b)
entry_view (entries.Query q) = asks (question_view q)

-- what a genesis that opens no chain is to its line
abbrev pub kind_of : GenesisStop → ParseStop
kind_of stops.Address = Bad Address
kind_of stops.Coins = Bad Coins
kind_of stops.Supply = Bad Supply
kind_of stops.NoMemory = NoMemory

-- the chain of a start stands for what was opened, and the text answers its genesis
pub record IsStart (keep : ℕ) (start : start_type.Start) (o : Opening) : Type 0 where
  pub stands : StandsFor keep start.chain (begun o)
  pub text : start.text.items ≡ genesis_answer o.genesis

abbrev pub IsRefused : {A : Type 0} → ParseStop → Said A → Type 0
IsRefused (Bad kind) said = said ≡ refused kind
IsRefused NoMemory said = ⊤

abbrev pub SaysEntry : Result (Option entry_type.Entry) ParseStop → Said Entry → Type 0
SaysEntry (Ok None) said = said ≡ nothing
SaysEntry (Ok (Some entry)) said = said ≡ says (entry_view entry)
SaysEntry (Err stop) said = IsRefused stop said

abbrev pub OpensStart : ℕ → Result start_type.Start ParseStop → Said Opening → Type 0
OpensStart keep (Ok start) said = (o : Opening) × (said ≡ says o) × IsStart keep start o
OpensStart keep (Err stop) said = IsRefused stop said

abbrev pub SaysStart : ℕ → Result (Option start_type.Start) ParseStop → Said Opening → Type 0
SaysStart keep (Ok None) said = said ≡ nothing
SaysStart keep (Ok (Some start)) said = (o : Opening) × (said ≡ says o) × IsStart keep start o
SaysStart keep (Err stop) said = IsRefused stop said
