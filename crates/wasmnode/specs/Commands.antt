-- Not for readers of contracts: it serves the proofs of this crate alone.
-- What reading the words says of them.
use Rattle.std.specs.Prelude.{◌≡◌, ℕ, List, map, string_bytes, Option, Some, None, Result, Ok, Err}
use Rattle.wasmnode.specs.declared.options.Options.{Options}
use Rattle.wasmnode.specs.declared.words.Command as commands
use Rattle.wasmnode.specs.declared.words.Command.TheVariants.{Serial, Check}
use Rattle.wasmnode.specs.declared.words.WordsFault.{WordsFault}
use Rattle.wasmnode.specs.declared.words.WordsFault.TheVariants as faults
use Rattle.wasmnode.specs.Words.{Command, run_serial, check_code}

abbrev pub command : commands.Command → Options → Command
command Serial options = run_serial
command Check options = check_code (map string_bytes options.caps.items)

-- memory is wanted for a list of capabilities alone
abbrev pub IsChecking : Option Command → Type 0
IsChecking c = (caps : List (List ℕ)) × (c ≡ Some (check_code caps))

abbrev pub Reads : Result (commands.Command × Options) WordsFault → Option Command → Type 0
Reads (Ok c) wanted = wanted ≡ Some (command c.0 c.1)
Reads (Err faults.Usage) wanted = wanted ≡ None
Reads (Err faults.NoMemory) wanted = IsChecking wanted
