-- How a run ends, and what it answers to the words.
use Rattle.std.specs.Prelude.{◌⊎◌, ℕ, List, codes, Option}
use Rattle.outside_io.specs.Pieces.{AppendsFront}
use Rattle.wasm_writer.specs.Spelling.{spelling_of}
use Rattle.sample_codes.specs.Samples.{Names, NamesNone, module_of}
use Rattle.sample_codes.specs.declared.sample.Sample.{Sample}
use Rattle.sample_codes.specs.declared.status.Status.{Status}
use Rattle.sample_codes.specs.declared.status.Status.TheVariants.{Done, Usage, NoMemory, WriteFault}

-- the exit status of the program
abbrev pub number_of : Status → ℕ
number_of Done = 0
number_of Usage = 2
number_of NoMemory = 4
number_of WriteFault = 6

abbrev pub usage_line : List ℕ
usage_line = codes "usage: sample_codes echo|spin|keeper|common|sign\n"

-- a front of the code of the sample that the words name was appended
abbrev pub AppendsFrontOfCode : List (List ℕ) → Option (List ℕ) → Option (List ℕ) → Type 0
AppendsFrontOfCode words old new = (sample : Sample) × Names words sample × AppendsFront old new (spelling_of (module_of sample))

-- or one of the usage, where they name none
abbrev pub AppendsFrontOfAnswer : List (List ℕ) → Option (List ℕ) → Option (List ℕ) → Type 0
AppendsFrontOfAnswer words old new = AppendsFrontOfCode words old new ⊎ (NamesNone words × AppendsFront old new usage_line)
