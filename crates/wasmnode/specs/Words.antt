-- The words that the program takes, and what it says of others.
use Rattle.std.specs.Prelude.{ℕ, ◌&&◌, ◌==◌, not, filter, length, if◌then◌else◌, List, [], ◌∷◌, Option, Some, None, codes, Bool}
use Rattle.std.specs.List.{slice_split}
use Rattle.std.specs.Str.{bytes_eq}
use Rattle.wasmnode.specs.declared.status.Status.{Status}
use Rattle.wasmnode.specs.declared.status.Status.TheVariants as statuses

-- how many of the newest heights can be asked where no word says it
abbrev pub standard_keep : ℕ
standard_keep = 64

abbrev pub is_comma : ℕ → Bool
is_comma b = b == 44

-- the capabilities in a list with commas, in which empty parts are dropped
abbrev pub caps_of : List ℕ → List (List ℕ)
caps_of text = filter (λ part. not (length part == 0)) (slice_split is_comma text)

-- what the program is told to do: to run an input, or to check a code for a chain with these capabilities
pub data Command : Type 0 where
  run_serial : Command
  check_code : List (List ℕ) → Command

abbrev pub one_word : List ℕ → Option Command
one_word word =
    if bytes_eq word (codes "serial") then Some run_serial
    else (if bytes_eq word (codes "check") then Some (check_code []) else None)

abbrev pub three_words : List ℕ → List ℕ → List ℕ → Option Command
three_words word option text =
    if bytes_eq word (codes "check") && bytes_eq option (codes "--caps") then Some (check_code (caps_of text)) else None

-- `serial`, `check`, or `check --caps` and a list
abbrev pub command_of : List (List ℕ) → Option Command
command_of [] = None
command_of (word ∷ []) = one_word word
command_of (word ∷ option ∷ []) = None
command_of (word ∷ option ∷ text ∷ []) = three_words word option text
command_of (word ∷ option ∷ text ∷ other ∷ words) = None

abbrev pub usage_line : List ℕ
usage_line = codes "usage: wasmnode run|serial|check|gen N|soak N [options]\n"

-- the exit status of the program
abbrev pub number_of : Status → ℕ
number_of statuses.Done = 0
number_of statuses.Usage = 2
number_of statuses.BadLine = 3
number_of statuses.NoMemory = 4
number_of statuses.ReadFault = 5
number_of statuses.WriteFault = 6
