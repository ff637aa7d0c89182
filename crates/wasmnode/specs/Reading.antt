-- What an input says, line by line, up to the first bad line.
use Rattle.std.specs.Prelude.{ℕ, ◌+◌, List, [], ◌∷◌, Option, None, Some, Result, Ok, Err}
use Rattle.chain_records.specs.State.{State}
use Rattle.chain_msgs.specs.Plain.{Genesis, Block}
use Rattle.line_protocol.specs.declared.kind.BadKind.{BadKind}
use Rattle.line_protocol.specs.declared.kind.BadKind.TheVariants.{Order, Address, Coins, Supply, Missing}
use Rattle.line_protocol.specs.Forms.{Line, empty_line, genesis_line, block_line, query_line, Question, line_of}
use Rattle.line_protocol.specs.Lines.{Raw, raws_of, oversize}
use Rattle.block_runner.specs.Opening.{Fault, bad_address, bad_coins, bad_supply, opened}

-- ---- lines

-- what a line says to a run: nothing, something, or that it is bad
pub data Said (A : Type 0) : Type 0 where
  nothing : Said A
  says : A → Said A
  refused : BadKind → Said A

-- a genesis, and the state that it opens a chain with
pub record Opening : Type 0 where
  pub genesis : Genesis
  pub state : State

-- a block or a query, as it was read
pub data Entry : Type 0 where
  delivers : Block → Entry
  asks : Question → Entry

abbrev pub fault_kind : Fault → BadKind
fault_kind bad_address = Address
fault_kind bad_coins = Coins
fault_kind bad_supply = Supply

abbrev pub opened_by : Genesis → Result State Fault → Said Opening
opened_by g (Ok s) = says (record { genesis = g; state = s })
opened_by g (Err fault) = refused (fault_kind fault)

-- The first line that isn't empty is the genesis.
abbrev pub opening_in : Line → Said Opening
opening_in empty_line = nothing
opening_in (genesis_line g) = opened_by g (opened g)
opening_in (block_line b) = refused Order
opening_in (query_line q) = refused Order

-- Every later one is a block or a query.
abbrev pub entry_in : Line → Said Entry
entry_in empty_line = nothing
entry_in (genesis_line g) = refused Order
entry_in (block_line b) = says (delivers b)
entry_in (query_line q) = says (asks q)

abbrev pub read_as : {A : Type 0} → (Line → Said A) → Result Line BadKind → Said A
read_as in_line (Ok line) = in_line line
read_as in_line (Err kind) = refused kind

-- what is wrong with the size of a line comes before all else
abbrev pub unless_large : {A : Type 0} → Option BadKind → Said A → Said A
unless_large None said = said
unless_large (Some kind) said = refused kind

-- what the line of this number says, where so many bytes of the input stand before it
abbrev pub said_by : {A : Type 0} → (Line → Said A) → ℕ → ℕ → Raw → Said A
said_by in_line number before raw = unless_large (oversize before raw) (read_as in_line (line_of number raw.text))

-- ---- an input

-- a bad line: its kind and its number
pub record Bad : Type 0 where
  pub kind : BadKind
  pub line : ℕ

-- the entries after the genesis up to a bad line, and that line
pub record Rest : Type 0 where
  pub entries : List Entry
  pub bad : Option Bad

abbrev pub later : ℕ → Said Entry → Rest → Rest
later number nothing rest = rest
later number (says entry) rest = record { entries = entry ∷ rest.entries; bad = rest.bad }
later number (refused kind) rest = record { entries = []; bad = Some (record { kind = kind; line = number }) }

-- what the lines after a genesis say: the first has this number, and so many bytes stand before it
abbrev pub rest_of : ℕ → ℕ → List Raw → Rest
rest_of number before [] = record { entries = []; bad = None }
rest_of number before (raw ∷ raws) = later number (said_by entry_in number before raw) (rest_of (number + 1) (before + raw.size) raws)

-- an input up to its bad line, before a genesis or after it
pub data Reading : Type 0 where
  never : Bad → Reading
  opens : Opening → Rest → Reading

abbrev pub first : ℕ → Said Opening → Reading → Rest → Reading
first number nothing reading rest = reading
first number (says opening) reading rest = opens opening rest
first number (refused kind) reading rest = never (record { kind = kind; line = number })

-- what the lines up to the genesis and after it say; where there is none, it is missing at the end
abbrev pub reading_from : ℕ → ℕ → List Raw → Reading
reading_from number before [] = never (record { kind = Missing; line = number })
reading_from number before (raw ∷ raws) =
    first number (said_by opening_in number before raw) (reading_from (number + 1) (before + raw.size) raws) (rest_of (number + 1) (before + raw.size) raws)

unfoldable pub reading : List ℕ → Reading
reading input = reading_from 1 0 (raws_of input)

abbrev pub bad_of : Reading → Option Bad
bad_of (never bad) = Some bad
bad_of (opens opening rest) = rest.bad
