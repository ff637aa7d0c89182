-- Not for readers of contracts: it serves the proofs of this crate alone.
-- Why a run ends before the end of its input, and what it wrote until then.
use Rattle.std.specs.Prelude.{◌≡◌, ◌≢◌, ℕ, List, Option, None, Some, IfSome}
use Rattle.std.specs.List.{concat}
use Rattle.std.specs.Io.KnownBytes.{Appends, Consumes, Keeps}
use Rattle.outside_io.specs.Pieces.{AppendsFront}
use Rattle.line_protocol.specs.declared.line.ParseStop.{ParseStop}
use Rattle.line_protocol.specs.declared.line.ParseStop.TheVariants as parses
use Rattle.line_protocol.specs.declared.lines.LineStop.{LineStop}
use Rattle.line_protocol.specs.declared.lines.LineStop.TheVariants as lines
use Rattle.wasmnode.specs.declared.stop.Stop.{Stop}
use Rattle.wasmnode.specs.declared.stop.Stop.TheVariants.{Bad, NoMemory, ReadFault, WriteFault}
use Rattle.wasmnode.specs.declared.status.Status.{Status}
use Rattle.wasmnode.specs.declared.status.Status.TheVariants as statuses
use Rattle.wasmnode.specs.Reading.{reading, bad_of}
use Rattle.wasmnode.specs.Reading as model
use Rattle.wasmnode.specs.Run.{answers_of}
use Rattle.wasmnode.specs.Statuses.{Writes, WritesSome, WritesFinished, WritesFront}

abbrev pub stop_of_line : LineStop → Stop
stop_of_line (lines.Bad number kind) = Bad number kind
stop_of_line lines.ReadFault = ReadFault
stop_of_line lines.NoMemory = NoMemory

abbrev pub stop_of_parse : ℕ → ParseStop → Stop
stop_of_parse number (parses.Bad kind) = Bad number kind
stop_of_parse number parses.NoMemory = NoMemory

-- these bytes were answered up to this bad line, or have none
abbrev pub Answers : ℕ → List ℕ → Option (List ℕ) → Option (List ℕ) → Option model.Bad → Type 0
Answers keep bytes old new bad = (bad_of (reading bytes) ≡ bad) × Appends old new (concat (answers_of keep (reading bytes)))

abbrev pub Answered : ℕ → Option (List ℕ) → Option (List ℕ) → Option (List ℕ) → Type 0
Answered keep left old new = IfSome left (λ input. Answers keep input old new None)

-- an input was answered up to this bad line, and so was what was taken of it
abbrev pub AnswersBad : ℕ → Option (List ℕ) → Option (List ℕ) → Option (List ℕ) → Option (List ℕ) → model.Bad → Type 0
AnswersBad keep before after old new bad =
    IfSome before (λ input. Answers keep input old new (Some bad) × (taken : List ℕ) × Consumes (Some input) after taken × Answers keep taken old new (Some bad))

-- what was written where a run stopped so
abbrev pub Halts : ℕ → Option (List ℕ) → Option (List ℕ) → Option (List ℕ) → Option (List ℕ) → Stop → Type 0
Halts keep before after old new (Bad number kind) = AnswersBad keep before after old new (record { kind = kind; line = number })
Halts keep before after old new NoMemory = WritesSome keep before old new
Halts keep before after old new ReadFault = WritesFinished keep before after old new
Halts keep before after old new WriteFault = WritesFront keep before after old new

-- what was written where a run ended so
abbrev pub Ends : ℕ → Option (List ℕ) → Option (List ℕ) → Option (List ℕ) → Option (List ℕ) → Status → Type 0
Ends keep before after old new statuses.Done = Writes keep before old new (λ bad. bad ≡ None)
Ends keep before after old new statuses.Usage = ⊥
Ends keep before after old new statuses.BadLine = Writes keep before old new (λ bad. bad ≢ None)
Ends keep before after old new statuses.NoMemory = WritesSome keep before old new
Ends keep before after old new statuses.ReadFault = WritesFinished keep before after old new
Ends keep before after old new statuses.WriteFault = WritesFront keep before after old new

-- what was added of the text of a bad line: all, none where memory was wanting, or a front
abbrev pub Refuses : List ℕ → Option (List ℕ) → Option (List ℕ) → Status → Type 0
Refuses text old new statuses.BadLine = Appends old new text
Refuses text old new statuses.NoMemory = Keeps old new
Refuses text old new statuses.WriteFault = AppendsFront old new text
Refuses text old new statuses.Done = ⊥
Refuses text old new statuses.Usage = ⊥
Refuses text old new statuses.ReadFault = ⊥
