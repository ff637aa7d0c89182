-- What a run on one thread wrote, by its status. Each fact is of what a source told to have left before and after the run, and of
-- what a sink told to have; it says nothing where the source didn't tell.
use Rattle.std.specs.Prelude.{◌≡◌, ◌⊎◌, ℕ, List, [], ◌∷◌, take, Option, None, Some, IfSome, ⊤, ◌==◌, if◌then◌else◌}
use Rattle.std.specs.List.{list_any, concat}
use Rattle.std.specs.Io.KnownBytes.{Appends, Consumes}
use Rattle.outside_io.specs.Cause.{Rose}
use Rattle.outside_io.specs.Pieces.{AppendsFront}
use Rattle.line_protocol.specs.declared.kind.BadKind.TheVariants.{Missing}
use Rattle.line_protocol.specs.Lines.{line_feed}
use Rattle.wasmnode.specs.declared.status.Status.{Status}
use Rattle.wasmnode.specs.declared.status.Status.TheVariants.{Done, NoMemory}
use Rattle.wasmnode.specs.Reading.{Bad, Reading, never, opens, reading, bad_of}
use Rattle.wasmnode.specs.Run.{answers_of, texts_of}

-- all texts were added; of the input's bad line, or that there is none, this holds
abbrev pub Writes : ℕ → Option (List ℕ) → Option (List ℕ) → Option (List ℕ) → (Option Bad → Type 0) → Type 0
Writes keep left old new P = IfSome left (λ input. P (bad_of (reading input)) × Appends old new (concat (texts_of keep input)))

-- whole texts were added: those of the first lines
abbrev pub WritesSome : ℕ → Option (List ℕ) → Option (List ℕ) → Option (List ℕ) → Type 0
WritesSome keep left old new = IfSome left (λ input. (some : ℕ) × Appends old new (concat (take some (texts_of keep input))))

-- the bytes of the lines that a line feed ends
abbrev pub finished : List ℕ → List ℕ
finished [] = []
finished (b ∷ bytes) = if list_any (λ c. c == line_feed) (b ∷ bytes) then b ∷ finished bytes else []

-- no line is bad; that a genesis is still missing isn't
abbrev pub HasNoBadLine : Reading → Type 0
HasNoBadLine (never bad) = bad.kind ≡ Missing
HasNoBadLine (opens opening rest) = rest.bad ≡ None

-- the texts were added of exactly the lines that were finished in what was taken of the source
abbrev pub WritesFinished : ℕ → Option (List ℕ) → Option (List ℕ) → Option (List ℕ) → Option (List ℕ) → Type 0
WritesFinished keep before after old new =
    IfSome before (λ input. (taken : List ℕ) × Consumes (Some input) after taken × HasNoBadLine (reading (finished taken)) × Appends old new (concat (answers_of keep (reading (finished taken)))))

-- a front was added of the texts, and of those over what was taken of the source
abbrev pub WritesFront : ℕ → Option (List ℕ) → Option (List ℕ) → Option (List ℕ) → Option (List ℕ) → Type 0
WritesFront keep before after old new =
    IfSome before (λ input. AppendsFront old new (concat (texts_of keep input)) × (taken : List ℕ) × Consumes (Some input) after taken × AppendsFront old new (concat (texts_of keep taken)))

-- where the input has no bad line and neither count rose, the run was done or wanted memory
abbrev pub IsComplete : Option (List ℕ) → ℕ → ℕ → ℕ → ℕ → Status → Type 0
IsComplete None reads_before reads_after writes_before writes_after status = ⊤
IsComplete (Some input) reads_before reads_after writes_before writes_after status =
    bad_of (reading input) ≡ None → ¬ Rose reads_before reads_after → ¬ Rose writes_before writes_after → (status ≡ Done) ⊎ (status ≡ NoMemory)
