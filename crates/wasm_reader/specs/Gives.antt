-- Not for readers of contracts: it serves the proofs of this crate alone.
-- What a reader of a part answers: what reading the part gives, unless memory runs out.
use Rattle.std.specs.Prelude.{◌≡◌, ℕ, Bool, true, false, List, ◌++◌, Result, Ok, Err}
use Rattle.wasm_types.specs.Place.{Place, Reading, then_read}
use Rattle.wasm_types.specs.Number.{number_read}
use Rattle.wasm_types.specs.Part.{times_read}
use Rattle.wasm_types.specs.declared.instr.Instr.{Instr}
use Rattle.wasm_reader.specs.declared.stop.ReadStop.{ReadStop}
use Rattle.wasm_reader.specs.declared.stop.ReadStop.TheVariants.{Fault, NoMemory}

abbrev pub Fails : {Y : Type 0} → ReadStop → Reading Y → Type 0
Fails NoMemory read = Unit {0}
Fails (Fault at kind) read = read ≡ Err (record { at = at; kind = kind })

-- the value, seen by view, and the place after it
abbrev pub Gives : {X Y : Type 0} → (X → Y) → Result X ReadStop → Place → Reading Y → Type 0
Gives view (Ok x) after read = read ≡ Ok (view x, after)
Gives view (Err e) after read = Fails e read

-- ---- vectors

abbrev pub vector_read : {A : Type 0} → (Place → Reading A) → Place → Reading (List A)
vector_read read start = then_read (number_read false 32 start) (times_read read)

-- these items, and then those that are read
abbrev pub with_items : {A : Type 0} → List A → Reading (List A) → Reading (List A)
with_items front read = then_read read (λ items after. Ok (front ++ items, after))

-- ---- instructions

-- an instruction, and its labels behind these targets
abbrev pub adding : List ℕ → Reading (Instr × List ℕ) → Reading (Instr × List ℕ)
adding targets read = then_read read (λ x after. Ok ((x.0, targets ++ x.1), after))

-- ---- comparing

-- What a reader answers that compares what it reads with a value.
abbrev pub Compares : {Y : Type 0} → Y → Result Bool ReadStop → Place → Reading Y → Type 0
Compares y (Ok true) after read = read ≡ Ok (y, after)
Compares y (Ok false) after read = (end : Place) → read ≡ Ok (y, end) → ⊥
Compares y (Err e) after read = Fails e read
