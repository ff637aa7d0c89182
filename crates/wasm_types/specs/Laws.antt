-- What follows from the definitions of what bytes spell and where they break.
use Rattle.std.specs.Prelude.{◌≡◌, ◌≢◌, ℕ, ◌^◌, ◌<◌, ◌↔◌, Bool, false, List, [], ◌∷◌, ◌++◌, length, All, Some, None, Ok, Err}
use Rattle.wasm_types.specs.declared.kind.ReadKind.TheVariants.{Cut, Magic, Nesting, Count}
use Rattle.wasm_types.specs.Plain.{PlainCode, PlainModule}
use Rattle.wasm_types.specs.Place.{Place, Broken, breaks}
use Rattle.wasm_types.specs.Number.{IsCutNumber, number_read}
use Rattle.wasm_types.specs.Part.{exactly, next_read, index, length_read}
use Rattle.wasm_types.specs.Body.{opcode}
use Rattle.wasm_types.specs.Nesting.{Nests}
use Rattle.wasm_types.specs.ModuleText.{header, input_end, AreBytes, IsModule, HasSpelling, module_of, broken}

-- bytes spell at most one module
abbrev pub SpellsOnce : Type 0
SpellsOnce = (bytes : List ℕ) (m n : PlainModule) → IsModule bytes m → IsModule bytes n → m ≡ n

-- the module of bytes is the one that they spell
abbrev pub IsTheSpelled : Type 0
IsTheSpelled = (bytes : List ℕ) (m : PlainModule) → AreBytes bytes → (module_of bytes ≡ Some m) ↔ IsModule bytes m

-- bytes break nowhere exactly where they spell some module
abbrev pub BreaksOrSpells : Type 0
BreaksOrSpells = (bytes : List ℕ) → AreBytes bytes → (broken bytes ≡ None) ↔ ((m : PlainModule) × IsModule bytes m)

-- the bytes are a front of these, and not all of them
abbrev pub IsProperFront : List ℕ → List ℕ → Type 0
IsProperFront bytes word = (more : List ℕ) × (0 < length more) × (word ≡ bytes ++ more)

-- where a body ends and an instruction is wanted, it is the nesting that is wrong
abbrev pub WantsInstruction : Type 0
WantsInstruction = (may_else : Bool) (at : ℕ) → (opcode may_else).read (record { at = at; rest = [] }) ≡ breaks at Nesting

-- where the input ends, the numbers of functions and codes differ
abbrev pub WantsSameCount : Type 0
WantsSameCount = (funcs codes at : ℕ) → funcs ≢ codes → (input_end funcs codes).read (record { at = at; rest = [] }) ≡ breaks at Count

-- a number is cut exactly where the bytes up to the end of what holds it are a proper front of a spelling
abbrev pub CutsNumber : Type 0
CutsNumber = (signed : Bool) (bits : ℕ) (start : Place) (fault : Broken) → number_read signed bits start ≡ Err fault → (fault.at ≡ start.at) × ((fault.kind ≡ Cut) ↔ IsCutNumber signed bits start.rest)

-- and so is the header
abbrev pub CutsHeader : Type 0
CutsHeader = (start : Place) (fault : Broken) → (exactly header Magic).read start ≡ Err fault → (fault.at ≡ start.at) × ((fault.kind ≡ Cut) ↔ IsProperFront start.rest header)

-- a byte is cut where none is left
abbrev pub CutsByte : Type 0
CutsByte = (at : ℕ) → next_read Cut (record { at = at; rest = [] }) ≡ breaks at Cut

-- a length is cut where fewer bytes follow it
abbrev pub CutsLength : Type 0
CutsLength = (start after : Place) (n : ℕ) → index.read start ≡ Ok (n, after) → length after.rest < n → length_read start ≡ breaks start.at Cut

abbrev pub AreFew : {A : Type 0} → List A → Type 0
AreFew items = length items < 2 ^ 32

-- what a module that bytes spell has besides: as many functions as codes, fewer than 2^32 items in each list, and bodies that close
-- just the blocks that they open
pub record IsShaped (m : PlainModule) : Type 0 where
  pub as_many : length m.funcs ≡ length m.codes
  pub types : AreFew m.types
  pub imports : AreFew m.imports
  pub funcs : AreFew m.funcs
  pub tables : AreFew m.tables
  pub memories : AreFew m.memories
  pub globals : AreFew m.globals
  pub exports : AreFew m.exports
  pub elems : AreFew m.elems
  pub codes : AreFew m.codes
  pub segs : AreFew m.segs
  pub bodies : All (λ (c : PlainCode). AreFew c.body × Nests (false ∷ []) c.body) m.codes

abbrev pub SpelledAreShaped : Type 0
SpelledAreShaped = (m : PlainModule) → HasSpelling m → IsShaped m
