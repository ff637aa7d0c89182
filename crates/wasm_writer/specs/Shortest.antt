-- What it is to be a shortest spelling of a module.
use Rattle.std.specs.Prelude.{◌≡◌, ℕ, ◌≤◌, List, length, Some}
use Rattle.wasm_types.specs.Plain.{PlainModule}
use Rattle.wasm_types.specs.ModuleText.{IsModule, HasSpelling, module_of}
use Rattle.wasm_writer.specs.Spelling.{spelling_of}

-- a spelling of the module, and none has fewer bytes
pub record IsShortest (bytes : List ℕ) (m : PlainModule) : Type 0 where
  pub spelled : IsModule bytes m
  pub shortest : (other : List ℕ) → IsModule other m → length bytes ≤ length other

-- what has a spelling has a shortest one, which is the one that the definition gives
abbrev pub SpellsShortest : Type 0
SpellsShortest = (m : PlainModule) → HasSpelling m → IsShortest (spelling_of m) m

-- and reading it gives the module again
abbrev pub ReadsAgain : Type 0
ReadsAgain = (m : PlainModule) → HasSpelling m → module_of (spelling_of m) ≡ Some m
