-- What follows from the definition of a module's file.
use Rattle.std.specs.Prelude.{ℕ, ◌≡◌, List, Some}
use Rattle.wasm_types.specs.Plain.{PlainModule}
use Rattle.wasm_types.specs.ModuleText.{AreBytes, HasSpelling}
use Rattle.module_file.specs.ModuleFile.{file_text, module_in}

-- what is written is read
abbrev pub ReadsWritten : Type 0
ReadsWritten = (m : PlainModule) → HasSpelling m → module_in (file_text m) ≡ Some m

-- what is read was written: other bytes are no file
abbrev pub ReadsOnlyWritten : Type 0
ReadsOnlyWritten = (bytes : List ℕ) (m : PlainModule) → AreBytes bytes → module_in bytes ≡ Some m → bytes ≡ file_text m

-- two modules have two files
abbrev pub TellsModules : Type 0
TellsModules = (one other : PlainModule) → HasSpelling one → HasSpelling other → file_text one ≡ file_text other → one ≡ other
