-- The file of a module, which is this project's own: four letters, and the module's lists in the order of its fields.
use Rattle.std.specs.Prelude.{ℕ, ◌≡◌, List, [], ◌∷◌, Option, Some, None}
use Rattle.wasm_types.specs.declared.limits.Limits.{Limits}
use Rattle.wasm_types.specs.Plain.{PlainFuncType, PlainImport, PlainModule}
use Rattle.wasm_types.specs.ModuleText.{module_of}
use Rattle.module_file.specs.Form.{Reading, Part, Form, field, done, ◌>>=◌, behind, index, list}
use Rattle.module_file.specs.Parts.{func_type, import_, limits, global, export_, elem, seg}
use Rattle.module_file.specs.Codes.{code}

-- the globals and what follows them, behind the other lists
unfoldable pub later_lists : List PlainFuncType → List PlainImport → List ℕ → List Limits → List Limits → Part PlainModule PlainModule
later_lists types imports funcs tables memories = do
  globals ← field (λ (m : PlainModule). m.globals) (list global)
  exports ← field (λ (m : PlainModule). m.exports) (list export_)
  elems ← field (λ (m : PlainModule). m.elems) (list elem)
  codes ← field (λ (m : PlainModule). m.codes) (list code)
  segs ← field (λ (m : PlainModule). m.segs) (list seg)
  done (record {
    types = types;
    imports = imports;
    funcs = funcs;
    tables = tables;
    memories = memories;
    globals = globals;
    exports = exports;
    elems = elems;
    codes = codes;
    segs = segs;
  })

unfoldable pub lists : Form PlainModule
lists = do
  types ← field (λ (m : PlainModule). m.types) (list func_type)
  imports ← field (λ (m : PlainModule). m.imports) (list import_)
  funcs ← field (λ (m : PlainModule). m.funcs) (list index)
  tables ← field (λ (m : PlainModule). m.tables) (list limits)
  memories ← field (λ (m : PlainModule). m.memories) (list limits)
  later_lists types imports funcs tables memories

-- the letters WMF1
abbrev pub magic : List ℕ
magic = 0x57 ∷ 0x4D ∷ 0x46 ∷ 0x31 ∷ []

unfoldable pub file : Form PlainModule
file = behind magic lists

-- the bytes of a module's file
abbrev pub file_text : PlainModule → List ℕ
file_text m = file.text m

abbrev pub ended : {A : Type 0} → A → List ℕ → Option A
ended a [] = Some a
ended a (b ∷ rest) = None

-- a value that is read, where no byte is left over
abbrev pub all_of : {A : Type 0} → Reading A → Option A
all_of (Some x) = ended x.0 x.1
all_of None = None

-- the module whose file these bytes are, if they are one's
unfoldable pub module_in : List ℕ → Option PlainModule
module_in bytes = all_of (file.read bytes)

-- ---- files of codes

-- the bytes are the file of the module that the code spells, which is this one
pub record IsFileOf (bytes code : List ℕ) (m : PlainModule) : Type 0 where
  pub spelled : module_of code ≡ Some m
  pub same : bytes ≡ file_text m

-- a module, where the bytes are the file of the code's module; and none where they aren't
abbrev pub IsLoaded : List ℕ → List ℕ → Option PlainModule → Type 0
IsLoaded bytes code (Some m) = IsFileOf bytes code m
IsLoaded bytes code None = (m : PlainModule) → IsFileOf bytes code m → ⊥
