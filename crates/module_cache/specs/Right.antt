-- Which module belongs to a code, and lists that keep no other one with a code.
use Rattle.std.specs.Prelude.{ℕ, ◌≡◌, List, map, Contains, Some}
use Rattle.std.specs.Global.{Global, Vec}
use Rattle.std.specs.declared.sync.Arc.{Arc}
use Rattle.std.specs.Arc.{arc_value}
use Rattle.std.specs.Coded.{Coded, Coded-set, coded_option, codes}
use Rattle.wasm_types.specs.declared.module.Module.{Module}
use Rattle.wasm_types.specs.Plain.{PlainModule, plain_module}
use Rattle.wasm_types.specs.ModuleText.{module_of}

-- the code's bytes spell this module
abbrev pub IsModuleOf : List ℕ → Module → Type 0
IsModuleOf code m = module_of code ≡ Some (plain_module m)

abbrev pub vec_bytes : Vec ℕ → List ℕ
vec_bytes v = v.items

-- the codes of a list of modules, where a key stands for these bytes
abbrev pub codes_of : {K : Type 0} → (K → List ℕ) → List (K × Arc Module Global) → List (List ℕ)
codes_of bytes entries = map (λ e. bytes e.0) entries

-- each module is that of its code
abbrev pub AreRight : {K : Type 0} → (K → List ℕ) → List (K × Arc Module Global) → Type 0
AreRight {K} bytes entries = (e : K × Arc Module Global) → Contains entries e → IsModuleOf (bytes e.0) (arc_value e.1)

-- ---- two proofs of such a fact are equal

pub coded_module : Coded PlainModule
coded_module = hlevel codes

pub IsModuleOf-prop : (code : List ℕ) (m : Module) → IsProp (IsModuleOf code m)
IsModuleOf-prop code m = Coded-set (coded_option coded_module) _ _

pub AreRight-prop : {K : Type 0} (bytes : K → List ℕ) (entries : List (K × Arc Module Global)) → IsProp (AreRight bytes entries)
AreRight-prop bytes entries = hlevel IsModuleOf-prop
