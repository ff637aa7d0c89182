-- The samples, by the words that name them and by their modules.
use Rattle.std.specs.Prelude.{◌≡◌, ◌≢◌, ℕ, List, [], ◌∷◌, codes}
use Rattle.wasm_types.specs.Plain.{PlainModule}
use Rattle.wasm_writer.specs.Samples.{echo_module, spin_module, keeper_module, common_module, sign_module}
use Rattle.sample_codes.specs.declared.sample.Sample.{Sample}
use Rattle.sample_codes.specs.declared.sample.Sample.TheVariants.{Echo, Spin, Keeper, Common, Sign}

abbrev pub name_of : Sample → List ℕ
name_of Echo = codes "echo"
name_of Spin = codes "spin"
name_of Keeper = codes "keeper"
name_of Common = codes "common"
name_of Sign = codes "sign"

abbrev pub module_of : Sample → PlainModule
module_of Echo = echo_module
module_of Spin = spin_module
module_of Keeper = keeper_module
module_of Common = common_module
module_of Sign = sign_module

-- the words are one word, which names the sample
abbrev pub Names : List (List ℕ) → Sample → Type 0
Names words sample = words ≡ name_of sample ∷ []

abbrev pub NamesNone : List (List ℕ) → Type 0
NamesNone words = (sample : Sample) → words ≢ name_of sample ∷ []
