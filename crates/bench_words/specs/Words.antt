-- The words that the program takes: a kernel's name and a count.
use Rattle.std.specs.Prelude.{◌≡◌, ℕ, ◌<◌, ◌^◌, List, [], ◌∷◌, codes}
use Rattle.std.specs.Str.Parse.{IsNumeral, digits_value, without_leading_plus}
use Rattle.bench_words.specs.declared.kernel.Kernel.{Kernel}
use Rattle.bench_words.specs.declared.kernel.Kernel.TheVariants as kernels

abbrev pub name_of : Kernel → List ℕ
name_of kernels.BinaryAdd = codes "binary_add"
name_of kernels.BinaryDiv = codes "binary_div"
name_of kernels.Load1 = codes "load_1"
name_of kernels.Load2 = codes "load_2"
name_of kernels.Load4 = codes "load_4"
name_of kernels.Load8 = codes "load_8"
name_of kernels.Store8 = codes "store_8"
name_of kernels.Charge = codes "charge"
name_of kernels.ReadModule = codes "read_module"
name_of kernels.RunModule = codes "run_module"
name_of kernels.LayersNew = codes "layers_new"
name_of kernels.LayersGet = codes "layers_get"
name_of kernels.LayersNext = codes "layers_next"
name_of kernels.LayersKeep = codes "layers_keep"
name_of kernels.PlainGet = codes "plain_get"
name_of kernels.PlainNext = codes "plain_next"
name_of kernels.RunsNew = codes "runs_new"
name_of kernels.RunsGet = codes "runs_get"
name_of kernels.RunsNext = codes "runs_next"
name_of kernels.RunsChange = codes "runs_change"
name_of kernels.RunsMerge = codes "runs_merge"

-- one or more decimal digits, and maybe a plus before them, that write a number below 2^32
abbrev pub IsNumber : List ℕ → ℕ → Type 0
IsNumber word number =
    let digits = without_leading_plus word in
    IsNumeral 10 digits × (digits_value 10 digits < 2 ^ 32) × (digits_value 10 digits ≡ number)

abbrev pub Asks : List (List ℕ) → Kernel → ℕ → Type 0
Asks words kernel count = (word : List ℕ) × (words ≡ name_of kernel ∷ word ∷ []) × IsNumber word count
