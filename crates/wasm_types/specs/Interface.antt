-- The functions that a contract may import and those that the host calls (CosmWasm 1.x), by their names and types.
use Rattle.std.specs.Prelude.{ℕ, if◌then◌else◌, List, [], ◌∷◌, replicate, Option, Some, None, codes}
use Rattle.std.specs.Str.{bytes_eq}
use Rattle.wasm_types.specs.declared.value.ValType.{ValType}
use Rattle.wasm_types.specs.declared.value.ValType.TheVariants.{I32, I64}
use Rattle.wasm_types.specs.Plain.{PlainFuncType}

-- a function of so many i32
abbrev pub takes : ℕ → Option ValType → PlainFuncType
takes n result = record { params = replicate n I32; result = result }

-- all of them are of the module `env`
abbrev pub host_functions : List (List ℕ × PlainFuncType)
host_functions =
    (codes "db_read", takes 1 (Some I32))
    ∷ (codes "db_write", takes 2 None)
    ∷ (codes "db_remove", takes 1 None)
    ∷ (codes "db_scan", takes 3 (Some I32))
    ∷ (codes "db_next", takes 1 (Some I32))
    ∷ (codes "addr_validate", takes 1 (Some I32))
    ∷ (codes "addr_canonicalize", takes 2 (Some I32))
    ∷ (codes "addr_humanize", takes 2 (Some I32))
    ∷ (codes "debug", takes 1 None)
    ∷ (codes "query_chain", takes 1 (Some I32))
    ∷ (codes "abort", takes 1 None)
    ∷ (codes "secp256k1_verify", takes 3 (Some I32))
    ∷ (codes "ed25519_verify", takes 3 (Some I32))
    ∷ (codes "ed25519_batch_verify", takes 3 (Some I32))
    ∷ (codes "secp256k1_recover_pubkey", takes 3 (Some I64))
    ∷ []

-- those that every contract has, and after them the others
abbrev pub entry_points : List (List ℕ × PlainFuncType)
entry_points =
    (codes "interface_version_8", takes 0 None)
    ∷ (codes "allocate", takes 1 (Some I32))
    ∷ (codes "deallocate", takes 1 None)
    ∷ (codes "instantiate", takes 3 (Some I32))
    ∷ (codes "execute", takes 3 (Some I32))
    ∷ (codes "migrate", takes 2 (Some I32))
    ∷ (codes "sudo", takes 2 (Some I32))
    ∷ (codes "reply", takes 2 (Some I32))
    ∷ (codes "query", takes 2 (Some I32))
    ∷ []

abbrev pub wanted_exports : List (List ℕ)
wanted_exports = codes "interface_version_8" ∷ codes "allocate" ∷ codes "deallocate" ∷ codes "instantiate" ∷ []

-- the type that stands beside a name
abbrev pub type_named : List (List ℕ × PlainFuncType) → List ℕ → Option PlainFuncType
type_named [] name = None
type_named (f ∷ functions) name = if bytes_eq f.0 name then Some f.1 else type_named functions name
