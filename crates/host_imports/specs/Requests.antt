-- What a contract asks of the host (CosmWasm 1.x): the imports by their names, with their arguments.
use Rattle.std.specs.Prelude.{ℕ, List, [], ◌∷◌, Option, Some, None, option_and_then, codes, if◌then◌else◌}
use Rattle.std.specs.Str.{bytes_eq}
use Rattle.std.specs.List.{slice_get}
use Rattle.wasm_types.specs.declared.value.Value.{Value}
use Rattle.wasm_types.specs.declared.value.Value.TheVariants.{I32}
use Rattle.wasm_types.specs.Plain.{PlainModule}
use Rattle.host_imports.specs.declared.request.Request.{Request}
use Rattle.host_imports.specs.declared.request.Request.TheVariants.{DbRead, DbWrite, DbRemove, DbScan, DbNext, AddrValidate, AddrCanonicalize, AddrHumanize, Debug, QueryChain, Abort, Signature}

-- the name of an import, and what it asks
abbrev pub Named : Type 0
Named = List ℕ × Request

abbrev pub with_one : ℕ → List Named
with_one a =
    (codes "db_read", DbRead a)
    ∷ (codes "db_remove", DbRemove a)
    ∷ (codes "db_next", DbNext a)
    ∷ (codes "addr_validate", AddrValidate a)
    ∷ (codes "debug", Debug a)
    ∷ (codes "query_chain", QueryChain a)
    ∷ (codes "abort", Abort a)
    ∷ []

abbrev pub with_two : ℕ → ℕ → List Named
with_two a b =
    (codes "db_write", DbWrite a b)
    ∷ (codes "addr_canonicalize", AddrCanonicalize a b)
    ∷ (codes "addr_humanize", AddrHumanize a b)
    ∷ []

abbrev pub with_three : ℕ → ℕ → ℕ → List Named
with_three a b c =
    (codes "db_scan", DbScan a b c)
    ∷ (codes "secp256k1_verify", Signature)
    ∷ (codes "ed25519_verify", Signature)
    ∷ (codes "ed25519_batch_verify", Signature)
    ∷ (codes "secp256k1_recover_pubkey", Signature)
    ∷ []

abbrev pub request_named : List ℕ → List Named → Option Request
request_named name [] = None
request_named name (r ∷ more) = if bytes_eq r.0 name then Some r.1 else request_named name more

-- what an import is asked with these arguments
abbrev pub request_of : List ℕ → List Value → Option Request
request_of name (I32 a ∷ []) = request_named name (with_one a)
request_of name (I32 a ∷ I32 b ∷ []) = request_named name (with_two a b)
request_of name (I32 a ∷ I32 b ∷ I32 c ∷ []) = request_named name (with_three a b c)
request_of name args = None

-- What the call of an import asks. The gate sees to it that all imports are functions of `env`, of these names and types: so each call
-- of a code that passed it asks something.
unfoldable pub asked : PlainModule → ℕ → List Value → Option Request
asked m import args = option_and_then (λ i. request_of i.name args) (slice_get m.imports import)
