-- Sample contracts that tests run: each exports the nine functions that a host of CosmWasm 1.x calls, and has one memory. A
-- message is answered with itself, and the reply with a text that stands in the memory.
use Rattle.std.specs.Prelude.{ℕ, ◌+◌, true, List, [], ◌∷◌, ◌++◌, map, replicate, Option, Some, None, codes}
use Rattle.wasm_types.specs.declared.value.ValType.{ValType}
use Rattle.wasm_types.specs.declared.value.ValType.TheVariants as val_types
use Rattle.wasm_types.specs.declared.value.Value.TheVariants as values
use Rattle.wasm_types.specs.declared.import.Desc.TheVariants as descs
use Rattle.wasm_types.specs.declared.export.Ext.TheVariants as exts
use Rattle.wasm_types.specs.declared.global.Init.TheVariants as inits
use Rattle.wasm_types.specs.declared.global.GlobalVar.{GlobalVar}
use Rattle.wasm_types.specs.declared.instr.Instr.{Instr}
use Rattle.wasm_types.specs.declared.instr.Instr.TheVariants.{Op, Index, Mem, Const, Loop, End}
use Rattle.wasm_types.specs.Plain.{PlainFuncType, PlainImport, PlainExport, PlainSeg, PlainCode, PlainModule}

-- ---- instructions, by their names in the standard

abbrev pub local_get : ℕ → Instr
local_get i = Index 0x20 i

abbrev pub global_get : ℕ → Instr
global_get i = Index 0x23 i

abbrev pub global_set : ℕ → Instr
global_set i = Index 0x24 i

abbrev pub i32_const : ℕ → Instr
i32_const n = Const (values.I32 n)

abbrev pub i32_add : Instr
i32_add = Op 0x6A

-- of alignment 2, at this offset
abbrev pub i32_store : ℕ → Instr
i32_store offset = Mem 0x36 2 offset

abbrev pub call : ℕ → Instr
call f = Index 0x10 f

abbrev pub drop_value : Instr
drop_value = Op 0x1A

abbrev pub br : ℕ → Instr
br label = Index 0x0C label

-- ---- parts

-- so many i32, and what is given for them
abbrev pub signature : ℕ × Option ValType → PlainFuncType
signature s = record { params = replicate s.0 val_types.I32; result = s.1 }

-- a function of the module `env`, by its name and its type
abbrev pub env_import : List ℕ × ℕ → PlainImport
env_import i = record { «module» = codes "env"; name = i.0; desc = descs.Func i.1 }

abbrev pub mutable_i32 : ℕ → GlobalVar
mutable_i32 n = record { ty = val_types.I32; mutable = true; init = inits.Const (values.I32 n) }

-- bytes at a place of the memory
abbrev pub data_at : ℕ × List ℕ → PlainSeg
data_at d = record { memory = 0; offset = inits.Const (values.I32 d.0); bytes = d.1 }

-- a body without locals and labels, and the `end` behind it
abbrev pub code_of : List Instr → PlainCode
code_of body = record { locals = []; targets = []; body = body ++ End ∷ [] }

-- the functions from this one on, under these names
abbrev pub exported : ℕ → List (List ℕ) → List PlainExport
exported first [] = []
exported first (name ∷ names) = record { name = name; ext = exts.Func first } ∷ exported (first + 1) names

-- ---- what all samples have

abbrev pub entries : List (List ℕ)
entries =
    codes "interface_version_8"
    ∷ codes "allocate"
    ∷ codes "deallocate"
    ∷ codes "instantiate"
    ∷ codes "execute"
    ∷ codes "migrate"
    ∷ codes "sudo"
    ∷ codes "query"
    ∷ codes "reply"
    ∷ []

-- a Region where global 0 points, of the bytes behind it, and global 0 moved behind these
abbrev pub allocate : List Instr
allocate =
    global_get 0
    ∷ global_get 0
    ∷ global_get 0
    ∷ i32_const 12
    ∷ i32_add
    ∷ i32_store 0
    ∷ global_get 0
    ∷ local_get 0
    ∷ i32_store 4
    ∷ global_get 0
    ∷ i32_const 0
    ∷ i32_store 8
    ∷ global_get 0
    ∷ local_get 0
    ∷ i32_add
    ∷ i32_const 12
    ∷ i32_add
    ∷ global_set 0
    ∷ []

abbrev pub bodies : List Instr → List (List Instr)
bodies execute =
    []
    ∷ allocate
    ∷ []
    ∷ (local_get 2 ∷ [])
    ∷ execute
    ∷ (local_get 1 ∷ [])
    ∷ (local_get 1 ∷ [])
    ∷ (local_get 1 ∷ [])
    ∷ (i32_const 16 ∷ [])
    ∷ []

-- a Region of so many bytes at an offset, and four bytes 0
abbrev pub region : ℕ → ℕ → List ℕ
region offset len = offset ∷ 0 ∷ 0 ∷ 0 ∷ len ∷ 0 ∷ 0 ∷ 0 ∷ len ∷ 0 ∷ 0 ∷ 0 ∷ 0 ∷ 0 ∷ 0 ∷ 0 ∷ []

abbrev pub answer : ℕ × List ℕ
answer = (16, region 32 22 ++ codes "{\"ok\":{\"data\":\"cg==\"}}")

-- ---- the samples

abbrev pub echo_types : List (ℕ × Option ValType)
echo_types = (0, None) ∷ (1, Some val_types.I32) ∷ (1, None) ∷ (3, Some val_types.I32) ∷ (2, Some val_types.I32) ∷ []

abbrev pub echo_with : List Instr → PlainModule
echo_with execute = record {
  types = map signature echo_types;
  imports = [];
  funcs = 0 ∷ 1 ∷ 2 ∷ 3 ∷ 3 ∷ 4 ∷ 4 ∷ 4 ∷ 4 ∷ [];
  tables = [];
  memories = record { min = 1; max = None } ∷ [];
  globals = mutable_i32 1024 ∷ [];
  exports = exported 0 entries;
  elems = [];
  codes = map code_of (bodies execute);
  segs = data_at answer ∷ [];
}

unfoldable pub echo_module : PlainModule
echo_module = echo_with (local_get 2 ∷ [])

-- its `execute` never ends
unfoldable pub spin_module : PlainModule
spin_module = echo_with (Loop (Some val_types.I32) 2 ∷ br 0 ∷ End ∷ [])

abbrev pub keeper_with : List Instr → PlainModule
keeper_with execute = record (echo_with execute) {
  types = map signature ((2, None) ∷ echo_types);
  imports = env_import (codes "db_write", 0) ∷ [];
  funcs = 1 ∷ 2 ∷ 3 ∷ 4 ∷ 4 ∷ 5 ∷ 5 ∷ 5 ∷ 5 ∷ [];
  exports = exported 1 entries;
  segs = map data_at (answer ∷ (64, region 96 1) ∷ (80, region 97 1) ∷ (96, codes "kv") ∷ []);
}

-- its `execute` writes `v` at the key `k`
unfoldable pub keeper_module : PlainModule
keeper_module = keeper_with (i32_const 64 ∷ i32_const 80 ∷ call 0 ∷ local_get 2 ∷ [])

-- all fifteen imports of a host, with their types
abbrev pub host_types : List (ℕ × Option ValType)
host_types = (1, Some val_types.I32) ∷ (2, None) ∷ (1, None) ∷ (3, Some val_types.I32) ∷ (2, Some val_types.I32) ∷ (3, Some val_types.I64) ∷ (0, None) ∷ []

abbrev pub host_imports : List (List ℕ × ℕ)
host_imports =
    (codes "db_read", 0)
    ∷ (codes "db_write", 1)
    ∷ (codes "db_remove", 2)
    ∷ (codes "db_scan", 3)
    ∷ (codes "db_next", 0)
    ∷ (codes "addr_validate", 0)
    ∷ (codes "addr_canonicalize", 4)
    ∷ (codes "addr_humanize", 4)
    ∷ (codes "debug", 2)
    ∷ (codes "query_chain", 0)
    ∷ (codes "abort", 2)
    ∷ (codes "secp256k1_verify", 3)
    ∷ (codes "ed25519_verify", 3)
    ∷ (codes "ed25519_batch_verify", 3)
    ∷ (codes "secp256k1_recover_pubkey", 5)
    ∷ []

abbrev pub common_with : List Instr → PlainModule
common_with execute = record (echo_with execute) {
  types = map signature host_types;
  imports = map env_import host_imports;
  funcs = 6 ∷ 0 ∷ 2 ∷ 3 ∷ 3 ∷ 4 ∷ 4 ∷ 4 ∷ 4 ∷ [];
  tables = record { min = 1; max = Some 1 } ∷ [];
  memories = record { min = 17; max = None } ∷ [];
  globals = mutable_i32 1024 ∷ mutable_i32 1048576 ∷ [];
  exports = exported 15 entries;
  elems = record { table = 0; offset = inits.Const (values.I32 0); funcs = 15 ∷ [] } ∷ [];
}

unfoldable pub common_module : PlainModule
common_module = common_with (local_get 2 ∷ [])

-- its `execute` asks for a signature to be verified
unfoldable pub sign_module : PlainModule
sign_module = common_with (i32_const 0 ∷ i32_const 0 ∷ i32_const 0 ∷ call 12 ∷ drop_value ∷ local_get 2 ∷ [])
