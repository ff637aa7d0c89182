-- Work that a host does for a contract's call, step by step: each step goes on from where the call is, and gives something, or ends
-- the call by a fault or for want of gas.
use Rattle.std.specs.Prelude.{ℕ, ◌-◌, List, [], ◌∷◌, ◌++◌, nat_lt, if◌then◌else◌}
use Rattle.kv_layers.specs.Bytes.{Bytes}
use Rattle.gas_store.specs.Scans.{Scan}
use Rattle.wasm_types.specs.Plain.{PlainModule}
use Rattle.wasm_machine.specs.Acts.{Act}
use Rattle.wasm_machine.specs.Exec.{exec}
use Rattle.host_imports.specs.Faults.{Fault}

-- where a contract's call is: its module, all acts on its machine so far, what the contract keeps, its scans, and the gas that is left
pub record Place : Type 0 where
  pub «module» : PlainModule
  pub acts : List Act
  pub storage : Bytes
  pub scans : List Scan
  pub left : ℕ

pub data Ended (A : Type 0) : Type 0 where
  gave : A → Ended A
  faulted : Fault → Ended A
  ran_out : Ended A

-- what came of a step, and where the call is then
pub record Ran (A : Type 0) : Type 0 where
  pub ended : Ended A
  pub place : Place

abbrev pub Work : Type 0 → Type 0
Work A = Place → Ran A

abbrev pub acted : Act → Place → Place
acted act p = record p { acts = p.acts ++ act ∷ [] }

abbrev pub with_left : ℕ → Place → Place
with_left left p = record p { left = left }

-- the bytes of the memory
unfoldable pub memory_at : Place → List ℕ
memory_at p = (exec p.module p.acts).memory

-- ---- steps

abbrev pub ends : {A : Type 0} → Ended A → Work A
ends ended p = record { ended = ended; place = p }

unfoldable pub done : {A : Type 0} → A → Work A
done a = ends (gave a)

unfoldable pub faults : {A : Type 0} → Fault → Work A
faults fault = ends (faulted fault)

-- the cost is charged; where too little gas is left, all of it is used
unfoldable pub charge : ℕ → Work (Unit {0})
charge cost p = if nat_lt p.left cost then ends ran_out (with_left 0 p) else ends (gave tt) (with_left (p.left - cost) p)

abbrev pub goes_on : {A B : Type 0} → (A → Work B) → Ended A → Work B
goes_on next (gave a) = next a
goes_on next (faulted fault) = ends (faulted fault)
goes_on next ran_out = ends ran_out

-- one step, and then the next with what it gave
infixl 10 ◌>>=◌
unfoldable pub ◌>>=◌ : {A B : Type 0} → Work A → (A → Work B) → Work B
(work >>= next) p = goes_on next (work p).ended (work p).place
