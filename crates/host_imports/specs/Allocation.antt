-- Regions that the host reads, and those that a contract gives and takes back by its own functions `allocate` and `deallocate`
-- (CosmWasm 1.x).
use Rattle.std.specs.Prelude.{ℕ, ◌^◌, List, [], ◌∷◌, find, map, length, Option, Some, None, option_and_then, Result, Ok, Err, ◌||◌, nat_lt, codes, if◌then◌else◌}
use Rattle.std.specs.Str.{bytes_eq}
use Rattle.gas_meter.specs.declared.schedule.Schedule.{Schedule}
use Rattle.linear_memory.specs.declared.region.RegionBad.{RegionBad}
use Rattle.linear_memory.specs.declared.region.RegionBad.TheVariants.{Range}
use Rattle.linear_memory.specs.Regions.{region_read, region_written}
use Rattle.wasm_types.specs.declared.export.Ext.{Ext}
use Rattle.wasm_types.specs.declared.export.Ext.TheVariants.{Func, Table, Memory, Global}
use Rattle.wasm_types.specs.declared.value.Value.{Value}
use Rattle.wasm_types.specs.declared.value.Value.TheVariants.{I32, I64}
use Rattle.wasm_types.specs.Plain.{PlainModule}
use Rattle.wasm_machine.specs.declared.turn.TrapKind.TheVariants.{Unreachable}
use Rattle.wasm_machine.specs.Acts.{Standing, call, go, memory}
use Rattle.wasm_machine.specs.Acts as standings
use Rattle.wasm_machine.specs.Exec.{exec}
use Rattle.host_imports.specs.declared.request.Request.{Request}
use Rattle.host_imports.specs.declared.request.Request.TheVariants as requests
use Rattle.host_imports.specs.Faults.{Fault, trap, aborted, import_in_allocate, region_fault}
use Rattle.host_imports.specs.Requests.{asked}
use Rattle.host_imports.specs.Work.{Work, acted, with_left, memory_at, ends, ran_out, done, faults, ◌>>=◌}

-- What no code does that passed the gate: an export of another type, or a value of another type. It counts as an instruction that
-- can't be reached.
abbrev pub misplaced : {A : Type 0} → Work A
misplaced = faults (trap Unreachable)

-- ---- Regions

abbrev pub in_region : Result (List ℕ) RegionBad → Work (List ℕ)
in_region (Ok bytes) = done bytes
in_region (Err bad) = faults (region_fault bad)

-- the bytes of the Region at a pointer, of which there may be so many
unfoldable pub region : ℕ → ℕ → Work (List ℕ)
region limit pointer p = in_region (region_read (memory_at p) pointer limit) p

abbrev pub with_memory : Result (List ℕ) RegionBad → Work (Unit {0})
with_memory (Ok bytes) p = done tt (acted (memory bytes) p)
with_memory (Err bad) p = faults (region_fault bad) p

-- bytes are written to the Region at a pointer
unfoldable pub writes : List ℕ → ℕ → Work (Unit {0})
writes bytes pointer p = with_memory (region_written (memory_at p) pointer bytes) p

-- ---- exports

abbrev pub func_of : Ext → Option ℕ
func_of (Func func) = Some func
func_of (Table table) = None
func_of (Memory index) = None
func_of (Global global) = None

-- the function that is exported under a name
abbrev pub exported : PlainModule → List ℕ → Option ℕ
exported m name = option_and_then (λ e. func_of e.ext) (find (λ e. bytes_eq e.name name) m.exports)

-- ---- what the contract says as it aborts

-- a request, a text for debugging and one of `abort` have at most so many bytes
abbrev pub longest_text : ℕ
longest_text = 65536

-- a byte of ASCII that can be printed stands as it is, and any other as `?`
abbrev pub shown : ℕ → ℕ
shown byte = if nat_lt byte 0x20 || nat_lt 0x7E byte then 0x3F else byte

unfoldable pub abort_fault : ℕ → Work Fault
abort_fault text = region longest_text text >>= λ bytes. done (aborted (map shown bytes))

abbrev pub aborts : {A : Type 0} → ℕ → Work A
aborts text = abort_fault text >>= λ fault. faults fault

-- ---- calls of `allocate` and `deallocate`

-- the pointer to the text of `abort`, where that was asked
abbrev pub abort_text : Request → Option ℕ
abort_text (requests.Abort text) = Some text
abort_text (requests.DbRead key) = None
abort_text (requests.DbWrite key value) = None
abort_text (requests.DbRemove key) = None
abort_text (requests.DbScan lo hi order) = None
abort_text (requests.DbNext scan) = None
abort_text (requests.AddrValidate text) = None
abort_text (requests.AddrCanonicalize text target) = None
abort_text (requests.AddrHumanize bytes target) = None
abort_text (requests.Debug text) = None
abort_text (requests.QueryChain request) = None
abort_text requests.Signature = None

-- these two may call no import but `abort`
abbrev pub in_allocate : Option ℕ → Work Fault
in_allocate None = done import_in_allocate
in_allocate (Some text) = abort_fault text

abbrev pub fault_at : Option Request → Work Fault
fault_at None = done (trap Unreachable)
fault_at (Some request) = in_allocate (abort_text request)

abbrev pub comes_to : Standing → Work (Option Value)
comes_to (standings.done value) p = done value p
comes_to (standings.trap kind) p = faults (trap kind) p
comes_to standings.out_of_gas p = ends ran_out p
comes_to (standings.ask import args) p = (fault_at (asked p.module import args) >>= λ fault. faults fault) p
comes_to standings.idle p = misplaced p
comes_to standings.ready p = misplaced p

-- a function runs with all gas that is left
unfoldable pub runs : Schedule → ℕ → List Value → Work (Option Value)
runs costs func args p =
    let there = acted (go p.left costs) (acted (call func args) p) in
    let stands = exec there.module there.acts in
    comes_to stands.standing (with_left stands.left there)

abbrev pub runs_if : Schedule → List Value → Option ℕ → Work (Option Value)
runs_if costs args None = misplaced
runs_if costs args (Some func) = runs costs func args

-- the function that the contract exports under this name runs
unfoldable pub calls : Schedule → List ℕ → List Value → Work (Option Value)
calls costs name args p = runs_if costs args (exported p.module name) p

-- ---- Regions that are given and taken back

abbrev pub pointer_of : Option Value → Work ℕ
pointer_of (Some (I32 pointer)) = done pointer
pointer_of (Some (I64 number)) = misplaced
pointer_of None = misplaced

abbrev pub nothing_of : Option Value → Work (Unit {0})
nothing_of None = done tt
nothing_of (Some value) = misplaced

-- the length has to be a u32
abbrev pub fits : ℕ → Work (Unit {0})
fits size = if nat_lt size (2 ^ 32) then done tt else faults (region_fault Range)

-- bytes are given to the contract: in a Region of its own, whose pointer comes of it
unfoldable pub gives : Schedule → List ℕ → Work ℕ
gives costs bytes =
    fits (length bytes) >>= λ _.
    calls costs (codes "allocate") (I32 (length bytes) ∷ []) >>= λ value.
    pointer_of value >>= λ pointer.
    writes bytes pointer >>= λ _.
    done pointer

-- the contract takes a Region back
unfoldable pub releases : Schedule → ℕ → Work ℕ
releases costs pointer =
    calls costs (codes "deallocate") (I32 pointer ∷ []) >>= λ value.
    nothing_of value >>= λ _.
    done pointer
