-- A contract's call (CosmWasm 1.x). The contract is handed its arguments in Regions, runs, and hands back a Region with its result.
-- Where it asks a query, the call waits for the answer. What comes of a call after some answers is told from the call's start: there
-- is no pause, and nothing is kept.
use Rattle.std.specs.Prelude.{ℕ, zero, suc, ◌+◌, Bool, true, false, List, [], ◌∷◌, ◌++◌, Option, Some, None, codes}
use Rattle.gas_meter.specs.declared.schedule.Schedule.{Schedule}
use Rattle.gas_meter.specs.Costs.{entry_cost}
use Rattle.kv_layers.specs.Bytes.{Bytes}
use Rattle.wasm_types.specs.declared.value.Value.{Value}
use Rattle.wasm_types.specs.declared.value.Value.TheVariants.{I32}
use Rattle.wasm_types.specs.Plain.{PlainModule}
use Rattle.wasm_machine.specs.Acts.{Standing, call, go}
use Rattle.wasm_machine.specs.Acts as standings
use Rattle.wasm_machine.specs.Exec.{exec}
use Rattle.host_imports.specs.Faults.{trap, no_entry}
use Rattle.host_imports.specs.Work.{Place, Ended, gave, ran_out, Ran, Work, acted, with_left, ends, done, faults, charge, ◌>>=◌}
use Rattle.host_imports.specs.Allocation.{misplaced, pointer_of, region, exported, gives, releases}
use Rattle.host_imports.specs.Imports.{Setting, setting, Settled, answered, wants_query, answers_with, host}
use Rattle.contract_call.specs.declared.entry.Entry.{Entry}
use Rattle.contract_call.specs.declared.entry.Entry.TheVariants.{Instantiate, Execute, Migrate, Sudo, Reply, Query}

-- ---- entry points

-- the name under which a contract exports an entry point
abbrev pub entry_name : Entry → List ℕ
entry_name Instantiate = codes "instantiate"
entry_name Execute = codes "execute"
entry_name Migrate = codes "migrate"
entry_name Sudo = codes "sudo"
entry_name Reply = codes "reply"
entry_name Query = codes "query"

-- a query may change nothing
abbrev pub only_reads : Entry → Bool
only_reads Query = true
only_reads Instantiate = false
only_reads Execute = false
only_reads Migrate = false
only_reads Sudo = false
only_reads Reply = false

-- these two are told who calls
abbrev pub takes_info : Entry → Bool
takes_info Instantiate = true
takes_info Execute = true
takes_info Migrate = false
takes_info Sudo = false
takes_info Reply = false
takes_info Query = false

-- what an entry point is handed, in order
abbrev pub arguments : List ℕ → Option (List ℕ) → List ℕ → List (List ℕ)
arguments env None msg = env ∷ msg ∷ []
arguments env (Some info) msg = env ∷ info ∷ msg ∷ []

-- ---- calls

-- the contract's module, the entry point and what it is handed, and whether the contract's code is pinned
pub record Call : Type 0 where
  pub «module» : PlainModule
  pub entry : Entry
  pub args : List (List ℕ)
  pub pinned : Bool

abbrev pub call_of : PlainModule → Entry → List (List ℕ) → Bool → Call
call_of m entry args pinned = record { «module» = m; entry = entry; args = args; pinned = pinned }

-- what a call finds: what each step costs, the prefix of the chain's addresses, what the contract keeps, and the gas
pub record Outset : Type 0 where
  pub costs : Schedule
  pub prefix : List ℕ
  pub storage : Bytes
  pub left : ℕ

-- the answer to a query, and the gas that is left after it
pub record Answer : Type 0 where
  pub bytes : List ℕ
  pub left : ℕ

-- a call is over with these bytes, or waits for the answer to a query
pub data Reached : Type 0 where
  finished : List ℕ → Reached
  wants : List ℕ → Reached

abbrev pub start : Call → Outset → Place
start c o = record { «module» = c.module; acts = []; storage = o.storage; scans = []; left = o.left }

abbrev pub setting_of : Call → Outset → Setting
setting_of c o = setting o.costs (only_reads c.entry) o.prefix

-- ---- the beginning

abbrev pub found : List ℕ → Option ℕ → Work ℕ
found name None = faults (no_entry name)
found name (Some func) = done func

-- the function that the contract exports under a name
unfoldable pub entry_point : List ℕ → Work ℕ
entry_point name p = found name (exported p.module name) p

-- each of these is given to the contract, in order; their pointers come behind the values so far
unfoldable pub gives_all : Schedule → List (List ℕ) → List Value → Work (List Value)
gives_all costs [] values = done values
gives_all costs (bytes ∷ more) values = gives costs bytes >>= λ pointer. gives_all costs more (values ++ I32 pointer ∷ [])

unfoldable pub calls_with : ℕ → List Value → Work (Unit {0})
calls_with func values p = done tt (acted (call func values) p)

-- the charge, the entry point, its arguments, and its call
unfoldable pub begins : Schedule → Call → Work (Unit {0})
begins costs c =
    charge (entry_cost costs c.pinned) >>= λ _.
    entry_point (entry_name c.entry) >>= λ func.
    gives_all costs c.args [] >>= λ values.
    calls_with func values

-- ---- the run

-- a result has at most so many bytes
abbrev pub longest_result : ℕ
longest_result = 1048576

-- the Region of the result is read and then taken back
unfoldable pub results_in : Schedule → Option Value → Work (List ℕ)
results_in costs value =
    pointer_of value >>= λ pointer.
    region longest_result pointer >>= λ bytes.
    releases costs pointer >>= λ _.
    done bytes

-- what a call has come to where an import was called: to nothing yet, or to a query
abbrev pub settles : Settled → Option Reached
settles answered = None
settles (wants_query request) = Some (wants request)

abbrev pub comes_to : Setting → Standing → Work (Option Reached)
comes_to s (standings.done value) = results_in s.costs value >>= λ bytes. done (Some (finished bytes))
comes_to s (standings.trap kind) = faults (trap kind)
comes_to s standings.out_of_gas = ends ran_out
comes_to s (standings.ask i args) = host s i args >>= λ settled. done (settles settled)
comes_to s standings.idle = misplaced
comes_to s standings.ready = misplaced

-- the machine goes on with all gas that is left, to its end or to an import, which the host then answers
unfoldable pub turn : Setting → Work (Option Reached)
turn s p =
    let there = acted (go p.left s.costs) p in
    let stands = exec there.module there.acts in
    comes_to s stands.standing (with_left stands.left there)

abbrev pub unless_reached : Work Reached → Option Reached → Work Reached
unless_reached next None = next
unless_reached next (Some reached) = done reached

-- at most so many turns
unfoldable pub turns : Setting → ℕ → Work Reached
turns s zero = misplaced
turns s (suc n) = turn s >>= unless_reached (turns s n)

-- Up to the call's end or its next query. Gas bounds the turns, since each that ends at an import uses some, but for the first.
unfoldable pub runs : Setting → Work Reached
runs s p = turns s (p.left + 2) p

-- ---- queries

-- the answer to a query is given to the contract, which goes on
unfoldable pub hands : Setting → List ℕ → Work Reached
hands s bytes = answers_with s.costs bytes >>= λ _. runs s

-- a call that waits goes on with an answer, and any other stays as it is
abbrev pub resumed : Setting → Answer → Ended Reached → Place → Ran Reached
resumed s a (gave (wants request)) p = hands s a.bytes (with_left a.left p)
resumed s a ended p = ends ended p

unfoldable pub opens : Setting → Call → Work Reached
opens s c = begins s.costs c >>= λ _. runs s

-- what comes of a call after these answers, the newest first
unfoldable pub part : Call → Outset → List Answer → Ran Reached
part c o [] = opens (setting_of c o) c (start c o)
part c o (a ∷ earlier) =
    let r = part c o earlier in
    resumed (setting_of c o) a r.ended r.place

-- the place from which a call goes on with the newest of these answers
abbrev pub place_before : Call → Outset → List Answer → Place
place_before c o [] = start c o
place_before c o (a ∷ earlier) = with_left a.left (part c o earlier).place
