-- What the host does where a contract calls an import (CosmWasm 1.x). The order within one import can be read off its line: what may
-- not be asked comes first, then the Regions in the order of the arguments, what may not be stored, the whole cost, the effect, and
-- the answer's Region.
use Rattle.std.specs.Prelude.{ℕ, ◌==◌, Bool, List, length, Option, Some, None, Result, Ok, Err, if◌then◌else◌}
use Rattle.gas_meter.specs.declared.schedule.Schedule.{Schedule}
use Rattle.gas_meter.specs.Costs.{debug_cost}
use Rattle.gas_meter.specs.Gas.{unused}
use Rattle.kv_layers.specs.declared.order.Order.{Order}
use Rattle.kv_layers.specs.declared.order.Order.TheVariants.{Ascending, Descending}
use Rattle.gas_store.specs.declared.stop.StoreStop.{StoreStop}
use Rattle.gas_store.specs.declared.stop.StoreStop.TheVariants as stops
use Rattle.gas_store.specs.Store.{Store, Step, read, write, erase, start, next}
use Rattle.wasm_types.specs.declared.value.Value.{Value}
use Rattle.wasm_types.specs.declared.value.Value.TheVariants.{I32}
use Rattle.wasm_machine.specs.Acts.{answer}
use Rattle.host_imports.specs.declared.request.Request.{Request}
use Rattle.host_imports.specs.declared.request.Request.TheVariants.{DbRead, DbWrite, DbRemove, DbScan, DbNext, AddrValidate, AddrCanonicalize, AddrHumanize, Debug, QueryChain, Abort, Signature}
use Rattle.host_imports.specs.Numbers.{spelled}
use Rattle.host_imports.specs.Faults.{write_in_query, empty_value, bad_order, no_such_scan, too_many_scans, signature_out_of_scope}
use Rattle.host_imports.specs.Work.{Place, Ended, faulted, ran_out, Work, acted, ends, done, faults, charge, ◌>>=◌}
use Rattle.host_imports.specs.Requests.{asked}
use Rattle.host_imports.specs.Allocation.{misplaced, region, writes, longest_text, aborts, gives}
use Rattle.host_imports.specs.Addresses.{canonical, human, refused}

-- what steps cost, whether the call only reads, and the prefix of the chain's addresses
pub record Setting : Type 0 where
  pub costs : Schedule
  pub read_only : Bool
  pub prefix : List ℕ

abbrev pub setting : Schedule → Bool → List ℕ → Setting
setting costs read_only prefix = record { costs = costs; read_only = read_only; prefix = prefix }

-- an import has its answer, or it asks the chain this
pub data Settled : Type 0 where
  answered : Settled
  wants_query : List ℕ → Settled

-- ---- answers

-- the contract gets this answer, or none
unfoldable pub answers : Option Value → Work Settled
answers value p = done answered (acted (answer value) p)

-- the contract gets a pointer to a new Region with these bytes
unfoldable pub answers_with : Schedule → List ℕ → Work Settled
answers_with costs bytes = gives costs bytes >>= λ pointer. answers (Some (I32 pointer))

abbrev pub answers_found : Schedule → Option (List ℕ) → Work Settled
answers_found costs None = answers (Some (I32 0))
answers_found costs (Some bytes) = answers_with costs bytes

-- ---- storage and scans

-- keys and bounds, and values, have at most so many bytes
abbrev pub longest_key : ℕ
longest_key = 65536

abbrev pub longest_value : ℕ
longest_value = 131072

abbrev pub store_at : Place → Store
store_at p = record { storage = p.storage; scans = p.scans; gas = unused p.left }

abbrev pub after_store : Store → Place → Place
after_store store p = record p { storage = store.storage; scans = store.scans; left = store.gas.left }

-- (a step never answers want of memory)
abbrev pub refusal : {A : Type 0} → StoreStop → Ended A
refusal stops.OutOfGas = ran_out
refusal stops.WriteInQuery = faulted write_in_query
refusal stops.EmptyValue = faulted empty_value
refusal stops.NoSuchScan = faulted no_such_scan
refusal stops.TooManyScans = faulted too_many_scans
refusal stops.NoMemory = ran_out

abbrev pub took : {A : Type 0} → Step A → Work A
took (Ok a, store) p = done a (after_store store p)
took (Err stop, store) p = ends (refusal stop) (after_store store p)

-- a step on what the contract keeps and on its scans
unfoldable pub stored : {A : Type 0} → (Store → Step A) → Work A
stored step p = took (step (store_at p)) p

abbrev pub may_write : Bool → Work (Unit {0})
may_write read_only = if read_only then faults write_in_query else done tt

abbrev pub order_of : ℕ → Work Order
order_of order = if order == 1 then done Ascending else if order == 2 then done Descending else faults bad_order

-- a bound of a scan, or none
abbrev pub bound : ℕ → Work (Option (List ℕ))
bound pointer = if pointer == 0 then done None else region longest_key pointer >>= λ bytes. done (Some bytes)

unfoldable pub db_read : Schedule → ℕ → Work Settled
db_read costs key =
    region longest_key key >>= λ k.
    stored (read costs k) >>= λ value.
    answers_found costs value

unfoldable pub db_write : Schedule → Bool → ℕ → ℕ → Work Settled
db_write costs read_only key value =
    may_write read_only >>= λ _.
    region longest_key key >>= λ k.
    region longest_value value >>= λ v.
    stored (write read_only costs k v) >>= λ _.
    answers None

unfoldable pub db_remove : Schedule → Bool → ℕ → Work Settled
db_remove costs read_only key =
    may_write read_only >>= λ _.
    region longest_key key >>= λ k.
    stored (erase read_only costs k) >>= λ _.
    answers None

unfoldable pub db_scan : Schedule → ℕ → ℕ → ℕ → Work Settled
db_scan costs lo hi order =
    order_of order >>= λ o.
    bound lo >>= λ l.
    bound hi >>= λ h.
    stored (start costs l h o) >>= λ number.
    answers (Some (I32 number))

unfoldable pub db_next : Schedule → ℕ → Work Settled
db_next costs scan =
    stored (next costs scan) >>= λ found.
    answers_with costs (spelled found)

-- ---- addresses

abbrev pub longest_address_text : ℕ
longest_address_text = 256

abbrev pub longest_address : ℕ
longest_address = 64

-- the bytes are written to a second Region, or a text says why there are none
abbrev pub puts : Schedule → ℕ → Result (List ℕ) (List ℕ) → Work Settled
puts costs target (Ok bytes) = writes bytes target >>= λ _. answers (Some (I32 0))
puts costs target (Err why) = answers_with costs why

unfoldable pub addr_validate : Schedule → List ℕ → ℕ → Work Settled
addr_validate costs prefix text =
    region longest_address_text text >>= λ t.
    charge costs.address >>= λ _.
    answers_found costs (refused prefix t)

unfoldable pub addr_canonicalize : Schedule → List ℕ → ℕ → ℕ → Work Settled
addr_canonicalize costs prefix text target =
    region longest_address_text text >>= λ t.
    charge costs.address >>= λ _.
    puts costs target (canonical prefix t)

unfoldable pub addr_humanize : Schedule → List ℕ → ℕ → ℕ → Work Settled
addr_humanize costs prefix bytes target =
    region longest_address bytes >>= λ b.
    charge costs.address >>= λ _.
    puts costs target (human prefix b)

-- ---- texts and queries

unfoldable pub debug : Schedule → ℕ → Work Settled
debug costs text =
    region longest_text text >>= λ t.
    charge (debug_cost costs (length t)) >>= λ _.
    answers None

unfoldable pub query_chain : ℕ → Work Settled
query_chain request = region longest_text request >>= λ bytes. done (wants_query bytes)

-- ---- all imports

abbrev pub by_request : Setting → Request → Work Settled
by_request s (DbRead key) = db_read s.costs key
by_request s (DbWrite key value) = db_write s.costs s.read_only key value
by_request s (DbRemove key) = db_remove s.costs s.read_only key
by_request s (DbScan lo hi order) = db_scan s.costs lo hi order
by_request s (DbNext scan) = db_next s.costs scan
by_request s (AddrValidate text) = addr_validate s.costs s.prefix text
by_request s (AddrCanonicalize text target) = addr_canonicalize s.costs s.prefix text target
by_request s (AddrHumanize bytes target) = addr_humanize s.costs s.prefix bytes target
by_request s (Debug text) = debug s.costs text
by_request s (QueryChain request) = query_chain request
by_request s (Abort text) = aborts text
by_request s Signature = faults signature_out_of_scope

abbrev pub if_asked : Setting → Option Request → Work Settled
if_asked s None = misplaced
if_asked s (Some request) = by_request s request

-- the contract called the import with this number
unfoldable pub host : Setting → ℕ → List Value → Work Settled
host s import args p = if_asked s (asked p.module import args) p
