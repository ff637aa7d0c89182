-- Not for readers of contracts: it serves the proofs of this crate alone.
-- A contract's call in the code: as it begins, where it asks, and as it ends.
use Rattle.std.specs.Prelude.{ℕ, zero, suc, ◌≡◌, ◌<◌, true, List, [], ◌∷◌, Option, Some, None, Result, Ok, Err, string_bytes, ⊤}
use Rattle.std.specs.Option.{is_some}
use Rattle.std.specs.FinMap.{get}
use Rattle.chain_addr.specs.Letters.{IsPrefix}
use Rattle.chain_msgs.specs.Plain.{answer_view}
use Rattle.chain_records.specs.Keys.{IsAddress}
use Rattle.chain_records.specs.Spelled.{OfSome}
use Rattle.chain_records.specs.State.{Bytes, State, Spells}
use Rattle.code_registry.specs.Codes.{bytes_at}
use Rattle.gas_meter.specs.declared.schedule.Schedule.{Schedule}
use Rattle.gatekeeper.specs.Cache.{Tally}
use Rattle.gatekeeper.specs.Fetches.{Tallies}
use Rattle.wasm_types.specs.ModuleText.{module_of}
use Rattle.wasm_types.specs.Plain.{PlainModule}
use Rattle.kv_layers.specs.declared.layers.Layers.{Layers}
use Rattle.kv_layers.specs.Layers.{Stands}
use Rattle.kv_layers.specs.Maps.{Maps, changed}
use Rattle.gas_store.specs.Typed.{with_storage}
use Rattle.gas_store.specs.Views.{addr_of, is_read_only, scans_of}
use Rattle.host_imports.specs.Faults.{fault_view}
use Rattle.host_imports.specs.Work.{Ended, gave, faulted, ran_out}
use Rattle.contract_call.specs.declared.entry.Entry.{Entry}
use Rattle.contract_call.specs.declared.entry.Entry.TheVariants.{Query}
use Rattle.contract_call.specs.declared.step.Step.{Step}
use Rattle.contract_call.specs.declared.step.Step.TheVariants as steps
use Rattle.contract_call.specs.Calls.{Call, call_of, Outset, Answer, only_reads}
use Rattle.contract_call.specs.Running.{StandsForPart, CanGoOn}
use Rattle.contract_call.specs.Steps.{IfQuery, ComesTo}
use Rattle.query_router.specs.declared.calls.Opened.{Opened}
use Rattle.query_router.specs.declared.calls.Begun.{Begun}
use Rattle.query_router.specs.declared.calls.Begun.TheVariants as begun
use Rattle.query_router.specs.declared.stop.QueryStop.{QueryStop}
use Rattle.query_router.specs.declared.stop.QueryStop.TheVariants.{OutOfGas, NoMemory}
use Rattle.query_router.specs.Endings.{EndsAt}
use Rattle.query_router.specs.Lawful.{IsLawful}
use Rattle.query_router.specs.Calls.{Called, fetched_before, gathered, gathered_all, outset_of, smart_at, smart_told, too_deep}
use Rattle.query_router.specs.Parts.{out_of_gas}
use Rattle.query_router.specs.Queries.{Queried, Asking, Smart, answers}

-- ---- the beginning

-- the code was fetched, and nothing else was done of the call
pub record IsCallOf (s : State) (id : ℕ) (entry : Entry) (args : List (List ℕ)) (before after : Option Tally) (opened : Opened) : Type 0 where
  pub bytes : List ℕ
  pub has_code : bytes_at s id ≡ Some bytes
  pub «module» : PlainModule
  pub has_module : module_of bytes ≡ Some «module»
  pub stands : (o : Outset) → StandsForPart opened.running (call_of «module» entry args (is_some (get s.pins id))) o []
  pub fetched : Tallies before (bytes ∷ []) after

abbrev pub IsOpenedAt : State → ℕ → Entry → List (List ℕ) → Option Tally → Option Tally → Option Opened → Type 0
IsOpenedAt s id entry args before after None = (bytes_at s id ≡ None) × (after ≡ before)
IsOpenedAt s id entry args before after (Some opened) = IsCallOf s id entry args before after opened

-- it can begin
pub record IsReadyAt (prefix addr : List ℕ) (entry : Entry) (opened : Opened) : Type 0 where
  pub can_go_on : CanGoOn opened.running
  pub same_addr : addr_of opened.store ≡ addr
  pub read_only : is_read_only opened.store ≡ only_reads entry
  pub scans : scans_of opened.store ≡ []
  pub same_prefix : string_bytes opened.prefix ≡ prefix

abbrev pub IsReady : List ℕ → List ℕ → Entry → Option Opened → Type 0
IsReady prefix addr entry None = ⊤
IsReady prefix addr entry (Some opened) = IsReadyAt prefix addr entry opened

-- ---- a query, whose own queries are asked in some way

-- nothing was done yet but that the code was fetched, and the answer is what comes of this call
pub record IsQueryCall (s : State) (costs : Schedule) (left : ℕ) (before after : Option Tally) (part : Asking → Queried) (opened : Opened) : Type 0 where
  pub call : Call
  pub code : List ℕ
  pub stands : (o : Outset) → StandsForPart opened.running call o []
  pub reads : call.entry ≡ Query
  pub same_prefix : string_bytes opened.prefix ≡ s.facts.prefix
  pub fetched : Tallies before (code ∷ []) after
  pub told : (ask : Asking) → part ask ≡ smart_told (fetched_before (code ∷ []) (gathered_all ask s (addr_of opened.store) call (outset_of costs s (addr_of opened.store) left)))

-- whatever way that is, the part gives this, or what comes of a call that was begun
abbrev pub Begins : State → Schedule → ℕ → Option Tally → Option Tally → (Asking → Queried) → Result Begun QueryStop → Type 0
Begins s costs left before after part (Ok (begun.Known answer)) = ((ask : Asking) → part ask ≡ answers (answer_view answer) left) × (after ≡ before)
Begins s costs left before after part (Ok (begun.Call opened)) = IsQueryCall s costs left before after part opened
Begins s costs left before after part (Err OutOfGas) = ((ask : Asking) → part ask ≡ out_of_gas left) × (after ≡ before)
Begins s costs left before after part (Err NoMemory) = ⊤

-- its call can begin
pub record IsReadyCall (opened : Opened) : Type 0 where
  pub can_go_on : CanGoOn opened.running
  pub address : IsAddress (addr_of opened.store)
  pub scans : scans_of opened.store ≡ []
  pub prefix : IsPrefix (string_bytes opened.prefix)

-- and it is one that only reads
abbrev pub IsReadyBegun : Begun → Type 0
IsReadyBegun (begun.Known answer) = ⊤
IsReadyBegun (begun.Call opened) = IsReadyCall opened × (is_read_only opened.store ≡ true)

-- of a query that is answered by what comes of a call
abbrev pub IfCall : Begun → Type 0 → Type 0
IfCall (begun.Known answer) P = ⊤
IfCall (begun.Call opened) P = P

-- how contracts are asked that may ask through so many levels below
abbrev pub contracts_at : Schedule → ℕ → Asking → Smart
contracts_at costs zero ask = too_deep
contracts_at costs (suc n) ask = smart_at ask costs

-- ---- on the way

-- its call is this one, of which nothing was done yet
pub record IsBegun (s : State) (opened : Opened) (call : Call) : Type 0 where
  pub stands : (o : Outset) → StandsForPart opened.running call o []
  pub reads : is_read_only opened.store ≡ only_reads call.entry
  pub same_prefix : string_bytes opened.prefix ≡ s.facts.prefix

-- one of the maps spells a lawful state on which a call was begun
abbrev pub HasBegun : (Bytes → Type 0) → Opened → Type 0
HasBegun S opened = OfSome S (λ s. IsLawful s × ((call : Call) × IsBegun s opened call))

-- the contract's address and the prefix are what they should be
pub record IsScope (opened : Opened) : Type 0 where
  pub address : IsAddress (addr_of opened.store)
  pub prefix : IsPrefix (string_bytes opened.prefix)

-- the call is of the contract with this address, and began with these costs and this prefix
pub record IsSetFor (addr : List ℕ) (costs : Schedule) (opened : Opened) (call : Call) (o : Outset) : Type 0 where
  pub same_addr : addr_of opened.store ≡ addr
  pub reads : is_read_only opened.store ≡ only_reads call.entry
  pub same_costs : o.costs ≡ costs
  pub same_prefix : o.prefix ≡ string_bytes opened.prefix

-- After some answers the call has come to this step, and what is still to come of it, behind the codes that were fetched so far, is
-- what comes of it in the end. Of the queries that may still come there are more than there is gas left.
pub record HasCome {B : Type 0} (S : B → Bytes → Type 0) (layers : Layers B) (maps : Maps) (s : State) (addr : List ℕ) (opened : Opened) (left : ℕ) (before after : Option Tally) (ask : Asking) (call : Call) (o : Outset) (called : Called) (step : Step) : Type 0 where
  pub so_far : List Answer
  pub still : ℕ
  pub enough : IfQuery step (left < still)
  pub comes : ComesTo S layers maps addr opened.store opened.running left call o so_far step
  pub codes : List (List ℕ)
  pub fetched : Tallies before codes after
  pub same : called ≡ fetched_before codes (gathered ask s addr call o (suc still) so_far)

-- on one of the lawful states the call has come to this step so far, with such queries
pub record IsUnderway {B : Type 0} (S : B → Bytes → Type 0) (layers : Layers B) (opened : Opened) (left : ℕ) (now : Option Tally) (costs : Schedule) (ask : Asking) (step : Step) : Type 0 where
  pub maps : Maps
  pub state : State
  pub addr : List ℕ
  pub call : Call
  pub outset : Outset
  pub before : Option Tally
  pub called : Called
  pub spelled : Spells maps.current state
  pub lawful : IsLawful state
  pub set_for : IsSetFor addr costs opened call outset
  pub comes : HasCome S layers maps state addr opened left before now ask call outset called step

-- ---- the end

abbrev pub HasGone : {B : Type 0} → (B → Bytes → Type 0) → Layers B → Maps → State → List ℕ → Opened → ℕ → Option Tally → Option Tally → Asking → Call → Outset → Called → Result Step QueryStop → Type 0
HasGone S layers maps s addr opened left before after ask call o called (Ok step) = HasCome S layers maps s addr opened left before after ask call o called step
HasGone S layers maps s addr opened left before after ask call o called (Err OutOfGas) = EndsAt S layers maps s addr left before after called ran_out
HasGone S layers maps s addr opened left before after ask call o called (Err NoMemory) = ⊤

-- how a call ends that comes to this step, which isn't a query
abbrev pub step_end : Step → Ended (List ℕ)
step_end (steps.Finished bytes) = gave bytes.items
step_end (steps.Query request) = ran_out
step_end (steps.Fault fault) = faulted (fault_view fault)
step_end steps.OutOfGas = ran_out
