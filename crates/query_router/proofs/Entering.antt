-- A contract that is called by an entry: the call as it begins, and what comes of it behind the fetch of its code.
use Rattle.std.proofs.Common.{◌≡◌, ℕ, ◌≤◌, List, [], ◌∷◌, ◌++◌, Option, None, Result, Ok, Err, refl, sym, ap, ◌∙◌, subst, arith}
use Rattle.std.specs.Prelude.{string_bytes, length}
use Rattle.std.specs.Option.{is_some}
use Rattle.std.specs.FinMap.{get}
use Rattle.chain_records.specs.Keys.{IsAddress}
use Rattle.chain_records.specs.Laws.{TellsKeys}
use Rattle.chain_records.specs.State.{Bytes, State, Spells}
use Rattle.code_registry.specs.Codes.{bytes_at}
use Rattle.gas_meter.specs.declared.schedule.Schedule.{Schedule}
use Rattle.gas_store.specs.Typed.{storage_in, with_storage, SpellsStorage, SpellsChangedStorage}
use Rattle.gas_store.specs.Views.{addr_of}
use Rattle.gatekeeper.specs.Cache.{Tally}
use Rattle.gatekeeper.specs.Fetches.{Tallies, TalliesJoin}
use Rattle.host_imports.specs.Work.{Ended, ran_out}
use Rattle.kv_layers.specs.declared.layers.Layers.{Layers}
use Rattle.kv_layers.specs.Layers.{Stands, HasCurrent}
use Rattle.kv_layers.specs.Maps.{Maps}
use Rattle.contract_call.specs.declared.entry.Entry.{Entry}
use Rattle.contract_call.specs.Calls.{Call, call_of}
use Rattle.query_router.specs.declared.calls.Opened.{Opened}
use Rattle.query_router.specs.declared.end.CallEnd.{CallEnd}
use Rattle.query_router.specs.declared.stop.QueryStop.{QueryStop}
use Rattle.query_router.specs.declared.stop.QueryStop.TheVariants.{OutOfGas, NoMemory}
use Rattle.query_router.specs.Calling.{IsCallOf, IsReadyAt, IsBegun, HasBegun}
use Rattle.query_router.specs.Calls.{Called, call_on, fetched_before, gathered_all, no_call, outset_of}
use Rattle.query_router.specs.Endings.{EndsAt, Ends, end_view}
use Rattle.query_router.specs.Lawful.{IsLawful, HasLawfulUnder}
use Rattle.query_router.specs.Queries.{Asking}
use Rattle.query_router.proofs.Keeping.{now_spelled}
use Rattle.query_router.proofs.Opening.{called_on, uncalled}
use Rattle.query_router.proofs.Telling.{none_fetched}

-- ---- the beginning

abbrev pub call_at : (s : State) (id : ℕ) (entry : Entry) (args : List (List ℕ)) (before after : Option Tally) (opened : Opened) → IsCallOf s id entry args before after opened → Call
call_at s id entry args before after opened h = call_of h.module entry args (is_some (get s.pins id))

pub entered : (s : State) (id : ℕ) (entry : Entry) (args : List (List ℕ)) (before after : Option Tally) (opened : Opened) (prefix own addr : List ℕ) (h : IsCallOf s id entry args before after opened) → IsReadyAt own addr entry opened → own ≡ prefix → s.facts.prefix ≡ prefix
    → IsBegun s opened (call_at s id entry args before after opened h)
entered s id entry args before after opened prefix own addr h ready same is = record {
  stands = h.stands;
  reads = ready.read_only;
  same_prefix = ready.same_prefix ∙ same ∙ sym is;
}

pub entered_on : {B : Type 0} (S : B → Bytes → Type 0) (layers : Layers B) (id : ℕ) (entry : Entry) (args : List (List ℕ)) (before after : Option Tally) (opened : Opened) (prefix own addr : List ℕ) (u : HasLawfulUnder prefix (HasCurrent S layers))
    → IsCallOf u.state id entry args before after opened → IsReadyAt own addr entry opened → own ≡ prefix → HasBegun (HasCurrent S layers) opened
entered_on S layers id entry args before after opened prefix own addr u h ready same = record {
  map = u.map;
  state = u.state;
  stands = u.stands;
  spelled = u.spelled;
  holds = (u.holds.0, (call_at u.state id entry args before after opened h, entered u.state id entry args before after opened prefix own addr h ready same u.holds.1));
}

-- ---- the end

fetched_at : {B : Type 0} (S : B → Bytes → Type 0) (layers : Layers B) (maps : Maps) (s : State) (addr : List ℕ) (left : ℕ) (before between after : Option Tally) (codes : List (List ℕ)) (called : Called) (ended : Ended (List ℕ)) → TalliesJoin → Tallies before codes between
    → EndsAt S layers maps s addr left between after called ended → EndsAt S layers maps s addr left before after (fetched_before codes called) ended
fetched_at S layers maps s addr left before between after codes called ended join first h = record {
  ended_so = h.ended_so;
  gas = h.gas;
  fetched = join codes called.fetched before between after first h.fetched;
  map = h.map;
  stands = h.stands;
  spelled = h.spelled;
}

fetched_first : {B : Type 0} (S : B → Bytes → Type 0) (layers : Layers B) (maps : Maps) (s : State) (addr : List ℕ) (left : ℕ) (before between after : Option Tally) (codes : List (List ℕ)) (called : Called) (result : Result CallEnd QueryStop) → TalliesJoin → Tallies before codes between
    → Ends S layers maps s addr left between after called result → Ends S layers maps s addr left before after (fetched_before codes called) result
fetched_first S layers maps s addr left before between after codes called (Ok end) join first h = fetched_at S layers maps s addr left before between after codes called (end_view end) join first h
fetched_first S layers maps s addr left before between after codes called (Err OutOfGas) join first h = fetched_at S layers maps s addr left before between after codes called ran_out join first h
fetched_first S layers maps s addr left before between after codes called (Err NoMemory) join first h = tt

-- of the contract that was called, what comes of its call behind the fetch
pub called_ends : {B : Type 0} (S : B → Bytes → Type 0) (layers : Layers B) (maps : Maps) (s : State) (ask : Asking) (costs : Schedule) (id : ℕ) (entry : Entry) (args : List (List ℕ)) (start left : ℕ) (before between after : Option Tally) (opened : Opened) (own addr : List ℕ) (result : Result CallEnd QueryStop) (h : IsCallOf s id entry args before between opened)
    → IsReadyAt own addr entry opened → TalliesJoin
    → Ends S layers maps s (addr_of opened.store) left between after (gathered_all ask s (addr_of opened.store) (call_at s id entry args before between opened h) (outset_of costs s (addr_of opened.store) start)) result
    → Ends S layers maps s addr left before after (call_on ask costs s addr id entry args start) result
called_ends S layers maps s ask costs id entry args start left before between after opened own addr result h ready join ends =
    let call = call_at s id entry args before between opened h in
    let here : Ends S layers maps s addr left between after (gathered_all ask s addr call (outset_of costs s addr start)) result =
    subst (λ (a : List ℕ). Ends S layers maps s a left between after (gathered_all ask s a call (outset_of costs s a start)) result) ready.same_addr ends
    in
    subst (λ (called : Called). Ends S layers maps s addr left before after called result) (sym (called_on ask costs s addr id entry args start h.bytes h.module h.has_code h.has_module))
    (fetched_first S layers maps s addr left before between after (h.bytes ∷ []) (gathered_all ask s addr call (outset_of costs s addr start)) result join h.fetched here)

-- without a code nothing was done
pub uncalled_ends : {B : Type 0} (S : B → Bytes → Type 0) (layers : Layers B) (maps : Maps) (s : State) (ask : Asking) (costs : Schedule) (id : ℕ) (entry : Entry) (args : List (List ℕ)) (left : ℕ) (before after : Option Tally) (addr : List ℕ) → IsAddress addr → TellsKeys → SpellsChangedStorage → SpellsStorage
    → Stands S layers maps → Spells maps.current s → IsLawful s → bytes_at s id ≡ None → after ≡ before → EndsAt S layers maps s addr left before after (call_on ask costs s addr id entry args left) ran_out
uncalled_ends S layers maps s ask costs id entry args left before after addr address tells alone typed stands spelled lawful none same =
    subst (λ (called : Called). EndsAt S layers maps s addr left before after called ran_out) (sym (uncalled ask costs s addr id entry args left none))
    (record {
      ended_so = refl;
      gas = refl;
      fetched = subst (λ (t : Option Tally). Tallies before [] t) (sym same) (none_fetched before);
      map = maps.current;
      stands = stands;
      spelled = subst (λ (st : Bytes). Spells maps.current (with_storage s addr st)) (typed maps.current s addr (let most = address.1 in omega arith) spelled) (now_spelled tells alone maps.current maps.current s addr address spelled lawful (λ place other. refl));
    })
