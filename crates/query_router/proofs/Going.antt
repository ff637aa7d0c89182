-- A call that asks is answered and goes on, and a call that is over ends.
use Rattle.std.proofs.Common.{◌≡◌, ℕ, suc, zero, ◌+◌, ◌≤◌, ◌<◌, List, [], ◌∷◌, ◌++◌, Option, Some, None, refl, sym, ap, ◌∙◌, subst, arith}
use Rattle.std.proofs.lemmas.List.{append-nil}
use Rattle.std.specs.Prelude.{string_bytes}
use Rattle.chain_msgs.specs.Plain.{answer_view}
use Rattle.chain_msgs.specs.Texts.{answer_text}
use Rattle.chain_msgs.specs.declared.answer.Answer as answer_type
use Rattle.chain_records.specs.Keys.{IsAddress}
use Rattle.chain_records.specs.Laws.{TellsKeys}
use Rattle.chain_records.specs.State.{Bytes, State, Spells}
use Rattle.gatekeeper.specs.Cache.{Tally}
use Rattle.gatekeeper.specs.Fetches.{Tallies, TalliesJoin}
use Rattle.gas_meter.specs.declared.schedule.Schedule.{Schedule}
use Rattle.kv_layers.specs.declared.layers.Layers.{Layers}
use Rattle.kv_layers.specs.Layers.{Stands, Turns}
use Rattle.kv_layers.specs.Maps.{Maps, changed}
use Rattle.gas_store.specs.Storage.{storage_of, IsOther}
use Rattle.gas_store.specs.Typed.{with_storage, SpellsStorage, SpellsChangedStorage}
use Rattle.gas_store.specs.Views.{addr_of, is_read_only}
use Rattle.host_imports.specs.Work.{Ended, gave, faulted, ran_out}
use Rattle.contract_call.specs.declared.step.Step.{Step}
use Rattle.contract_call.specs.declared.step.Step.TheVariants as steps
use Rattle.contract_call.specs.Calls.{Call, Outset, wants, part, only_reads}
use Rattle.contract_call.specs.Steps.{IfQuery, GoesOnFrom, ComesTo}
use Rattle.query_router.specs.declared.calls.Opened.{Opened}
use Rattle.query_router.specs.Calls.{Called, over, fetched_before, gathered, gathered_all, outset_of}
use Rattle.query_router.specs.Calling.{HasCome, IsBegun, IsReadyCall, step_end}
use Rattle.query_router.specs.Endings.{EndsAt}
use Rattle.query_router.specs.Lawful.{IsLawful}
use Rattle.query_router.specs.Queries.{Queried, Asking}
use Rattle.query_router.proofs.Gathering.{answered_here, unanswered_here, finished_here, faulted_here, ran_out_here, fetched_twice}
use Rattle.query_router.proofs.Keeping.{now_spelled, now_lawful}

above : (a b : ℕ) → a < b → (m : ℕ) × (b ≡ suc m)
above a zero h = absurd (omega (arith, h))
above a (suc m) h = (m, refl)

pub if_query : (step : Step) (P Q : Type 0) → (P → Q) → IfQuery step P → IfQuery step Q
if_query (steps.Finished bytes) P Q f h = tt
if_query (steps.Query request) P Q f h = f h
if_query (steps.Fault fault) P Q f h = tt
if_query steps.OutOfGas P Q f h = tt

-- everything is as the call wants it to go on with an answer
pub goes_from : {B : Type 0} (S : B → Bytes → Type 0) (layers mid : Layers B) (maps : Maps) (s : State) (addr : List ℕ) (opened : Opened) (left gas : ℕ) (before middle : Option Tally) (ask : Asking) (call : Call) (o : Outset) (called : Called) (step : Step)
    (h : HasCome S layers maps s addr opened left before middle ask call o called step) (costs : Schedule) (bytes : List ℕ)
    → Turns S layers mid (λ maps. maps) → is_read_only opened.store ≡ only_reads call.entry → o.costs ≡ costs → o.prefix ≡ string_bytes opened.prefix
    → GoesOnFrom S mid (changed maps h.comes.map) opened.store gas costs (string_bytes opened.prefix) call o (record { bytes = bytes; left = gas } ∷ h.so_far)
goes_from S layers mid maps s addr opened left gas before middle ask call o called step h costs bytes turns reads same_costs same_prefix = record {
  holds = record { stands = turns (changed maps h.comes.map) h.comes.holds.stands; storage = h.comes.holds.storage; scans = h.comes.holds.scans };
  gas = refl;
  read_only = reads;
  same_costs = same_costs;
  same_prefix = same_prefix;
}

module _ {B : Type 0} (S : B → Bytes → Type 0) (maps : Maps) (s : State) (addr : List ℕ) (address : IsAddress addr) (tells : TellsKeys) (alone : SpellsChangedStorage) (spelled : Spells maps.current s) (lawful : IsLawful s)
    (ask : Asking) (call : Call) (o : Outset) (called : Called) (before : Option Tally) where
  module _ (layers : Layers B) (opened : Opened) (same_addr : addr_of opened.store ≡ addr) (left : ℕ) (middle : Option Tally) (step : Step) (h : HasCome S layers maps s addr opened left before middle ask call o called step) where
    stored : storage_of h.comes.map addr ≡ (part call o h.so_far).place.storage
    stored = sym (h.comes.holds.storage ∙ ap (storage_of h.comes.map) same_addr)

    -- the state in which the call is now
    pub here_spelled : Spells h.comes.map (with_storage s addr (part call o h.so_far).place.storage)
    here_spelled = let P : Bytes → Type 0 = λ st. Spells h.comes.map (with_storage s addr st) in subst P stored (now_spelled tells alone maps.current h.comes.map s addr address spelled lawful h.comes.others)

    pub here_lawful : IsLawful (with_storage s addr (part call o h.so_far).place.storage)
    here_lawful = let P : Bytes → Type 0 = λ st. IsLawful (with_storage s addr st) in subst P stored (now_lawful tells alone maps.current h.comes.map s addr address spelled lawful h.comes.others)

    -- it is over
    over_at : (e : Ended (List ℕ)) → gathered ask s addr call o (suc h.still) h.so_far ≡ over e (part call o h.so_far).place → EndsAt S layers maps s addr left before middle called e
    over_at e is =
        let same : called ≡ fetched_before h.codes (over e (part call o h.so_far).place) = h.same ∙ ap (fetched_before h.codes) is in
        record {
          ended_so = ap (λ (x : Called). x.ended) same;
          gas = ap (λ (x : Called). x.left) same ∙ h.comes.gas;
          fetched = let P : List (List ℕ) → Type 0 = λ codes. Tallies before codes middle in subst P (sym (ap (λ (x : Called). x.fetched) same ∙ append-nil h.codes)) h.fetched;
          map = h.comes.map;
          stands = h.comes.holds.stands;
          spelled = let P : Bytes → Type 0 = λ st. Spells h.comes.map (with_storage s addr st) in subst P (sym (ap (λ (x : Called). x.storage) same)) here_spelled;
        }

    -- the nested query had no answer, and its map is as before
    pub ends_unanswered : (request : List ℕ) (later : Layers B) (gas : ℕ) (after : Option Tally) (q : Queried) → TalliesJoin
        → (part call o h.so_far).ended ≡ gave (wants request) → ask (with_storage s addr (part call o h.so_far).place.storage) request (part call o h.so_far).place.left ≡ q
        → q.answer ≡ None → q.left ≡ gas → Tallies middle q.fetched after → Turns S layers later (λ maps. maps) → EndsAt S later maps s addr gas before after called ran_out
    ends_unanswered request later gas after q join wanted is none last fetched turns =
        let same = h.same ∙ ap (fetched_before h.codes) (unanswered_here ask s addr call o h.still h.so_far request q wanted is none) in
        record {
          ended_so = ap (λ (x : Called). x.ended) same;
          gas = ap (λ (x : Called). x.left) same ∙ last;
          fetched = let P : List (List ℕ) → Type 0 = λ codes. Tallies before codes after in subst P (sym (ap (λ (x : Called). x.fetched) same)) (join h.codes q.fetched before middle after h.fetched fetched);
          map = h.comes.map;
          stands = turns (changed maps h.comes.map) h.comes.holds.stands;
          spelled = let P : Bytes → Type 0 = λ st. Spells h.comes.map (with_storage s addr st) in subst P (sym (ap (λ (x : Called). x.storage) same)) here_spelled;
        }

  -- the nested query was answered, and the call went on with that
  pub comes_answered : (layers later : Layers B) (opened now : Opened) → addr_of opened.store ≡ addr → (left gas last : ℕ) (middle after : Option Tally) (step step' : Step) (request : List ℕ) (a : answer_type.Answer) (bytes : List ℕ) (q : Queried)
      (h : HasCome S layers maps s addr opened left before middle ask call o called step)
      → TalliesJoin → (part call o h.so_far).ended ≡ gave (wants request) → left < h.still
      → ask (with_storage s addr (part call o h.so_far).place.storage) request (part call o h.so_far).place.left ≡ q
      → q.answer ≡ Some (answer_view a) → q.left ≡ gas → Tallies middle q.fetched after → bytes ≡ answer_text (answer_view a) → gas ≤ left → IfQuery step' (last < gas)
      → ComesTo S later (changed maps h.comes.map) (addr_of opened.store) now.store now.running last call o (record { bytes = bytes; left = gas } ∷ h.so_far) step'
      → HasCome S later maps s addr now last before after ask call o called step'
  comes_answered layers later opened now same_addr left gas last middle after step step' request a bytes q h join wanted enough is there gas_is fetched text less falls n =
      let m = above left h.still enough in
      let at_most : left ≤ m.0 = let e = m.1 in omega (arith, e, enough) in
      record {
        so_far = record { bytes = bytes; left = gas } ∷ h.so_far;
        still = m.0;
        enough = if_query step' (last < gas) (last < m.0) (λ l. omega (arith, l, less, at_most)) falls;
        comes = record {
          ended_so = n.ended_so;
          gas = n.gas;
          map = n.map;
          holds = record { stands = n.holds.stands; storage = n.holds.storage; scans = n.holds.scans };
          others = λ place other. let P : List ℕ → Type 0 = λ x. IsOther x place in n.others place (subst P (sym same_addr) other) ∙ h.comes.others place other;
          stands = n.stands;
        };
        codes = h.codes ++ q.fetched;
        fetched = join h.codes q.fetched before middle after h.fetched fetched;
        same =
            h.same ∙ ap (fetched_before h.codes) (answered_here ask s addr call o h.still h.so_far request q (answer_view a) bytes gas wanted is there gas_is text)
            ∙ fetched_twice h.codes q.fetched (gathered ask s addr call o h.still (record { bytes = bytes; left = gas } ∷ h.so_far))
            ∙ ap (λ (k : ℕ). fetched_before (h.codes ++ q.fetched) (gathered ask s addr call o k (record { bytes = bytes; left = gas } ∷ h.so_far))) m.1;
      }

  -- a call that doesn't ask is over
  pub ends_so : (layers : Layers B) (opened : Opened) → addr_of opened.store ≡ addr → (left : ℕ) (after : Option Tally) (step : Step) → IfQuery step ⊥ → HasCome S layers maps s addr opened left before after ask call o called step
      → EndsAt S layers maps s addr left before after called (step_end step)
  ends_so layers opened same left after (steps.Finished bytes) none h = over_at layers opened same left after (steps.Finished bytes) h (gave bytes.items) (finished_here ask s addr call o h.still h.so_far bytes.items h.comes.ended_so)
  ends_so layers opened same left after (steps.Query request) none h = absurd none
  ends_so layers opened same left after (steps.Fault fault) none h = over_at layers opened same left after (steps.Fault fault) h (faulted _) (faulted_here ask s addr call o h.still h.so_far _ h.comes.ended_so)
  ends_so layers opened same left after steps.OutOfGas none h = over_at layers opened same left after steps.OutOfGas h ran_out (ran_out_here ask s addr call o h.still h.so_far h.comes.ended_so)

-- ---- the beginning

if_any : (step : Step) {P : Type 0} → P → IfQuery step P
if_any (steps.Finished bytes) p = tt
if_any (steps.Query request) p = p
if_any (steps.Fault fault) p = tt
if_any steps.OutOfGas p = tt

module _ {B : Type 0} (S : B → Bytes → Type 0) (maps : Maps) (s : State) (opened : Opened) (ready : IsReadyCall opened) (typed : SpellsStorage) (layers : Layers B) (stands : Stands S layers maps) (spelled : Spells maps.current s)
    (call : Call) (begun : IsBegun s opened call) (costs : Schedule) (left : ℕ) where
  pub begins_from : GoesOnFrom S layers maps opened.store left costs (string_bytes opened.prefix) call (outset_of costs s (addr_of opened.store) left) []
  begins_from = record {
    holds = record { stands = stands; storage = sym (typed maps.current s (addr_of opened.store) (let most = ready.address.1 in omega arith) spelled); scans = sym ready.scans };
    gas = refl;
    read_only = begun.reads;
    same_costs = refl;
    same_prefix = sym begun.same_prefix;
  }

  pub begins_so : (later : Layers B) (now : Opened) (last : ℕ) (tally : Option Tally) (ask : Asking) (step : Step) → Tallies tally [] tally → last ≤ left
      → ComesTo S later maps (addr_of opened.store) now.store now.running last call (outset_of costs s (addr_of opened.store) left) [] step
      → HasCome S later maps s (addr_of opened.store) now last tally tally ask call (outset_of costs s (addr_of opened.store) left) (gathered_all ask s (addr_of opened.store) call (outset_of costs s (addr_of opened.store) left)) step
  begins_so later now last tally ask step none less comes = record {
    so_far = [];
    still = left + 1;
    enough = if_any step (omega (arith, less));
    comes = comes;
    codes = [];
    fetched = none;
    same = let two : left + 2 ≡ suc (left + 1) = omega arith in ap (λ (n : ℕ). gathered ask s (addr_of opened.store) call (outset_of costs s (addr_of opened.store) left) n []) two;
  }
