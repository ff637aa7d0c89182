-- What a query gives, by its levels: where its answer is known as it begins, and where a contract's call gives it.
use Rattle.std.proofs.Common.{◌≡◌, ℕ, zero, suc, ◌-◌, true, List, [], ◌∷◌, Option, Some, Result, Ok, Err, refl, sym, ap, ◌∙◌, subst, arith}
use Rattle.std.specs.Prelude.{IfOk}
use Rattle.chain_msgs.specs.Plain.{answer_view}
use Rattle.chain_msgs.specs.declared.answer.Answer as answer_type
use Rattle.chain_records.specs.State.{Bytes, State, Spells}
use Rattle.gas_meter.specs.declared.schedule.Schedule.{Schedule}
use Rattle.gatekeeper.specs.Cache.{Tally}
use Rattle.gatekeeper.specs.Fetches.{Tallies, TalliesJoin}
use Rattle.kv_layers.specs.declared.layers.Layers.{Layers}
use Rattle.kv_layers.specs.Layers.{Stands, HasCurrent}
use Rattle.kv_layers.specs.Maps.{Maps}
use Rattle.gas_store.specs.Views.{addr_of, is_read_only}
use Rattle.host_imports.specs.Work.{Ended, ran_out}
use Rattle.contract_call.specs.Calls.{Call, only_reads}
use Rattle.query_router.specs.declared.calls.Begun.{Begun}
use Rattle.query_router.specs.declared.calls.Begun.TheVariants as begun
use Rattle.query_router.specs.declared.end.CallEnd.{CallEnd}
use Rattle.query_router.specs.declared.calls.Opened.{Opened}
use Rattle.query_router.specs.declared.stop.QueryStop.{QueryStop}
use Rattle.query_router.specs.declared.stop.QueryStop.TheVariants.{OutOfGas, NoMemory}
use Rattle.query_router.specs.Answering.{Gives}
use Rattle.query_router.specs.Calling.{Begins, IsReadyBegun, IsReadyCall, IfCall, IsBegun, HasBegun, IsQueryCall, contracts_at}
use Rattle.query_router.specs.Endings.{Ends, EndsAt, end_view}
use Rattle.query_router.specs.Calls.{Called, ended_answer, gathered_all, outset_of, queries, query, smart_at}
use Rattle.query_router.specs.Lawful.{IsLawful, HasLawful, OfEachLawful}
use Rattle.query_router.specs.Queries.{Queried, Asking, paid_answer}
use Rattle.query_router.proofs.Telling.{gives}

-- contracts are asked through one level less
at_level : (costs : Schedule) (n below : ℕ) → below ≡ n - 1 → queries costs n ≡ paid_answer (contracts_at costs n (queries costs below)) costs
unfolding queries
at_level costs zero below is = refl
at_level costs (suc n) below is = let e : n ≡ below = omega (arith, is) in ap (λ (k : ℕ). paid_answer (smart_at (queries costs k) costs) costs) e

module _ (costs : Schedule) (depth : ℕ) (s : State) (request : List ℕ) (left : ℕ) where
  is_part : query costs s request depth left ≡ paid_answer (contracts_at costs (10 - depth) (queries costs (9 - depth))) costs s request left
  is_part = ap (λ (f : Asking). f s request left) (at_level costs (10 - depth) (9 - depth) (omega arith))

  pub known_gives : (r : Result Begun QueryStop) (answer : answer_type.Answer) (now : ℕ) (before after : Option Tally) → r ≡ Ok (begun.Known answer)
      → Begins s costs now before after (λ ask. paid_answer (contracts_at costs (10 - depth) ask) costs s request left) r → Gives (Ok answer) now before after (query costs s request depth left)
  known_gives r answer now before after is begins =
      let h = subst (λ (x : Result Begun QueryStop). Begins s costs now before after (λ ask. paid_answer (contracts_at costs (10 - depth) ask) costs s request left) x) is begins in
      subst (λ (t : Option Tally). Gives (Ok answer) now before t (query costs s request depth left)) (sym h.1) (gives (Ok answer) now before (query costs s request depth left) (is_part ∙ h.0 (queries costs (9 - depth))))

  unpaid : (stop : QueryStop) (now : ℕ) (before after : Option Tally)
      → Begins s costs now before after (λ ask. paid_answer (contracts_at costs (10 - depth) ask) costs s request left) (Err stop) → Gives (Err stop) now before after (query costs s request depth left)
  unpaid OutOfGas now before after h =
      subst (λ (t : Option Tally). Gives (Err OutOfGas) now before t (query costs s request depth left)) (sym h.1) (gives (Err OutOfGas) now before (query costs s request depth left) (is_part ∙ h.0 (queries costs (9 - depth))))
  unpaid NoMemory now before after h = tt

  pub unpaid_gives : (r : Result Begun QueryStop) (stop : QueryStop) (now : ℕ) (before after : Option Tally) → r ≡ Err stop
      → Begins s costs now before after (λ ask. paid_answer (contracts_at costs (10 - depth) ask) costs s request left) r → Gives (Err stop) now before after (query costs s request depth left)
  unpaid_gives r stop now before after is begins =
      unpaid stop now before after (subst (λ (x : Result Begun QueryStop). Begins s costs now before after (λ ask. paid_answer (contracts_at costs (10 - depth) ask) costs s request left) x) is begins)

  module _ {B : Type 0} (S : B → Bytes → Type 0) (view later : Layers B) (join : TalliesJoin) (r : Result Begun QueryStop) (opened : Opened) (mid last : ℕ) (before middle after : Option Tally) (is : r ≡ Ok (begun.Call opened)) (reads : is_read_only opened.store ≡ true)
      (begins : Begins s costs mid before middle (λ ask. paid_answer (contracts_at costs (10 - depth) ask) costs s request left) r) (result : Result CallEnd QueryStop)
      (m : Bytes) (stands : HasCurrent S view m) (spelled : Spells m s) (lawful : IsLawful s)
      (runs : (maps : Maps) (s : State) (of : Call) → Stands S view maps → Spells maps.current s → IsLawful s → IsBegun s opened of
      → Ends S later maps s (addr_of opened.store) last middle after (gathered_all (queries costs (9 - depth)) s (addr_of opened.store) of (outset_of costs s (addr_of opened.store) mid)) result) where
    h : IsQueryCall s costs mid before middle (λ ask. paid_answer (contracts_at costs (10 - depth) ask) costs s request left) opened
    h = subst (λ (x : Result Begun QueryStop). Begins s costs mid before middle (λ ask. paid_answer (contracts_at costs (10 - depth) ask) costs s request left) x) is begins

    abbrev called : Called
    called = gathered_all (queries costs (9 - depth)) s (addr_of opened.store) h.call (outset_of costs s (addr_of opened.store) mid)

    ran : (other : Result CallEnd QueryStop) → result ≡ other → Ends S later stands.0 s (addr_of opened.store) last middle after (gathered_all (queries costs (9 - depth)) s (addr_of opened.store) h.call (outset_of costs s (addr_of opened.store) mid)) other
    ran other same =
        subst (λ (x : Result CallEnd QueryStop). Ends S later stands.0 s (addr_of opened.store) last middle after (gathered_all (queries costs (9 - depth)) s (addr_of opened.store) h.call (outset_of costs s (addr_of opened.store) mid)) x) same
        (runs stands.0 s h.call stands.1 (subst (λ (x : Bytes). Spells x s) (sym stands.2) spelled) lawful (record { stands = h.stands; reads = reads ∙ sym (ap only_reads h.reads); same_prefix = h.same_prefix }))

    fetched : (e : Ended (List ℕ)) → EndsAt S later stands.0 s (addr_of opened.store) last middle after (gathered_all (queries costs (9 - depth)) s (addr_of opened.store) h.call (outset_of costs s (addr_of opened.store) mid)) e → Tallies before (query costs s request depth left).fetched after
    fetched e ends =
        subst (λ (codes : List (List ℕ)). Tallies before codes after) (sym (ap (λ (q : Queried). q.fetched) (is_part ∙ h.told (queries costs (9 - depth)))))
        (join (h.code ∷ []) (gathered_all (queries costs (9 - depth)) s (addr_of opened.store) h.call (outset_of costs s (addr_of opened.store) mid)).fetched before middle after h.fetched ends.fetched)

    pub answered_gives : (e : CallEnd) (answer : answer_type.Answer) → result ≡ Ok e → ended_answer (end_view e) ≡ Some (answer_view answer) → Gives (Ok answer) last before after (query costs s request depth left)
    answered_gives e answer same text =
        let ends = ran (Ok e) same in
        let all = is_part ∙ h.told (queries costs (9 - depth)) in
        (ap (λ (q : Queried). q.answer) all ∙ ap ended_answer ends.ended_so ∙ text, ap (λ (q : Queried). q.left) all ∙ ends.gas, fetched (end_view e) ends)

    gone : (stop : QueryStop) → Ends S later stands.0 s (addr_of opened.store) last middle after (gathered_all (queries costs (9 - depth)) s (addr_of opened.store) h.call (outset_of costs s (addr_of opened.store) mid)) (Err stop) → Gives (Err stop) last before after (query costs s request depth left)
    gone OutOfGas ends =
        let all = is_part ∙ h.told (queries costs (9 - depth)) in
        (ap (λ (q : Queried). q.answer) all ∙ ap ended_answer ends.ended_so, ap (λ (q : Queried). q.left) all ∙ ends.gas, fetched ran_out ends)
    gone NoMemory ends = tt

    pub unanswered_gives : (stop : QueryStop) → result ≡ Err stop → Gives (Err stop) last before after (query costs s request depth left)
    unanswered_gives stop same = gone stop (ran (Err stop) same)

-- the call that answers a query was begun on the state
pub query_begun : {B : Type 0} (S : B → Bytes → Type 0) (view : Layers B) (costs : Schedule) (depth : ℕ) (request : List ℕ) (left mid : ℕ) (before middle : Option Tally) (r : Result Begun QueryStop) (opened : Opened) → r ≡ Ok (begun.Call opened) → is_read_only opened.store ≡ true
    → HasLawful (HasCurrent S view) → OfEachLawful (HasCurrent S view) (λ s. Begins s costs mid before middle (λ ask. paid_answer (contracts_at costs (10 - depth) ask) costs s request left) r) → HasBegun (HasCurrent S view) opened
query_begun S view costs depth request left mid before middle r opened is reads lawful begins =
    let h : IsQueryCall lawful.state costs mid before middle (λ ask. paid_answer (contracts_at costs (10 - depth) ask) costs lawful.state request left) opened =
    subst (λ (x : Result Begun QueryStop). Begins lawful.state costs mid before middle (λ ask. paid_answer (contracts_at costs (10 - depth) ask) costs lawful.state request left) x) is (begins lawful.map lawful.state lawful.stands lawful.spelled lawful.holds)
    in
    record {
      map = lawful.map;
      state = lawful.state;
      stands = lawful.stands;
      spelled = lawful.spelled;
      holds = (lawful.holds, (h.call, record { stands = h.stands; reads = reads ∙ sym (ap only_reads h.reads); same_prefix = h.same_prefix }));
    }

-- which can begin, only reads, and isn't too deep
pub begun_ready : (r : Result Begun QueryStop) (opened : Opened) → IfOk r IsReadyBegun → r ≡ Ok (begun.Call opened) → IsReadyCall opened × (is_read_only opened.store ≡ true)
begun_ready r opened ready is = subst (λ (x : Result Begun QueryStop). IfOk x IsReadyBegun) is ready

pub begun_deep : (P : Type 0) (r : Result Begun QueryStop) (opened : Opened) → IfOk r (λ b. IfCall b P) → r ≡ Ok (begun.Call opened) → P
begun_deep P r opened deep is = subst (λ (x : Result Begun QueryStop). IfOk x (λ b. IfCall b P)) is deep
