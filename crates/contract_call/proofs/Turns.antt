-- Turns one after the other.
use Rattle.std.proofs.Common.{◌≡◌, ◌+◌, ◌-◌, ◌<◌, ◌≤◌, suc, refl, sym, ◌∙◌, ap, subst, ℕ, List, Some, None, Result, Ok, Err, arith}
use Rattle.std.specs.Global.{Vec}
use Rattle.kv_layers.specs.declared.layers.Layers.{Layers}
use Rattle.kv_layers.specs.Bytes.{Bytes}
use Rattle.kv_layers.specs.Maps.{Maps, changed}
use Rattle.gas_store.specs.declared.scoped.Scoped.{Scoped}
use Rattle.gas_store.specs.Storage.{HasOthers}
use Rattle.gas_store.specs.Views.{addr_of}
use Rattle.wasm_machine.specs.declared.machine.Machine.{Machine}
use Rattle.wasm_types.specs.declared.value.Value.{Value}
use Rattle.wasm_machine.specs.Acts.{ask}
use Rattle.host_imports.specs.declared.fault.CallFault.{CallFault}
use Rattle.host_imports.specs.Faults.{fault_view}
use Rattle.host_imports.specs.Work.{Place, Ended, gave, faulted, ran_out, Work}
use Rattle.host_imports.specs.Imports.{Setting, Settled, answered, wants_query, host}
use Rattle.host_imports.specs.Reaching.{IsAt, Holds, Reaches}
use Rattle.contract_call.specs.declared.stop.Stop.{Stop}
use Rattle.contract_call.specs.declared.stop.Stop.TheVariants as stops
use Rattle.contract_call.specs.declared.stop.Pause.{Pause}
use Rattle.contract_call.specs.declared.stop.Pause.TheVariants.{Query}
use Rattle.contract_call.specs.Calls.{Reached, comes_to, turn, unless_reached, turns, runs}
use Rattle.contract_call.specs.Parts.{ended_of, answered_view, query_view, pause_view, turn_view, Does, Leads}
use Rattle.contract_call.proofs.Works.{for_some, goes_then, reach_along, reach_from, does_then, does_stop, done_does}

pub leads_here : {B A : Type 0} {S : B → Bytes → Type 0} {layers : Layers B} {store : Scoped} {k : Machine} {g : ℕ} (work : Work A) → Leads S layers layers store store k k g g work work
leads_here work = record {
  leads = λ maps p at holds. record { place = p; is = refl; at = at; map = maps.current; holds = holds; others = λ place other. refl; same = refl };
}

-- after a turn at an import that was answered, one turn fewer is left
pub leads_turn : {B : Type 0} {S : B → Bytes → Type 0} {l0 l1 : Layers B} {s0 s1 : Scoped} {k0 k1 : Machine} {g0 g1 : ℕ} (s : Setting) (n : ℕ) → Does S l0 l1 s0 s1 k0 k1 g0 g1 (turn s) turn_view (Ok None) → Leads S l0 l1 s0 s1 k0 k1 g0 g1 (turns s (suc n)) (turns s n)
unfolding turns
leads_turn s n d = record {
  leads = λ maps p at holds.
      let r = d.does maps p at holds in
      record { place = (turn s p).place; is = goes_then (turn s) (unless_reached (turns s n)) p None r.ended_so; at = r.machine_left; map = r.map; holds = r.holds; others = r.others; same = r.same };
}

others_on : {addr mid : List ℕ} (a b c : Bytes) → mid ≡ addr → HasOthers addr a b → HasOthers mid b c → HasOthers addr a c
others_on a b c same first second = λ place other. subst (λ (x : List ℕ). HasOthers x b c) same second place other ∙ first place other

pub leads_then : {B A : Type 0} {S : B → Bytes → Type 0} {l0 l1 l2 : Layers B} {s0 s1 s2 : Scoped} {k0 k1 k2 : Machine} {g0 g1 g2 : ℕ} {work mid rest : Work A} → Leads S l0 l1 s0 s1 k0 k1 g0 g1 work mid → Leads S l1 l2 s1 s2 k1 k2 g1 g2 mid rest → Leads S l0 l2 s0 s2 k0 k2 g0 g2 work rest
leads_then first second = record {
  leads = λ maps p at holds.
      let a = first.leads maps p at holds in
      let b = second.leads (changed maps a.map) a.place a.at a.holds in
      record { place = b.place; is = a.is ∙ b.is; at = b.at; map = b.map; holds = b.holds; others = others_on maps.current a.map b.map a.same a.others b.others; same = b.same ∙ a.same };
}

pub leads_does : {B X A : Type 0} {S : B → Bytes → Type 0} {l0 l1 l2 : Layers B} {s0 s1 s2 : Scoped} {k0 k1 k2 : Machine} {g0 g1 g2 : ℕ} {work rest : Work A} {view : X → A} {result : Result X Stop} → Leads S l0 l1 s0 s1 k0 k1 g0 g1 work rest → Does S l1 l2 s1 s2 k1 k2 g1 g2 rest view result → Does S l0 l2 s0 s2 k0 k2 g0 g2 work view result
leads_does {view = view} {result = result} first second = record {
  does = λ maps p at holds.
      let a = first.leads maps p at holds in
      for_some (ended_of view result) (λ ended c. reach_along a.is (reach_from a.others a.same c)) (second.does (changed maps a.map) a.place a.at a.holds);
}

-- the last turn
pub turn_over : {B : Type 0} {S : B → Bytes → Type 0} {l0 l1 : Layers B} {s0 s1 : Scoped} {k0 k1 : Machine} {g0 g1 : ℕ} (s : Setting) (n : ℕ) (pause : Pause) → Does S l0 l1 s0 s1 k0 k1 g0 g1 (turn s) turn_view (Ok (Some pause)) → Does S l0 l1 s0 s1 k0 k1 g0 g1 (turns s (suc n)) pause_view (Ok pause)
unfolding turns
turn_over s n pause d = does_then (unless_reached (turns s n)) d (done_does pause)

pub turn_stop : {B : Type 0} {S : B → Bytes → Type 0} {l0 l1 : Layers B} {s0 s1 : Scoped} {k0 k1 : Machine} {g0 g1 : ℕ} (s : Setting) (n : ℕ) (stop : Stop) → Does S l0 l1 s0 s1 k0 k1 g0 g1 (turn s) turn_view (Err stop) → Does S l0 l1 s0 s1 k0 k1 g0 g1 (turns s (suc n)) pause_view (Err stop)
unfolding turns
turn_stop s n stop d = does_stop (unless_reached (turns s n)) stop d

-- ---- imports

abbrev pub Handles : {B : Type 0} → (B → Bytes → Type 0) → Layers B → Layers B → Scoped → Scoped → Machine → Machine → ℕ → ℕ → Setting → ℕ → List Value → Ended Settled → Type 0
Handles S l0 l1 s0 s1 k0 k1 g0 g1 s i args ended = (maps : Maps) (p : Place) → IsAt k0 g0 p → Holds S l0 maps s0 p → Reaches S l1 maps (addr_of s0) s1 k1 g1 (host s i args p) ended

pub answered_does : {B : Type 0} {S : B → Bytes → Type 0} {l0 l1 : Layers B} {s0 s1 : Scoped} {k0 k1 : Machine} {g0 g1 : ℕ} (s : Setting) (i : ℕ) (args : List Value) → Handles S l0 l1 s0 s1 k0 k1 g0 g1 s i args (gave answered) → Does S l0 l1 s0 s1 k0 k1 g0 g1 (comes_to s (ask i args)) turn_view (Ok None)
answered_does s i args h = does_then {view = answered_view} {x = tt} _ (record { does = h }) (done_does None)

pub query_does : {B : Type 0} {S : B → Bytes → Type 0} {l0 l1 : Layers B} {s0 s1 : Scoped} {k0 k1 : Machine} {g0 g1 : ℕ} (s : Setting) (i : ℕ) (args : List Value) (request : Vec ℕ) → Handles S l0 l1 s0 s1 k0 k1 g0 g1 s i args (gave (wants_query request.items)) → Does S l0 l1 s0 s1 k0 k1 g0 g1 (comes_to s (ask i args)) turn_view (Ok (Some (Query request)))
query_does s i args request h = does_then {view = query_view} {x = request} _ (record { does = h }) (done_does (Some (Query request)))

pub fault_does : {B : Type 0} {S : B → Bytes → Type 0} {l0 l1 : Layers B} {s0 s1 : Scoped} {k0 k1 : Machine} {g0 g1 : ℕ} (s : Setting) (i : ℕ) (args : List Value) (fault : CallFault) → Handles S l0 l1 s0 s1 k0 k1 g0 g1 s i args (faulted (fault_view fault)) → Does S l0 l1 s0 s1 k0 k1 g0 g1 (comes_to s (ask i args)) turn_view (Err (stops.Fault fault))
fault_does s i args fault h = does_stop {view = answered_view} _ (stops.Fault fault) (record { does = h })

pub ran_out_does : {B : Type 0} {S : B → Bytes → Type 0} {l0 l1 : Layers B} {s0 s1 : Scoped} {k0 k1 : Machine} {g0 g1 : ℕ} (s : Setting) (i : ℕ) (args : List Value) → Handles S l0 l1 s0 s1 k0 k1 g0 g1 s i args ran_out → Does S l0 l1 s0 s1 k0 k1 g0 g1 (comes_to s (ask i args)) turn_view (Err stops.OutOfGas)
ran_out_does s i args h = does_stop {view = answered_view} _ stops.OutOfGas (record { does = h })

-- ---- in a loop, in which more turns are left than gas

pub turned_on : {B : Type 0} {S : B → Bytes → Type 0} {l0 l1 l2 : Layers B} {s0 s1 s2 : Scoped} {k0 k1 k2 : Machine} {g0 g1 g2 : ℕ} (s t : Setting) (n m : ℕ) → s ≡ t → g1 < m → g2 < g1 → Leads S l0 l1 s0 s1 k0 k1 g0 g1 (turns s n) (turns s m) → Does S l1 l2 s1 s2 k1 k2 g1 g2 (turn t) turn_view (Ok None) → (k : ℕ) × (g2 < k) × Leads S l0 l2 s0 s2 k0 k2 g0 g2 (turns s n) (turns s k)
turned_on {S = S} {l0 = l0} {l1 = l1} {l2 = l2} {s0 = s0} {s1 = s1} {s2 = s2} {k0 = k0} {k1 = k1} {k2 = k2} {g0 = g0} {g1 = g1} {g2 = g2} s t n m same h less on d =
    let e : m ≡ suc (m - 1) = omega arith in
    let here = subst (λ (x : ℕ). Leads S l0 l1 s0 s1 k0 k1 g0 g1 (turns s n) (turns s x)) e on in
    let one = subst (λ (x : Setting). Does S l1 l2 s1 s2 k1 k2 g1 g2 (turn x) turn_view (Ok None)) (sym same) d in
    (m - 1, omega arith, leads_then here (leads_turn s (m - 1) one))

pub over_on : {B : Type 0} {S : B → Bytes → Type 0} {l0 l1 l2 : Layers B} {s0 s1 s2 : Scoped} {k0 k1 k2 : Machine} {g0 g1 g2 : ℕ} (s t : Setting) (n m : ℕ) (pause : Pause) → s ≡ t → g1 < m → Leads S l0 l1 s0 s1 k0 k1 g0 g1 (turns s n) (turns s m) → Does S l1 l2 s1 s2 k1 k2 g1 g2 (turn t) turn_view (Ok (Some pause)) → Does S l0 l2 s0 s2 k0 k2 g0 g2 (turns s n) pause_view (Ok pause)
over_on {S = S} {l0 = l0} {l1 = l1} {l2 = l2} {s0 = s0} {s1 = s1} {s2 = s2} {k0 = k0} {k1 = k1} {k2 = k2} {g0 = g0} {g1 = g1} {g2 = g2} s t n m pause same h on d =
    let e : m ≡ suc (m - 1) = omega arith in
    let here = subst (λ (x : ℕ). Leads S l0 l1 s0 s1 k0 k1 g0 g1 (turns s n) (turns s x)) e on in
    let one = subst (λ (x : Setting). Does S l1 l2 s1 s2 k1 k2 g1 g2 (turn x) turn_view (Ok (Some pause))) (sym same) d in
    leads_does here (turn_over s (m - 1) pause one)

pub stop_on : {B : Type 0} {S : B → Bytes → Type 0} {l0 l1 l2 : Layers B} {s0 s1 s2 : Scoped} {k0 k1 k2 : Machine} {g0 g1 g2 : ℕ} (s t : Setting) (n m : ℕ) (stop : Stop) → s ≡ t → g1 < m → Leads S l0 l1 s0 s1 k0 k1 g0 g1 (turns s n) (turns s m) → Does S l1 l2 s1 s2 k1 k2 g1 g2 (turn t) turn_view (Err stop) → Does S l0 l2 s0 s2 k0 k2 g0 g2 (turns s n) pause_view (Err stop)
stop_on {S = S} {l0 = l0} {l1 = l1} {l2 = l2} {s0 = s0} {s1 = s1} {s2 = s2} {k0 = k0} {k1 = k1} {k2 = k2} {g0 = g0} {g1 = g1} {g2 = g2} s t n m stop same h on d =
    let e : m ≡ suc (m - 1) = omega arith in
    let here = subst (λ (x : ℕ). Leads S l0 l1 s0 s1 k0 k1 g0 g1 (turns s n) (turns s x)) e on in
    let one = subst (λ (x : Setting). Does S l1 l2 s1 s2 k1 k2 g1 g2 (turn x) turn_view (Err stop)) (sym same) d in
    leads_does here (turn_stop s (m - 1) stop one)

-- ---- the whole run

runs_so : {B X : Type 0} {S : B → Bytes → Type 0} {l0 l1 : Layers B} {s0 s1 : Scoped} {k0 k1 : Machine} {g0 g1 : ℕ} {view : X → Reached} {result : Result X Stop} (s : Setting) → Does S l0 l1 s0 s1 k0 k1 g0 g1 (turns s (suc (g0 + 1))) view result → Does S l0 l1 s0 s1 k0 k1 g0 g1 (runs s) view result
unfolding runs
runs_so {g0 = g0} {view = view} {result = result} s d = record {
  does = λ maps p at holds.
      let e : p.left + 2 ≡ suc (g0 + 1) = let f : p.left ≡ g0 = at.gas in omega arith in
      for_some (ended_of view result) (λ ended c. reach_along (ap (λ (n : ℕ). turns s n p) e) c) (d.does maps p at holds);
}

pub runs_over : {B : Type 0} {S : B → Bytes → Type 0} {l0 l1 : Layers B} {s0 s1 : Scoped} {k0 k1 : Machine} {g0 g1 : ℕ} (s : Setting) (pause : Pause) → Does S l0 l1 s0 s1 k0 k1 g0 g1 (turn s) turn_view (Ok (Some pause)) → Does S l0 l1 s0 s1 k0 k1 g0 g1 (runs s) pause_view (Ok pause)
runs_over {g0 = g0} s pause d = runs_so s (turn_over s (g0 + 1) pause d)

pub runs_stop : {B : Type 0} {S : B → Bytes → Type 0} {l0 l1 : Layers B} {s0 s1 : Scoped} {k0 k1 : Machine} {g0 g1 : ℕ} (s : Setting) (stop : Stop) → Does S l0 l1 s0 s1 k0 k1 g0 g1 (turn s) turn_view (Err stop) → Does S l0 l1 s0 s1 k0 k1 g0 g1 (runs s) pause_view (Err stop)
runs_stop {g0 = g0} s stop d = runs_so s (turn_stop s (g0 + 1) stop d)

pub runs_on : {B : Type 0} {S : B → Bytes → Type 0} {l0 l1 l2 : Layers B} {s0 s1 s2 : Scoped} {k0 k1 k2 : Machine} {g0 g1 g2 : ℕ} {result : Result Pause Stop} (s t : Setting) → s ≡ t → g1 ≤ g0 → Does S l0 l1 s0 s1 k0 k1 g0 g1 (turn s) turn_view (Ok None) → ((n : ℕ) → g1 < n → Does S l1 l2 s1 s2 k1 k2 g1 g2 (turns t n) pause_view result) → Does S l0 l2 s0 s2 k0 k2 g0 g2 (runs s) pause_view result
runs_on {S = S} {l1 = l1} {l2 = l2} {s1 = s1} {s2 = s2} {k1 = k1} {k2 = k2} {g0 = g0} {g1 = g1} {g2 = g2} {result = result} s t same le d rest =
    let more : g1 < g0 + 1 = omega arith in
    let after = subst (λ (x : Setting). Does S l1 l2 s1 s2 k1 k2 g1 g2 (turns x (g0 + 1)) pause_view result) (sym same) (rest (g0 + 1) more) in
    runs_so s (leads_does (leads_turn s (g0 + 1) d) after)
