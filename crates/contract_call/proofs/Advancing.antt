-- A running call that goes on.
use Rattle.std.proofs.Common.{◌≡◌, sym, ◌∙◌, ap, ℕ, List, [], ◌∷◌, Result}
use Rattle.std.specs.Prelude.{IfSome}
use Rattle.std.specs.Global.{Vec}
use Rattle.gas_meter.specs.declared.schedule.Schedule.{Schedule}
use Rattle.kv_layers.specs.declared.layers.Layers.{Layers}
use Rattle.kv_layers.specs.Bytes.{Bytes}
use Rattle.kv_layers.specs.Maps.{Maps}
use Rattle.gas_store.specs.declared.scoped.Scoped.{Scoped}
use Rattle.gas_store.specs.Views.{addr_of, is_read_only}
use Rattle.wasm_machine.specs.declared.machine.Machine.{Machine}
use Rattle.host_imports.specs.declared.fault.CallFault.{CallFault}
use Rattle.host_imports.specs.Faults.{fault_view}
use Rattle.host_imports.specs.Work.{Ended, gave, faulted, ran_out, with_left}
use Rattle.host_imports.specs.Imports.{Setting, setting}
use Rattle.host_imports.specs.Reaching.{IsAt, Reaches}
use Rattle.contract_call.specs.declared.running.Running.{Running}
use Rattle.contract_call.specs.declared.stage.Stage.{Stage}
use Rattle.contract_call.specs.declared.stage.Stage.TheVariants.{New, Waits, Answered, Over}
use Rattle.contract_call.specs.declared.step.Step.TheVariants.{Finished, Query, Fault, OutOfGas}
use Rattle.contract_call.specs.declared.stop.Stop.{Stop}
use Rattle.contract_call.specs.declared.stop.Pause.{Pause}
use Rattle.contract_call.specs.Calls.{Call, call_of, Outset, Answer, Reached, finished, wants, start, setting_of, opens, hands, resumed, part, place_before}
use Rattle.contract_call.specs.Stages.{CanGoOnAt}
use Rattle.contract_call.specs.Running.{IsAtStage, StandsForPart}
use Rattle.contract_call.specs.Steps.{GoesOnFrom, ComesTo}
use Rattle.contract_call.specs.Parts.{ended_of, pause_view, next_work, Does}
use Rattle.contract_call.proofs.Works.{for_some, reach_along}

-- where a call goes on, and by which work
pub record Goes (stage : Stage) (k : Machine) (left : ℕ) (s : Setting) (c : Call) (o : Outset) (answers : List Answer) : Type 0 where
  pub at : IsAt k left (place_before c o answers)
  pub is : part c o answers ≡ next_work k stage s (place_before c o answers)

same_setting : {B : Type 0} {S : B → Bytes → Type 0} {layers : Layers B} {maps : Maps} {store : Scoped} {left : ℕ} {costs : Schedule} {prefix : List ℕ} {c : Call} {o : Outset} {answers : List Answer} → GoesOnFrom S layers maps store left costs prefix c o answers → setting_of c o ≡ setting costs (is_read_only store) prefix
same_setting from = λ i. setting (from.same_costs i) (sym from.read_only i) (from.same_prefix i)

goes : {B : Type 0} {S : B → Bytes → Type 0} {layers : Layers B} {maps : Maps} {store : Scoped} {left : ℕ} {costs : Schedule} {prefix : List ℕ} (stage : Stage) (k : Machine) (c : Call) (o : Outset) (answers : List Answer) → CanGoOnAt stage k → IsAtStage stage k c o answers → GoesOnFrom S layers maps store left costs prefix c o answers → Goes stage k left (setting costs (is_read_only store) prefix) c o answers
unfolding part
goes (New entry args pinned) k c o [] can at from = record {
  at = record { runs = at.1.runs; acts = at.1.acts; gas = from.gas };
  is = λ i. opens (same_setting from i) (call_of (at.1.runs i) (at.1.same_entry i) (at.1.same_args i) (at.1.same_pinned i)) (start c o);
}
goes (New entry args pinned) k c o (a ∷ earlier) can at from = let no : a ∷ earlier ≡ [] = at.0 in cc
goes Waits k c o answers can at from = absurd can
goes (Answered bytes) k c o [] can at from = absurd at
goes (Answered bytes) k c o (a ∷ earlier) can at from = record {
  at = record { runs = at.1.runs; acts = at.1.acts; gas = from.gas };
  is =
      ap (λ (e : Ended Reached). resumed (setting_of c o) a e (part c o earlier).place) at.1.waits
      ∙ (λ i. hands (same_setting from i) (at.0 i) (with_left a.left (part c o earlier).place));
}
goes Over k c o answers can at from = absurd can

pub came : {B : Type 0} {S : B → Bytes → Type 0} {l0 l1 : Layers B} {maps : Maps} {s0 s1 : Scoped} {k0 k1 : Machine} {g0 g1 : ℕ} {costs : Schedule} {prefix : List ℕ} {result : Result Pause Stop} (stage taken : Stage) (c : Call) (o : Outset) (answers : List Answer) → taken ≡ stage → CanGoOnAt stage k0 → IsAtStage stage k0 c o answers → GoesOnFrom S l0 maps s0 g0 costs prefix c o answers → Does S l0 l1 s0 s1 k0 k1 g0 g1 (next_work k0 taken (setting costs (is_read_only s0) prefix)) pause_view result → IfSome (ended_of pause_view result) (λ ended. Reaches S l1 maps (addr_of s0) s1 k1 g1 (part c o answers) ended)
came {maps = maps} {s0 = s0} {k0 = k0} {costs = costs} {prefix = prefix} {result = result} stage taken c o answers e can at from d =
    let w = goes stage k0 c o answers can at from in
    let p = place_before c o answers in
    for_some (ended_of pause_view result) (λ ended r. reach_along (w.is ∙ ap (λ (x : Stage). next_work k0 x (setting costs (is_read_only s0) prefix) p) (sym e)) r) (d.does maps p w.at from.holds)

-- ---- steps

pub finished_step : {B : Type 0} {S : B → Bytes → Type 0} {l : Layers B} {maps : Maps} {addr : List ℕ} {store : Scoped} {k : Machine} {g : ℕ} (running : Running) (c : Call) (o : Outset) (answers : List Answer) (bytes : Vec ℕ) → Reaches S l maps addr store k g (part c o answers) (gave (finished bytes.items)) → ComesTo S l maps addr store running g c o answers (Finished bytes)
finished_step running c o answers bytes r = record { ended_so = r.ended_so; gas = r.machine_left.gas; map = r.map; holds = r.holds; others = r.others; stands = tt }

pub query_step : {B : Type 0} {S : B → Bytes → Type 0} {l : Layers B} {maps : Maps} {addr : List ℕ} {store : Scoped} {k : Machine} {g : ℕ} (c : Call) (o : Outset) (answers : List Answer) (request : Vec ℕ) → Reaches S l maps addr store k g (part c o answers) (gave (wants request.items)) → ComesTo S l maps addr store (record { machine = k; stage = Waits }) g c o answers (Query request)
unfolding StandsForPart
query_step c o answers request r = record {
  ended_so = r.ended_so;
  gas = r.machine_left.gas;
  map = r.map;
  holds = r.holds;
  others = r.others;
  stands = record { request = request.items; waits = r.ended_so; runs = r.machine_left.runs; acts = r.machine_left.acts };
}

pub fault_step : {B : Type 0} {S : B → Bytes → Type 0} {l : Layers B} {maps : Maps} {addr : List ℕ} {store : Scoped} {k : Machine} {g : ℕ} (running : Running) (c : Call) (o : Outset) (answers : List Answer) (fault : CallFault) → Reaches S l maps addr store k g (part c o answers) (faulted (fault_view fault)) → ComesTo S l maps addr store running g c o answers (Fault fault)
fault_step running c o answers fault r = record { ended_so = r.ended_so; gas = r.machine_left; map = r.map; holds = r.holds; others = r.others; stands = tt }

pub gas_step : {B : Type 0} {S : B → Bytes → Type 0} {l : Layers B} {maps : Maps} {addr : List ℕ} {store : Scoped} {k : Machine} {g : ℕ} (running : Running) (c : Call) (o : Outset) (answers : List Answer) → Reaches S l maps addr store k g (part c o answers) ran_out → ComesTo S l maps addr store running g c o answers OutOfGas
gas_step running c o answers r = record { ended_so = r.ended_so; gas = r.machine_left; map = r.map; holds = r.holds; others = r.others; stands = tt }
