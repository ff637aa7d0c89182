-- What the parts of a call that a machine runs come to.
use Rattle.std.proofs.Common.{◌≡◌, refl, sym, ◌∙◌, ap, subst, ℕ, List, [], ◌∷◌, ◌++◌, Option, Some, None, Result, Ok, Err}
use Rattle.std.specs.Global.{Vec}
use Rattle.kv_layers.specs.declared.layers.Layers.{Layers}
use Rattle.kv_layers.specs.Bytes.{Bytes}
use Rattle.kv_layers.specs.Plain.{bytes_view}
use Rattle.gas_store.specs.declared.scoped.Scoped.{Scoped}
use Rattle.gas_store.specs.Views.{addr_of}
use Rattle.linear_memory.specs.declared.region.RegionBad.{RegionBad}
use Rattle.linear_memory.specs.Regions.{region_read}
use Rattle.wasm_types.specs.declared.value.Value.{Value}
use Rattle.wasm_types.specs.declared.value.Value.TheVariants.{I32, I64}
use Rattle.wasm_types.specs.Plain.{PlainModule, plain_module}
use Rattle.wasm_machine.specs.declared.machine.Machine.{Machine}
use Rattle.wasm_machine.specs.declared.turn.TrapKind.TheVariants.{Unreachable}
use Rattle.wasm_machine.specs.Acts.{Act, call, go, answer, Standing}
use Rattle.wasm_machine.specs.Exec.{exec}
use Rattle.wasm_machine.specs.Machine.{module_of, plain_of, stands_after, StandsFor}
use Rattle.host_imports.specs.declared.fault.CallFault.{CallFault}
use Rattle.host_imports.specs.declared.fault.CallFault.TheVariants as call_faults
use Rattle.host_imports.specs.Faults.{Fault, fault_view, region_fault, no_entry, trap}
use Rattle.host_imports.specs.Work.{Place, gave, faulted, Ran, acted, with_left, memory_at, done, faults}
use Rattle.host_imports.specs.Allocation.{in_region, region, pointer_of, exported}
use Rattle.host_imports.specs.Imports.{Setting, answers}
use Rattle.host_imports.specs.Reaching.{IsAt, Reaches}
use Rattle.contract_call.specs.declared.stop.Stop.{Stop}
use Rattle.contract_call.specs.declared.stop.Stop.TheVariants as stops
use Rattle.contract_call.specs.declared.stop.Pause.{Pause}
use Rattle.contract_call.specs.Calls.{Reached, found, entry_point, calls_with, comes_to, turn}
use Rattle.contract_call.specs.Parts.{ended_of, same_view, unit_view, answered_view, turn_view, Moves, Does}
use Rattle.contract_call.proofs.Works.{for_some, comes_here}

-- ---- Regions

abbrev pub Remembers : Machine → List ℕ → Type 0
Remembers k bytes = (acts : List Act) → StandsFor k acts → bytes ≡ (stands_after k acts).memory

-- the memory of a place is that of a machine that is there
memory_there : {k : Machine} {g : ℕ} {p : Place} (bytes : List ℕ) → Remembers k bytes → IsAt k g p → memory_at p ≡ bytes
unfolding memory_at
memory_there {p = p} bytes h at = ap (λ (m : PlainModule). (exec m p.acts).memory) at.runs ∙ sym (h p.acts at.acts)

region_is : {k : Machine} {g : ℕ} (bytes : List ℕ) (limit pointer : ℕ) (read : Result (List ℕ) RegionBad) → Remembers k bytes → region_read bytes pointer limit ≡ read → (p : Place) → IsAt k g p → region limit pointer p ≡ in_region read p
unfolding region
region_is bytes limit pointer read h e p at = ap (λ (r : Result (List ℕ) RegionBad). in_region r p) (ap (λ (m : List ℕ). region_read m pointer limit) (memory_there bytes h at) ∙ e)

pub region_read_so : {k : Machine} {g : ℕ} (bytes : List ℕ) (limit pointer : ℕ) (v : Vec ℕ) → Remembers k bytes → region_read bytes pointer limit ≡ Ok v.items → Moves k k g g (region limit pointer) bytes_view (Ok v)
unfolding done
region_read_so bytes limit pointer v h e = record { moves = λ p at. comes_here (gave v.items) at (region_is bytes limit pointer (Ok v.items) h e p at) }

pub region_bad_so : {k : Machine} {g : ℕ} (bytes : List ℕ) (limit pointer : ℕ) (bad : RegionBad) (fault : CallFault) → Remembers k bytes → region_read bytes pointer limit ≡ Err bad → fault_view fault ≡ region_fault bad → Moves k k g g (region limit pointer) bytes_view (Err (stops.Fault fault))
unfolding faults
region_bad_so bytes limit pointer bad fault h e f = record {
  moves = λ p at. comes_here (faulted (fault_view fault)) at (region_is bytes limit pointer (Err bad) h e p at ∙ ap (λ (x : Fault). record { ended = faulted x; place = p }) (sym f));
}

-- ---- pointers

pub pointer_given : {k : Machine} {g : ℕ} (value : Option Value) (n : ℕ) → value ≡ Some (I32 n) → Moves k k g g (pointer_of value) same_view (Ok n)
unfolding done
pointer_given value n e = record { moves = λ p at. comes_here (gave n) at (ap (λ (v : Option Value). pointer_of v p) e) }

pub wide_given : {k : Machine} {g : ℕ} (value : Option Value) (n : ℕ) → value ≡ Some (I64 n) → Moves k k g g (pointer_of value) same_view (Err (stops.Fault (call_faults.Trap Unreachable)))
unfolding faults
wide_given value n e = record { moves = λ p at. comes_here (faulted (trap Unreachable)) at (ap (λ (v : Option Value). pointer_of v p) e) }

pub none_given : {k : Machine} {g : ℕ} (value : Option Value) → value ≡ None → Moves k k g g (pointer_of value) same_view (Err (stops.Fault (call_faults.Trap Unreachable)))
unfolding faults
none_given value e = record { moves = λ p at. comes_here (faulted (trap Unreachable)) at (ap (λ (v : Option Value). pointer_of v p) e) }

-- ---- entry points

entry_is : {k : Machine} {g : ℕ} (name : List ℕ) (func : Option ℕ) (p : Place) → exported (plain_of k) name ≡ func → IsAt k g p → entry_point name p ≡ found name func p
unfolding entry_point
entry_is name func p e at = ap (λ (f : Option ℕ). found name f p) (ap (λ (m : PlainModule). exported m name) at.runs ∙ e)

pub entry_found : {k : Machine} {g : ℕ} (name : List ℕ) (func : ℕ) → exported (plain_of k) name ≡ Some func → Moves k k g g (entry_point name) same_view (Ok func)
unfolding done
entry_found name func e = record { moves = λ p at. comes_here (gave func) at (entry_is name (Some func) p e at) }

pub no_entry_found : {k : Machine} {g : ℕ} (name : List ℕ) (fault : CallFault) → exported (plain_of k) name ≡ None → fault_view fault ≡ no_entry name → Moves k k g g (entry_point name) same_view (Err (stops.Fault fault))
unfolding faults
no_entry_found name fault e f = record {
  moves = λ p at. comes_here (faulted (fault_view fault)) at (entry_is name None p e at ∙ ap (λ (x : Fault). record { ended = faulted x; place = p }) (sym f));
}

-- ---- calls and answers

pub called_so : {k new : Machine} {g : ℕ} (func : ℕ) (values : List Value) → ((acts : List Act) → StandsFor k acts → StandsFor new (acts ++ call func values ∷ [])) → module_of new ≡ module_of k → Moves k new g g (calls_with func values) unit_view (Ok tt)
unfolding calls_with done
called_so func values stands same = record {
  moves = λ p at. record {
    ended_so = refl;
    machine_left = record { runs = at.runs ∙ sym (ap plain_module same); acts = stands p.acts at.acts; gas = at.gas };
    storage = refl;
    scans = refl;
  };
}

pub answered_so : {k new : Machine} {g : ℕ} (value : Option Value) → ((acts : List Act) → StandsFor k acts → StandsFor new (acts ++ answer value ∷ [])) → module_of new ≡ module_of k → Moves k new g g (answers value) answered_view (Ok tt)
unfolding answers done
answered_so value stands same = record {
  moves = λ p at. record {
    ended_so = refl;
    machine_left = record { runs = at.runs ∙ sym (ap plain_module same); acts = stands p.acts at.acts; gas = at.gas };
    storage = refl;
    scans = refl;
  };
}

-- ---- turns

turn_is : {k : Machine} {g : ℕ} (s : Setting) (p : Place) → IsAt k g p → turn s p ≡ comes_to s (stands_after k (p.acts ++ go g s.costs ∷ [])).standing (with_left (stands_after k (p.acts ++ go g s.costs ∷ [])).left (acted (go g s.costs) p))
unfolding turn
turn_is {k = k} {g = g} s p at =
    let F : PlainModule → ℕ → Ran (Option Reached) = λ m n. comes_to s (exec m (p.acts ++ go n s.costs ∷ [])).standing (with_left (exec m (p.acts ++ go n s.costs ∷ [])).left (acted (go n s.costs) p)) in
    ap (λ (m : PlainModule). F m p.left) at.runs ∙ ap (F (plain_of k)) at.gas

-- a machine ran and came to this
pub turn_does : {B : Type 0} {S : B → Bytes → Type 0} {l0 l1 : Layers B} {s0 s1 : Scoped} {k mid new : Machine} {g m left : ℕ} {result : Result (Option Pause) Stop} (s : Setting) (standing : Standing) → ((acts : List Act) → StandsFor k acts → StandsFor mid (acts ++ go g s.costs ∷ [])) → ((acts : List Act) → StandsFor k acts → standing ≡ (stands_after k (acts ++ go g s.costs ∷ [])).standing) → ((acts : List Act) → StandsFor k acts → m ≡ (stands_after k (acts ++ go g s.costs ∷ [])).left) → module_of mid ≡ module_of k → Does S l0 l1 s0 s1 mid new m left (comes_to s standing) turn_view result → Does S l0 l1 s0 s1 k new g left (turn s) turn_view result
turn_does {S = S} {l1 = l1} {s0 = s0} {s1 = s1} {new = new} {g = g} {m = m} {left = left} {result = result} s standing stands turned gas same rest = record {
  does = λ maps p at holds.
      let q = with_left m (acted (go g s.costs) p) in
      let so : turn s p ≡ comes_to s standing q = turn_is s p at ∙ (λ i. comes_to s (sym (turned p.acts at.acts) i) (with_left (sym (gas p.acts at.acts) i) (acted (go g s.costs) p))) in
      for_some (ended_of turn_view result) (λ ended c. subst (λ (r : Ran (Option Reached)). Reaches S l1 maps (addr_of s0) s1 new left r ended) (sym so) c)
      (rest.does maps q (record { runs = at.runs ∙ sym (ap plain_module same); acts = stands p.acts at.acts; gas = refl })
      (record { stands = holds.stands; storage = holds.storage; scans = holds.scans }));
}
