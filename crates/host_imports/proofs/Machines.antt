-- What the host does with a machine.
use Rattle.std.proofs.lemmas.Bool.{lt-ltb, le-ltb}
use Rattle.std.proofs.Common.{◌≡◌, ◌^◌, ◌<◌, ◌≤◌, Bool, true, false, nat_lt, refl, sym, ◌∙◌, ap, ℕ, List, [], ◌∷◌, ◌++◌, Option, Some, None, Result, Ok, Err}
use Rattle.std.specs.Prelude.{if◌then◌else◌}
use Rattle.std.specs.Global.{Vec}
use Rattle.kv_layers.specs.Plain.{bytes_view}
use Rattle.gas_meter.specs.declared.schedule.Schedule.{Schedule}
use Rattle.linear_memory.specs.declared.region.RegionBad.{RegionBad}
use Rattle.linear_memory.specs.declared.region.RegionBad.TheVariants.{Range}
use Rattle.linear_memory.specs.Regions.{region_read, region_written}
use Rattle.wasm_types.specs.declared.value.Value.{Value}
use Rattle.wasm_types.specs.declared.value.Value.TheVariants.{I32, I64}
use Rattle.wasm_types.specs.Plain.{PlainModule, plain_module}
use Rattle.wasm_machine.specs.declared.machine.Machine.{Machine}
use Rattle.wasm_machine.specs.declared.turn.TrapKind.TheVariants.{Unreachable}
use Rattle.wasm_machine.specs.Acts.{Act, call, go, answer, memory, Standing, ask}
use Rattle.wasm_machine.specs.Exec.{exec}
use Rattle.wasm_machine.specs.Machine.{module_of, plain_of, stands_after, StandsFor}
use Rattle.host_imports.specs.declared.fault.CallFault.{CallFault}
use Rattle.host_imports.specs.declared.fault.CallFault.TheVariants as call_faults
use Rattle.host_imports.specs.declared.settled.Settled.TheVariants.{Answered}
use Rattle.host_imports.specs.declared.stop.Stop.{Stop}
use Rattle.host_imports.specs.declared.stop.Stop.TheVariants as stops
use Rattle.host_imports.specs.Faults.{Fault, fault_view, region_fault, trap}
use Rattle.host_imports.specs.Work.{Place, gave, faulted, Ran, acted, with_left, memory_at, done, faults, ◌>>=◌}
use Rattle.host_imports.specs.Allocation.{in_region, region, with_memory, writes, exported, fault_at, comes_to, runs, runs_if, calls, pointer_of, nothing_of, fits}
use Rattle.host_imports.specs.declared.request.Request.{Request}
use Rattle.host_imports.specs.Requests.{asked}
use Rattle.host_imports.specs.Imports.{answers}
use Rattle.host_imports.specs.Reaching.{IsAt}
use Rattle.host_imports.specs.Parts.{ended_of, same_view, unit_view, settled_view, Moves}
use Rattle.host_imports.proofs.Works.{for_some, come_along, come_from, comes_here}

-- ---- Regions

abbrev pub Remembers : Machine → List ℕ → Type 0
Remembers k bytes = (acts : List Act) → StandsFor k acts → bytes ≡ (stands_after k acts).memory

-- the memory of a place is that of a machine that is there
memory_there : {k : Machine} {g : ℕ} {p : Place} (bytes : List ℕ) → Remembers k bytes → IsAt k g p → memory_at p ≡ bytes
unfolding memory_at
memory_there {p = p} bytes h at = ap (λ (m : PlainModule). (exec m p.acts).memory) at.runs ∙ sym (h p.acts at.acts)

region_is : {k : Machine} {g : ℕ} (bytes : List ℕ) (limit pointer : ℕ) (read : Result (List ℕ) RegionBad) → Remembers k bytes → region_read bytes pointer limit ≡ read → (p : Place) → IsAt k g p → region limit pointer p ≡ in_region read p
unfolding region
region_is bytes limit pointer read h e p at = ap (λ (r : Result (List ℕ) RegionBad). in_region r p) (ap (λ (m : List ℕ). region_read m pointer limit) (memory_there bytes h at) ∙ e)

pub region_read_so : {k : Machine} {g : ℕ} (bytes : List ℕ) (limit pointer : ℕ) (v : Vec ℕ) → Remembers k bytes → region_read bytes pointer limit ≡ Ok v.items → Moves k k g g (region limit pointer) bytes_view (Ok v)
unfolding done
region_read_so bytes limit pointer v h e = record { moves = λ p at. comes_here (gave v.items) at (region_is bytes limit pointer (Ok v.items) h e p at) }

pub region_bad_so : {k : Machine} {g : ℕ} (bytes : List ℕ) (limit pointer : ℕ) (bad : RegionBad) (fault : CallFault) → Remembers k bytes → region_read bytes pointer limit ≡ Err bad → fault_view fault ≡ region_fault bad → Moves k k g g (region limit pointer) bytes_view (Err (stops.Fault fault))
unfolding faults
region_bad_so bytes limit pointer bad fault h e f = record {
  moves = λ p at. comes_here (faulted (fault_view fault)) at (region_is bytes limit pointer (Err bad) h e p at ∙ ap (λ (x : Fault). record { ended = faulted x; place = p }) (sym f));
}

-- ---- pointers

pub pointer_given : {k : Machine} {g : ℕ} (value : Option Value) (n : ℕ) → value ≡ Some (I32 n) → Moves k k g g (pointer_of value) same_view (Ok n)
unfolding done
pointer_given value n e = record { moves = λ p at. comes_here (gave n) at (ap (λ (v : Option Value). pointer_of v p) e) }

pub wide_given : {k : Machine} {g : ℕ} (value : Option Value) (n : ℕ) → value ≡ Some (I64 n) → Moves k k g g (pointer_of value) same_view (Err (stops.Fault (call_faults.Trap Unreachable)))
unfolding faults
wide_given value n e = record { moves = λ p at. comes_here (faulted (trap Unreachable)) at (ap (λ (v : Option Value). pointer_of v p) e) }

pub none_given : {k : Machine} {g : ℕ} (value : Option Value) → value ≡ None → Moves k k g g (pointer_of value) same_view (Err (stops.Fault (call_faults.Trap Unreachable)))
unfolding faults
none_given value e = record { moves = λ p at. comes_here (faulted (trap Unreachable)) at (ap (λ (v : Option Value). pointer_of v p) e) }

pub nothing_given : {k : Machine} {g : ℕ} (value : Option Value) → value ≡ None → Moves k k g g (nothing_of value) unit_view (Ok tt)
unfolding done
nothing_given value e = record { moves = λ p at. comes_here (gave tt) at (ap (λ (v : Option Value). nothing_of v p) e) }

pub something_given : {k : Machine} {g : ℕ} (value : Option Value) (v : Value) → value ≡ Some v → Moves k k g g (nothing_of value) unit_view (Err (stops.Fault (call_faults.Trap Unreachable)))
unfolding faults
something_given value v e = record { moves = λ p at. comes_here (faulted (trap Unreachable)) at (ap (λ (v : Option Value). nothing_of v p) e) }

-- ---- sizes

fits_if : (small : Bool) (n : ℕ) (p : Place) → nat_lt n (2 ^ 32) ≡ small → fits n p ≡ (if small then done tt else faults (region_fault Range)) p
fits_if small n p e = ap (λ (b : Bool). (if b then done tt else faults (region_fault Range)) p) e

pub fits_so : {k : Machine} {g : ℕ} (n : ℕ) → n < 2 ^ 32 → Moves k k g g (fits n) unit_view (Ok tt)
unfolding done
fits_so n h = record { moves = λ p at. comes_here (gave tt) at (fits_if true n p (lt-ltb n (2 ^ 32) h)) }

pub fits_not : {k : Machine} {g : ℕ} (n : ℕ) → 2 ^ 32 ≤ n → Moves k k g g (fits n) unit_view (Err (stops.Fault (call_faults.RegionBad Range)))
unfolding faults
fits_not n h = record { moves = λ p at. comes_here (faulted (region_fault Range)) at (fits_if false n p (le-ltb n (2 ^ 32) h)) }

-- ---- memory that is written

write_is : {k : Machine} {g : ℕ} (old bytes : List ℕ) (pointer : ℕ) (written : Result (List ℕ) RegionBad) → Remembers k old → region_written old pointer bytes ≡ written → (p : Place) → IsAt k g p → writes bytes pointer p ≡ with_memory written p
unfolding writes
write_is old bytes pointer written h e p at = ap (λ (r : Result (List ℕ) RegionBad). with_memory r p) (ap (λ (m : List ℕ). region_written m pointer bytes) (memory_there old h at) ∙ e)

pub written_so : {k new : Machine} {g : ℕ} (old bytes now : List ℕ) (pointer : ℕ) → Remembers k old → region_written old pointer bytes ≡ Ok now → ((acts : List Act) → StandsFor k acts → StandsFor new (acts ++ memory now ∷ [])) → module_of new ≡ module_of k → Moves k new g g (writes bytes pointer) unit_view (Ok tt)
unfolding done
written_so old bytes now pointer h e stands same = record {
  moves = λ p at.
      come_along (write_is old bytes pointer (Ok now) h e p at)
      (record {
        ended_so = refl;
        machine_left = record { runs = at.runs ∙ sym (ap plain_module same); acts = stands p.acts at.acts; gas = at.gas };
        storage = refl;
        scans = refl;
      });
}

pub unwritten_so : {k new : Machine} {g : ℕ} (old bytes : List ℕ) (pointer : ℕ) (bad : RegionBad) (fault : CallFault) → Remembers k old → region_written old pointer bytes ≡ Err bad → fault_view fault ≡ region_fault bad → Moves k new g g (writes bytes pointer) unit_view (Err (stops.Fault fault))
unfolding faults
unwritten_so old bytes pointer bad fault h e f = record {
  moves = λ p at.
      come_along (write_is old bytes pointer (Err bad) h e p at ∙ ap (λ (x : Fault). record { ended = faulted x; place = p }) (sym f))
      (record { ended_so = refl; machine_left = at.gas; storage = refl; scans = refl });
}

-- ---- answers

pub answered_so : {k new : Machine} {g : ℕ} (value : Option Value) → ((acts : List Act) → StandsFor k acts → StandsFor new (acts ++ answer value ∷ [])) → module_of new ≡ module_of k → Moves k new g g (answers value) settled_view (Ok Answered)
unfolding answers done
answered_so value stands same = record {
  moves = λ p at. record {
    ended_so = refl;
    machine_left = record { runs = at.runs ∙ sym (ap plain_module same); acts = stands p.acts at.acts; gas = at.gas };
    storage = refl;
    scans = refl;
  };
}

-- ---- calls

run_is : (c : Machine) (g : ℕ) (costs : Schedule) (func : ℕ) (args : List Value) (p : Place) → p.module ≡ plain_of c → p.left ≡ g → runs costs func args p ≡ comes_to (stands_after c ((p.acts ++ call func args ∷ []) ++ go g costs ∷ [])).standing (with_left (stands_after c ((p.acts ++ call func args ∷ []) ++ go g costs ∷ [])).left (acted (go g costs) (acted (call func args) p)))
unfolding runs
run_is c g costs func args p same gas =
    let F : PlainModule → ℕ → Ran (Option Value) = λ m n. comes_to (exec m ((p.acts ++ call func args ∷ []) ++ go n costs ∷ [])).standing (with_left (exec m ((p.acts ++ call func args ∷ []) ++ go n costs ∷ [])).left (acted (go n costs) (acted (call func args) p))) in
    ap (λ (m : PlainModule). F m p.left) same ∙ ap (F (plain_of c)) gas

-- a function was called and ran
pub ran_so : {k new : Machine} {g left : ℕ} {result : Result (Option Value) Stop} (called : Machine) (costs : Schedule) (func : ℕ) (args : List Value) (standing : Standing) → ((acts : List Act) → StandsFor k acts → StandsFor called (acts ++ call func args ∷ [])) → module_of called ≡ module_of k → ((acts : List Act) → StandsFor called acts → StandsFor new (acts ++ go g costs ∷ [])) → ((acts : List Act) → StandsFor called acts → standing ≡ (stands_after called (acts ++ go g costs ∷ [])).standing) → ((acts : List Act) → StandsFor called acts → left ≡ (stands_after called (acts ++ go g costs ∷ [])).left) → module_of new ≡ module_of called → Moves new new left left (comes_to standing) same_view result → Moves k new g left (runs costs func args) same_view result
ran_so {g = g} {left = left} {result = result} called costs func args standing calling same going turned gas still rest = record {
  moves = λ p at.
      let acts = p.acts ++ call func args ∷ [] in
      let stands = calling p.acts at.acts in
      let there = acted (go g costs) (acted (call func args) p) in
      let runs_there = at.runs ∙ sym (ap plain_module same) in
      let so = run_is called g costs func args p runs_there at.gas ∙ (λ i. comes_to (sym (turned acts stands) i) (with_left (sym (gas acts stands) i) there)) in
      for_some (ended_of same_view result) (λ ended c. come_along so (come_from refl refl c))
      (rest.moves (with_left left there) (record { runs = runs_there ∙ sym (ap plain_module still); acts = going acts stands; gas = refl }));
}

-- what the import asked, at which a function stopped
pub asks_so : {k : Machine} {g : ℕ} {result : Result (Option Value) Stop} (import : ℕ) (args : List Value) (request : Option Request) → request ≡ asked (plain_of k) import args → Moves k k g g (fault_at request >>= λ fault. faults fault) same_view result → Moves k k g g (comes_to (ask import args)) same_view result
asks_so {result = result} import args request e m = record {
  moves = λ p at.
      let so = ap (λ (r : Option Request). (fault_at r >>= λ fault. faults fault) p) (ap (λ (m : PlainModule). asked m import args) at.runs ∙ sym e) in
      for_some (ended_of same_view result) (λ ended c. come_along so c) (m.moves p at);
}

own_is : {k : Machine} {g : ℕ} (costs : Schedule) (name : List ℕ) (args : List Value) (func : Option ℕ) → exported (plain_of k) name ≡ func → (p : Place) → IsAt k g p → calls costs name args p ≡ runs_if costs args func p
unfolding calls
own_is costs name args func e p at = ap (λ (f : Option ℕ). runs_if costs args f p) (ap (λ (m : PlainModule). exported m name) at.runs ∙ e)

pub own_called : {k new : Machine} {g left : ℕ} {result : Result (Option Value) Stop} (costs : Schedule) (name : List ℕ) (args : List Value) (func : ℕ) → exported (plain_of k) name ≡ Some func → Moves k new g left (runs costs func args) same_view result → Moves k new g left (calls costs name args) same_view result
own_called {result = result} costs name args func e m = record {
  moves = λ p at. for_some (ended_of same_view result) (λ ended c. come_along (own_is costs name args (Some func) e p at) c) (m.moves p at);
}

pub own_missing : {k : Machine} {g : ℕ} (costs : Schedule) (name : List ℕ) (args : List Value) → exported (plain_of k) name ≡ None → Moves k k g g (calls costs name args) same_view (Err (stops.Fault (call_faults.Trap Unreachable)))
unfolding faults
own_missing costs name args e = record { moves = λ p at. comes_here (faulted (trap Unreachable)) at (own_is costs name args None e p at) }
