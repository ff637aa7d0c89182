-- Parts of a call one after the other.
use Rattle.std.proofs.lemmas.Bool.{lt-ltb, le-ltb}
use Rattle.std.proofs.Common.{◌≡◌, ◌-◌, ◌<◌, ◌≤◌, Bool, true, false, nat_lt, refl, sym, ◌∙◌, ap, subst, ℕ, List, Option, Some, None, Result, Ok, Err}
use Rattle.std.specs.Prelude.{IfSome, if◌then◌else◌}
use Rattle.kv_layers.specs.declared.layers.Layers.{Layers}
use Rattle.kv_layers.specs.Bytes.{Bytes}
use Rattle.kv_layers.specs.Maps.{Maps, changed}
use Rattle.gas_store.specs.declared.scoped.Scoped.{Scoped}
use Rattle.gas_store.specs.Storage.{HasOthers}
use Rattle.wasm_machine.specs.declared.machine.Machine.{Machine}
use Rattle.host_imports.specs.declared.fault.CallFault.{CallFault}
use Rattle.host_imports.specs.Faults.{Fault, fault_view}
use Rattle.host_imports.specs.Work.{Place, Ended, gave, faulted, ran_out, Ran, Work, with_left, ends, charge, goes_on, done, faults, ◌>>=◌}
use Rattle.host_imports.specs.Reaching.{IsAt, IsLeft, Comes, Reaches}
use Rattle.contract_call.specs.declared.stop.Stop.{Stop}
use Rattle.contract_call.specs.declared.stop.Stop.TheVariants as stops
use Rattle.contract_call.specs.Parts.{ended_of, unit_view, MovesOn, Moves, Does}

pub for_some : {A : Type 0} {P Q : A → Type 0} (o : Option A) → ((a : A) → P a → Q a) → IfSome o P → IfSome o Q
for_some None f h = tt
for_some (Some a) f h = f a h

-- ---- what work comes to behind other work

pub goes_then : {A B : Type 0} (work : Work A) (next : A → Work B) (p : Place) (a : A) → (work p).ended ≡ gave a → (work >>= next) p ≡ next a (work p).place
unfolding ◌>>=◌
goes_then work next p a e = ap (λ (ended : Ended _). goes_on next ended (work p).place) e

pub faults_then : {A B : Type 0} (work : Work A) (next : A → Work B) (p : Place) (fault : Fault) → (work p).ended ≡ faulted fault → (work >>= next) p ≡ ends (faulted fault) (work p).place
unfolding ◌>>=◌
faults_then work next p fault e = ap (λ (ended : Ended _). goes_on next ended (work p).place) e

pub runs_out_then : {A B : Type 0} (work : Work A) (next : A → Work B) (p : Place) → (work p).ended ≡ ran_out → (work >>= next) p ≡ ends ran_out (work p).place
unfolding ◌>>=◌
runs_out_then work next p e = ap (λ (ended : Ended _). goes_on next ended (work p).place) e

-- ---- parts of a machine's work

pub come_along : {A : Type 0} {k : Machine} {g : ℕ} {p : Place} {r s : Ran A} {ended : Ended A} → r ≡ s → Comes k g p s ended → Comes k g p r ended
come_along {k = k} {g = g} {p = p} {ended = ended} e c = subst (λ (x : Ran _). Comes k g p x ended) (sym e) c

pub come_from : {A : Type 0} {k : Machine} {g : ℕ} {p q : Place} {r : Ran A} {ended : Ended A} → q.storage ≡ p.storage → q.scans ≡ p.scans → Comes k g q r ended → Comes k g p r ended
come_from a b c = record { ended_so = c.ended_so; machine_left = c.machine_left; storage = c.storage ∙ a; scans = c.scans ∙ b }

pub moves_then : {X Y A B : Type 0} {k0 k1 k2 : Machine} {g0 g1 g2 : ℕ} {work : Work A} {view : X → A} {view2 : Y → B} {x : X} {result : Result Y Stop} (next : A → Work B) → Moves k0 k1 g0 g1 work view (Ok x) → Moves k1 k2 g1 g2 (next (view x)) view2 result → Moves k0 k2 g0 g2 (work >>= next) view2 result
moves_then {work = work} {view = view} {view2 = view2} {x = x} {result = result} next first second = record {
  moves = λ p at.
      let a = first.moves p at in
      for_some (ended_of view2 result) (λ ended c. come_along (goes_then work next p (view x) a.ended_so) (come_from a.storage a.scans c)) (second.moves (work p).place a.machine_left);
}

stop_moves : {A B : Type 0} {k : Machine} {g : ℕ} (work : Work A) (next : A → Work B) (p : Place) (fault : Fault) → Comes k g p (work p) (faulted fault) → Comes k g p ((work >>= next) p) (faulted fault)
stop_moves work next p fault c = come_along (faults_then work next p fault c.ended_so) (record { ended_so = refl; machine_left = c.machine_left; storage = c.storage; scans = c.scans })

run_out_moves : {A B : Type 0} {k : Machine} {g : ℕ} (work : Work A) (next : A → Work B) (p : Place) → Comes k g p (work p) ran_out → Comes k g p ((work >>= next) p) ran_out
run_out_moves work next p c = come_along (runs_out_then work next p c.ended_so) (record { ended_so = refl; machine_left = c.machine_left; storage = c.storage; scans = c.scans })

pub moves_stop : {X Y A B : Type 0} {k0 k1 : Machine} {g0 g1 : ℕ} {work : Work A} {view : X → A} {view2 : Y → B} (next : A → Work B) (stop : Stop) → Moves k0 k1 g0 g1 work view (Err stop) → Moves k0 k1 g0 g1 (work >>= next) view2 (Err stop)
moves_stop {work = work} next (stops.Fault fault) m = record { moves = λ p at. stop_moves work next p (fault_view fault) (m.moves p at) }
moves_stop {work = work} next stops.OutOfGas m = record { moves = λ p at. run_out_moves work next p (m.moves p at) }
moves_stop next stops.NoMemory m = record { moves = λ p at. tt }

-- ---- parts that change nothing

pub left_here : {A : Type 0} {k : Machine} {g : ℕ} {p : Place} (ended : Ended A) → IsAt k g p → IsLeft k g ended p
left_here (gave x) at = at
left_here (faulted fault) at = at.gas
left_here ran_out at = at.gas

pub comes_here : {A : Type 0} {k : Machine} {g : ℕ} {p : Place} {r : Ran A} (ended : Ended A) → IsAt k g p → r ≡ record { ended = ended; place = p } → Comes k g p r ended
comes_here {p = p} ended at e = come_along e (record { ended_so = refl; machine_left = left_here ended at; storage = refl; scans = refl })

-- a part that only gives a value
pub done_moves : {X A : Type 0} {k : Machine} {g : ℕ} {view : X → A} (x : X) → Moves k k g g (done (view x)) view (Ok x)
unfolding done
done_moves {view = view} x = record { moves = λ p at. comes_here (gave (view x)) at refl }

-- a part that only faults
pub fault_moves : {X A : Type 0} {k : Machine} {g : ℕ} {view : X → A} (fault : Fault) (found : CallFault) → fault_view found ≡ fault → Moves k k g g (faults fault) view (Err (stops.Fault found))
unfolding faults
fault_moves fault found h = record { moves = λ p at. comes_here (faulted (fault_view found)) at (ap (λ (f : Fault). record { ended = faulted f; place = p }) (sym h)) }

-- ---- what is left of some work

pub moves_on_here : {A : Type 0} {k : Machine} {g : ℕ} (work : Work A) → MovesOn k k g g work work
moves_on_here work = record { moves_on = λ p at. record { place = p; is = refl; at = at; storage = refl; scans = refl } }

pub moves_on_then : {X A B : Type 0} {k0 k1 k2 : Machine} {g0 g1 g2 : ℕ} {work : Work B} {first : Work A} {view : X → A} {x : X} (next : A → Work B) → MovesOn k0 k1 g0 g1 work (first >>= next) → Moves k1 k2 g1 g2 first view (Ok x) → MovesOn k0 k2 g0 g2 work (next (view x))
moves_on_then {first = first} {view = view} {x = x} next on m = record {
  moves_on = λ p at.
      let a = on.moves_on p at in
      let b = m.moves a.place a.at in
      record { place = (first a.place).place; is = a.is ∙ goes_then first next a.place (view x) b.ended_so; at = b.machine_left; storage = b.storage ∙ a.storage; scans = b.scans ∙ a.scans };
}

pub moves_on_to : {X A : Type 0} {k0 k1 k2 : Machine} {g0 g1 g2 : ℕ} {work rest : Work A} {view : X → A} {result : Result X Stop} → MovesOn k0 k1 g0 g1 work rest → Moves k1 k2 g1 g2 rest view result → Moves k0 k2 g0 g2 work view result
moves_on_to {view = view} {result = result} on m = record {
  moves = λ p at.
      let a = on.moves_on p at in
      for_some (ended_of view result) (λ ended c. come_along a.is (come_from a.storage a.scans c)) (m.moves a.place a.at);
}

-- ---- parts of the whole call

pub reach_along : {B A : Type 0} {S : B → Bytes → Type 0} {layers : Layers B} {maps : Maps} {addr : List ℕ} {store : Scoped} {k : Machine} {g : ℕ} {r s : Ran A} {ended : Ended A} → r ≡ s → Reaches S layers maps addr store k g s ended → Reaches S layers maps addr store k g r ended
reach_along {S = S} {layers = layers} {maps = maps} {addr = addr} {store = store} {k = k} {g = g} {ended = ended} e c = subst (λ (x : Ran _). Reaches S layers maps addr store k g x ended) (sym e) c

pub reach_from : {B A : Type 0} {S : B → Bytes → Type 0} {layers : Layers B} {maps : Maps} {map : Bytes} {addr mid : List ℕ} {store : Scoped} {k : Machine} {g : ℕ} {r : Ran A} {ended : Ended A} → HasOthers addr maps.current map → mid ≡ addr → Reaches S layers (changed maps map) mid store k g r ended → Reaches S layers maps addr store k g r ended
reach_from {map = map} others same c = record {
  ended_so = c.ended_so;
  machine_left = c.machine_left;
  map = c.map;
  holds = c.holds;
  others = λ place other. subst (λ (a : List ℕ). HasOthers a map c.map) same c.others place other ∙ others place other;
  same = c.same ∙ same;
}

pub does_then : {B X Y A C : Type 0} {S : B → Bytes → Type 0} {l0 l1 l2 : Layers B} {s0 s1 s2 : Scoped} {k0 k1 k2 : Machine} {g0 g1 g2 : ℕ} {work : Work A} {view : X → A} {view2 : Y → C} {x : X} {result : Result Y Stop} (next : A → Work C) → Does S l0 l1 s0 s1 k0 k1 g0 g1 work view (Ok x) → Does S l1 l2 s1 s2 k1 k2 g1 g2 (next (view x)) view2 result → Does S l0 l2 s0 s2 k0 k2 g0 g2 (work >>= next) view2 result
does_then {work = work} {view = view} {view2 = view2} {x = x} {result = result} next first second = record {
  does = λ maps p at holds.
      let a = first.does maps p at holds in
      for_some (ended_of view2 result) (λ ended c. reach_along (goes_then work next p (view x) a.ended_so) (reach_from a.others a.same c)) (second.does (changed maps a.map) (work p).place a.machine_left a.holds);
}

stop_does : {B A C : Type 0} {S : B → Bytes → Type 0} {layers : Layers B} {maps : Maps} {addr : List ℕ} {store : Scoped} {k : Machine} {g : ℕ} (work : Work A) (next : A → Work C) (p : Place) (fault : Fault) → Reaches S layers maps addr store k g (work p) (faulted fault) → Reaches S layers maps addr store k g ((work >>= next) p) (faulted fault)
stop_does work next p fault c =
    reach_along (faults_then work next p fault c.ended_so) (record { ended_so = refl; machine_left = c.machine_left; map = c.map; holds = c.holds; others = c.others; same = c.same })

run_out_does : {B A C : Type 0} {S : B → Bytes → Type 0} {layers : Layers B} {maps : Maps} {addr : List ℕ} {store : Scoped} {k : Machine} {g : ℕ} (work : Work A) (next : A → Work C) (p : Place) → Reaches S layers maps addr store k g (work p) ran_out → Reaches S layers maps addr store k g ((work >>= next) p) ran_out
run_out_does work next p c =
    reach_along (runs_out_then work next p c.ended_so) (record { ended_so = refl; machine_left = c.machine_left; map = c.map; holds = c.holds; others = c.others; same = c.same })

pub does_stop : {B X Y A C : Type 0} {S : B → Bytes → Type 0} {l0 l1 : Layers B} {s0 s1 : Scoped} {k0 k1 : Machine} {g0 g1 : ℕ} {work : Work A} {view : X → A} {view2 : Y → C} (next : A → Work C) (stop : Stop) → Does S l0 l1 s0 s1 k0 k1 g0 g1 work view (Err stop) → Does S l0 l1 s0 s1 k0 k1 g0 g1 (work >>= next) view2 (Err stop)
does_stop {work = work} next (stops.Fault fault) d = record { does = λ maps p at holds. stop_does work next p (fault_view fault) (d.does maps p at holds) }
does_stop {work = work} next stops.OutOfGas d = record { does = λ maps p at holds. run_out_does work next p (d.does maps p at holds) }
does_stop next stops.NoMemory d = record { does = λ maps p at holds. tt }

-- a part of the machine's alone
pub moves_does : {B X A : Type 0} {S : B → Bytes → Type 0} {layers : Layers B} {store : Scoped} {k0 k1 : Machine} {g0 g1 : ℕ} {work : Work A} {view : X → A} {result : Result X Stop} → Moves k0 k1 g0 g1 work view result → Does S layers layers store store k0 k1 g0 g1 work view result
moves_does {view = view} {result = result} m = record {
  does = λ maps p at holds.
      for_some (ended_of view result) (λ ended c. record {
        ended_so = c.ended_so;
        machine_left = c.machine_left;
        map = maps.current;
        holds = record { stands = holds.stands; storage = c.storage ∙ holds.storage; scans = c.scans ∙ holds.scans };
        others = λ place other. refl;
        same = refl;
      }) (m.moves p at);
}

pub done_does : {B X A : Type 0} {S : B → Bytes → Type 0} {layers : Layers B} {store : Scoped} {k : Machine} {g : ℕ} {view : X → A} (x : X) → Does S layers layers store store k k g g (done (view x)) view (Ok x)
done_does x = moves_does (done_moves x)

-- want of memory says nothing
pub no_memory_moves : {X A : Type 0} {k0 k1 : Machine} {g0 g1 : ℕ} {work : Work A} {view : X → A} → Moves k0 k1 g0 g1 work view (Err stops.NoMemory)
no_memory_moves = record { moves = λ p at. tt }

pub no_memory_does : {B X A : Type 0} {S : B → Bytes → Type 0} {l0 l1 : Layers B} {s0 s1 : Scoped} {k0 k1 : Machine} {g0 g1 : ℕ} {work : Work A} {view : X → A} → Does S l0 l1 s0 s1 k0 k1 g0 g1 work view (Err stops.NoMemory)
no_memory_does = record { does = λ maps p at holds. tt }

-- a part that stops without gas
pub ran_out_moves : {X A : Type 0} {k : Machine} {g : ℕ} {view : X → A} → Moves k k g g (ends ran_out) view (Err stops.OutOfGas)
ran_out_moves = record { moves = λ p at. comes_here ran_out at refl }

-- ---- charges

charge_by : (cost : ℕ) (p : Place) (b : Bool) → nat_lt p.left cost ≡ b → charge cost p ≡ (if b then ends ran_out (with_left 0 p) else ends (gave tt) (with_left (p.left - cost) p))
unfolding charge
charge_by cost p b e = ap (λ (c : Bool). if c then ends ran_out (with_left 0 p) else ends (gave tt) (with_left (p.left - cost) p)) e

pub charged_so : {k : Machine} (cost left after : ℕ) → cost ≤ left → after ≡ left - cost → Moves k k left after (charge cost) unit_view (Ok tt)
charged_so {k = k} cost left after h e = record {
  moves = λ p at.
      let le : cost ≤ p.left = subst (λ (n : ℕ). cost ≤ n) (sym at.gas) h in
      let so = charge_by cost p false (le-ltb p.left cost le) in
      let q = with_left (p.left - cost) p in
      come_along so (record { ended_so = refl; machine_left = record { runs = at.runs; acts = at.acts; gas = ap (λ (n : ℕ). n - cost) at.gas ∙ sym e }; storage = refl; scans = refl });
}

pub uncharged_so : {k : Machine} (cost left after : ℕ) → left < cost → after ≡ 0 → Moves k k left after (charge cost) unit_view (Err stops.OutOfGas)
uncharged_so {k = k} cost left after h e = record {
  moves = λ p at.
      let lt : p.left < cost = subst (λ (n : ℕ). n < cost) (sym at.gas) h in
      come_along (charge_by cost p true (lt-ltb p.left cost lt)) (record { ended_so = refl; machine_left = sym e; storage = refl; scans = refl });
}
