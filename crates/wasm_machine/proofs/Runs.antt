-- What a run leaves.
use Rattle.std.proofs.Common.{◌≡◌, refl, sym, ◌∙◌, ap, subst, ℕ, ◌+◌, ◌≤◌, List, [], ◌∷◌, ◌++◌, length, reverse, Option, Result, Ok, Err}
use Rattle.std.specs.Prelude.{IfOk, OnOk}
use Rattle.std.proofs.lemmas.List.{append-nil}
use Rattle.gas_meter.specs.declared.schedule.Schedule.{Schedule}
use Rattle.wasm_machine.specs.declared.turn.Turn.{Turn}
use Rattle.wasm_machine.specs.declared.turn.Phase.TheVariants.{Spent}
use Rattle.wasm_machine.specs.declared.frame.Pause.{Pause}
use Rattle.wasm_machine.specs.declared.stop.Stop.{Stop}
use Rattle.wasm_machine.specs.declared.stop.Stop.TheVariants as stops
use Rattle.wasm_machine.specs.declared.state.State as states
use Rattle.wasm_machine.specs.declared.machine.Machine.{Machine}
use Rattle.wasm_machine.specs.Acts.{Act, Stands, idle, go, trap, out_of_gas, standing_of}
use Rattle.gas_meter.specs.Costs.{standard_schedule}
use Rattle.wasm_types.specs.declared.value.Value.{Value}
use Rattle.wasm_types.specs.declared.module.Module.{Module}
use Rattle.wasm_types.specs.Plain.{PlainModule, plain_module}
use Rattle.wasm_machine.specs.declared.frame.Label.{Label}
use Rattle.wasm_machine.specs.declared.frame.Caller.{Caller}
use Rattle.wasm_machine.specs.Effects.{Shared}
use Rattle.wasm_machine.specs.Start.{table, start_memory, start_globals}
use Rattle.wasm_machine.specs.Exec.{Outcome, trapped, stands, host, run, at_last, exec}
use Rattle.wasm_machine.specs.Phases.{IsReady, after_turn}
use Rattle.wasm_machine.specs.Pauses.{standing_at, TurnsAt}
use Rattle.wasm_machine.specs.Values.{shared_of}
use Rattle.wasm_machine.specs.Rests.{through, hosts, ahead, next_at, pauses_at, StopsAt, HostsAfter}
use Rattle.wasm_machine.specs.Machine.{Rests, plain_of, stands_after}
use Rattle.wasm_machine.proofs.Standing.{one_more_act, go_rests, some_host, pause_rests, pause_hosts, pause_stands, standing_with}

-- the outcome of a run, whatever acts come after it
went : (k : Machine) (acts : List Act) → Rests k acts → IsReady k.phase → (gas : ℕ) (costs : Schedule) (o : List Act → Outcome) → ((more : List Act) → 1 ≤ hosts k.state.callers.items → next_at (plain_of k) k.state k.state.next (ahead gas costs more) ≡ o more) → (more : List Act) → exec (plain_of k) ((acts ++ go gas costs ∷ []) ++ more) ≡ at_last (o more)
went k acts r ready gas costs o leads more =
    ap (exec (plain_of k)) (one_more_act acts more (go gas costs))
    ∙ r.goes_on (go gas costs ∷ more)
    ∙ ap at_last (go_rests k.phase (plain_of k) k.state k.state.next r.standing r.left r.costs gas costs more ready ∙ leads more (some_host k.phase (hosts k.state.callers.items) ready r.hosts_in))

went_here : (k : Machine) (acts : List Act) → Rests k acts → IsReady k.phase → (gas : ℕ) (costs : Schedule) (o : List Act → Outcome) → ((more : List Act) → 1 ≤ hosts k.state.callers.items → next_at (plain_of k) k.state k.state.next (ahead gas costs more) ≡ o more) → stands_after k (acts ++ go gas costs ∷ []) ≡ at_last (o [])
went_here k acts r ready gas costs o leads =
    ap (exec (plain_of k)) (sym (append-nil (acts ++ go gas costs ∷ []))) ∙ went k acts r ready gas costs o leads []

-- what is known of a module is known of the same one
pub led_on : (x y : Module) (cells : List (Option ℕ)) (s : states.State) (gas : ℕ) (costs : Schedule) (P : PlainModule → List Act → Outcome → Type 0) → x ≡ y → ((acts : List Act) → 1 ≤ hosts s.callers.items → cells ≡ table (plain_module x) → P (plain_module x) acts (next_at (plain_module x) s s.next (ahead gas costs acts))) → (acts : List Act) → 1 ≤ hosts s.callers.items → cells ≡ table (plain_module y) → P (plain_module y) acts (next_at (plain_module y) s s.next (ahead gas costs acts))
led_on x y cells s gas costs P e h =
    subst (λ (z : Module). (acts : List Act) → 1 ≤ hosts s.callers.items → cells ≡ table (plain_module z) → P (plain_module z) acts (next_at (plain_module z) s s.next (ahead gas costs acts))) e h

-- ---- a pause

abbrev pub paused_machine : Machine → states.State → Pause → Machine
paused_machine k s pause =
    record { «module» = k.«module»; table = k.table; state = s; phase = after_turn (standing_at pause) k.phase }

pub paused : (k : Machine) (s : states.State) (pause : Pause) (gas left : ℕ) (costs : Schedule) → IsReady k.phase → ((more : List Act) → 1 ≤ hosts k.state.callers.items → next_at (plain_of k) k.state k.state.next (ahead gas costs more) ≡ pauses_at (plain_of k) s pause (ahead left costs more)) → HostsAfter pause (hosts k.state.callers.items) (hosts s.callers.items) → (acts : List Act) → Rests k acts → Rests (paused_machine k s pause) (acts ++ go gas costs ∷ [])
paused k s pause gas left costs ready leads count acts r = record {
  standing = standing_at pause;
  left = left;
  costs = costs;
  goes_on = λ more. went k acts r ready gas costs (λ more. pauses_at (plain_of k) s pause (ahead left costs more)) leads more ∙ ap at_last (pause_rests k.phase (plain_of k) s s.next pause (ahead left costs more) ready);
  hosts_in = pause_hosts k.phase pause (hosts k.state.callers.items) (hosts s.callers.items) ready count r.hosts_in;
  cells = r.cells;
}

pub paused_here : (k : Machine) (s : states.State) (pause : Pause) (gas left : ℕ) (costs : Schedule) → IsReady k.phase → ((more : List Act) → 1 ≤ hosts k.state.callers.items → next_at (plain_of k) k.state k.state.next (ahead gas costs more) ≡ pauses_at (plain_of k) s pause (ahead left costs more)) → (acts : List Act) → Rests k acts → stands_after k (acts ++ go gas costs ∷ []) ≡ standing_with (standing_at pause) (shared_of s.values) left
paused_here k s pause gas left costs ready leads acts r =
    went_here k acts r ready gas costs (λ more. pauses_at (plain_of k) s pause (ahead left costs more)) leads ∙ pause_stands (plain_of k) s pause left costs

-- ---- a stop

abbrev pub spent_machine : Machine → states.State → Machine
spent_machine k s = record { «module» = k.«module»; table = k.table; state = s; phase = Spent }

abbrev Stopped : Machine → states.State → Stop → ℕ → ℕ → Schedule → Type 0
Stopped k s stop gas left costs =
    (more : List Act) → 1 ≤ hosts k.state.callers.items → k.table.items ≡ table (plain_of k) → StopsAt stop s (ahead left costs more) (next_at (plain_of k) k.state k.state.next (ahead gas costs more))

pub stopped : (E : Type 0) (k : Machine) (s : states.State) (stop : Stop) (result : Result Turn E) (gas left : ℕ) (costs : Schedule) → TurnsAt stop result → IsReady k.phase → Stopped k s stop gas left costs → OnOk result ((acts : List Act) → Rests k acts → Rests (spent_machine k s) (acts ++ go gas costs ∷ []))
stopped E k s (stops.Trap kind) (Ok turn) gas left costs t ready leads = λ acts r. record {
  standing = trap kind;
  left = left;
  costs = costs;
  goes_on = went k acts r ready gas costs (λ more. trapped kind (shared_of s.values) (ahead left costs more)) (λ more h. leads more h r.cells);
  hosts_in = tt;
  cells = r.cells;
}
stopped E k s stops.OutOfGas (Ok turn) gas left costs t ready leads = λ acts r. record {
  standing = out_of_gas;
  left = left;
  costs = costs;
  goes_on = went k acts r ready gas costs (λ more. stands out_of_gas (shared_of s.values) left) (λ more h. leads more h r.cells);
  hosts_in = tt;
  cells = r.cells;
}
stopped E k s stops.NoMemory (Ok turn) gas left costs t ready leads = absurd t
stopped E k s (stops.Trap kind) (Err e) gas left costs t ready leads = tt
stopped E k s stops.OutOfGas (Err e) gas left costs t ready leads = tt
stopped E k s stops.NoMemory (Err e) gas left costs t ready leads = tt

pub stopped_turn : (E : Type 0) (k : Machine) (s : states.State) (stop : Stop) (result : Result Turn E) (gas left : ℕ) (costs : Schedule) → TurnsAt stop result → IsReady k.phase → Stopped k s stop gas left costs → IfOk result (λ turn. (acts : List Act) → Rests k acts → standing_of turn ≡ (stands_after k (acts ++ go gas costs ∷ [])).standing)
stopped_turn E k s (stops.Trap kind) (Ok turn) gas left costs t ready leads = λ acts r.
    ap standing_of t ∙ sym (ap (λ (x : Stands). x.standing) (went_here k acts r ready gas costs (λ more. trapped kind (shared_of s.values) (ahead left costs more)) (λ more h. leads more h r.cells)))
stopped_turn E k s stops.OutOfGas (Ok turn) gas left costs t ready leads = λ acts r.
    ap standing_of t ∙ sym (ap (λ (x : Stands). x.standing) (went_here k acts r ready gas costs (λ more. stands out_of_gas (shared_of s.values) left) (λ more h. leads more h r.cells)))
stopped_turn E k s stops.NoMemory (Ok turn) gas left costs t ready leads = absurd t
stopped_turn E k s (stops.Trap kind) (Err e) gas left costs t ready leads = tt
stopped_turn E k s stops.OutOfGas (Err e) gas left costs t ready leads = tt
stopped_turn E k s stops.NoMemory (Err e) gas left costs t ready leads = tt

pub stopped_left : (E : Type 0) (k : Machine) (s : states.State) (stop : Stop) (result : Result Turn E) (gas left : ℕ) (costs : Schedule) → TurnsAt stop result → IsReady k.phase → Stopped k s stop gas left costs → OnOk result ((acts : List Act) → Rests k acts → left ≡ (stands_after k (acts ++ go gas costs ∷ [])).left)
stopped_left E k s (stops.Trap kind) (Ok turn) gas left costs t ready leads = λ acts r.
    sym (ap (λ (x : Stands). x.left) (went_here k acts r ready gas costs (λ more. trapped kind (shared_of s.values) (ahead left costs more)) (λ more h. leads more h r.cells)))
stopped_left E k s stops.OutOfGas (Ok turn) gas left costs t ready leads = λ acts r.
    sym (ap (λ (x : Stands). x.left) (went_here k acts r ready gas costs (λ more. stands out_of_gas (shared_of s.values) left) (λ more h. leads more h r.cells)))
stopped_left E k s stops.NoMemory (Ok turn) gas left costs t ready leads = absurd t
stopped_left E k s (stops.Trap kind) (Err e) gas left costs t ready leads = tt
stopped_left E k s stops.OutOfGas (Err e) gas left costs t ready leads = tt
stopped_left E k s stops.NoMemory (Err e) gas left costs t ready leads = tt

-- ---- the start

pub fresh : (m : PlainModule) (cs : List Caller) (ops locals : List Value) (labels : List Label) (shared : Shared) (more : List Act) → cs ≡ [] → ops ≡ [] → locals ≡ [] → shared ≡ record { memory = start_memory m; globals = start_globals m } → exec m more ≡ at_last (through m (reverse cs) ops locals labels 0 (run m (host 0 (length locals + length ops) idle shared (ahead 0 standard_schedule more))))
unfolding exec through
fresh m cs ops locals labels shared more a b c d = rw (a, b, c, d) refl

pub same_shared : (mem mem2 : List ℕ) (globals globals2 : List Value) → mem ≡ mem2 → globals ≡ globals2 → ◌≡◌ {A = Shared} (record { memory = mem; globals = globals }) (record { memory = mem2; globals = globals2 })
same_shared mem mem2 globals globals2 a b = cc
