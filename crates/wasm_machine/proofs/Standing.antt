-- What a machine that stands between two acts comes to.
use Rattle.std.proofs.Common.{◌≡◌, refl, sym, ◌∙◌, ap, ℕ, suc, ◌+◌, ◌≤◌, List, [], ◌∷◌, ◌++◌, length, reverse, Option, Result, Ok, Err, append_assoc, arith}
use Rattle.std.specs.Prelude.{IfOk}
use Rattle.gas_meter.specs.declared.schedule.Schedule.{Schedule}
use Rattle.wasm_types.specs.declared.value.Value.{Value}
use Rattle.wasm_types.specs.Plain.{PlainModule}
use Rattle.wasm_machine.specs.declared.turn.Phase.{Phase}
use Rattle.wasm_machine.specs.declared.turn.Phase.TheVariants.{Idle, Ready, Asked, ReadyOver, AskedOver, Spent}
use Rattle.wasm_machine.specs.declared.frame.Label.{Label}
use Rattle.wasm_machine.specs.declared.frame.Caller.{Caller}
use Rattle.wasm_machine.specs.declared.frame.Caller.TheVariants.{Host}
use Rattle.wasm_machine.specs.declared.frame.Next.{Next}
use Rattle.wasm_machine.specs.declared.frame.Next.TheVariants.{Enter, Give}
use Rattle.wasm_machine.specs.declared.frame.Step.{Step}
use Rattle.wasm_machine.specs.declared.frame.Step.TheVariants.{Runs, Stops}
use Rattle.wasm_machine.specs.declared.stop.Stop.{Stop}
use Rattle.wasm_machine.specs.declared.turn.Turn.{Turn}
use Rattle.wasm_machine.specs.declared.turn.Turn.TheVariants as turns
use Rattle.wasm_machine.specs.declared.state.State as states
use Rattle.wasm_machine.specs.Acts.{Act, call, go, answer, memory, Standing, Stands, ready, standing_of, IsAsk}
use Rattle.wasm_machine.specs.Effects.{Shared}
use Rattle.wasm_machine.specs.Exec.{Ahead, Outcome, Job, enter, host, hosted, going_on, run, at_last}
use Rattle.wasm_machine.specs.Piles.{all, below, span}
use Rattle.wasm_machine.specs.Values.{shared_of}
use Rattle.wasm_machine.specs.Rests.{Begins, AsksFrom, StepAsks, through, waiting, ahead, next_at, giving, pauses_at, HostsAfter}
use Rattle.wasm_machine.specs.Machine.{next_on, rests_in, HostsIn}
use Rattle.wasm_machine.specs.Phases.{TakesMemory, TakesCall, IsReady, IsAsked, called as host_called, answered, after_turn}
use Rattle.wasm_machine.specs.Pauses.{standing_at}
use Rattle.wasm_machine.specs.declared.frame.Pause.{Pause}
use Rattle.wasm_machine.specs.declared.frame.Pause.TheVariants as pauses
use Rattle.wasm_machine.proofs.Fuel.{run-step}
use Rattle.wasm_machine.proofs.Blocks.{through-ends}
use Rattle.wasm_machine.proofs.Calls.{reverse_snoc}

pub one_more_act : (acts more : List Act) (act : Act) → (acts ++ act ∷ []) ++ more ≡ acts ++ act ∷ more
one_more_act acts more act = append_assoc acts (act ∷ []) more

hosted_going : (next : Job → Outcome) (depth below : ℕ) (shared : Shared) (left : ℕ) (acts : List Act) (k : Ahead → Outcome) → hosted next depth below (going_on shared left acts k) ≡ going_on shared left acts (λ a. hosted next depth below (k a))
hosted_going next depth below shared left [] k = refl
hosted_going next depth below shared left (go more costs ∷ acts) k = refl
hosted_going next depth below shared left (call func args ∷ acts) k = refl
hosted_going next depth below shared left (answer v ∷ acts) k = refl
hosted_going next depth below shared left (memory bytes ∷ acts) k = refl

values_of : states.State → ℕ
values_of s = length (all s.values.locals) + length (all s.values.operands)

abbrev pub with_bytes : states.State → List ℕ → states.State
with_bytes s bytes =
    record { values = record { memory = bytes; globals = s.values.globals; operands = s.values.operands; locals = s.values.locals }; labels = s.labels; callers = s.callers; depth = s.depth; next = s.next }

-- the state with something else to come next
abbrev pub with_next : states.State → Next → states.State
with_next s next = record { values = s.values; labels = s.labels; callers = s.callers; depth = s.depth; next = next }

abbrev at_host : PlainModule → states.State → Outcome → Outcome
at_host m s o = through m (reverse s.callers.items) (all s.values.operands) (all s.values.locals) (all s.labels) s.depth o

pub waits_memory : (m : PlainModule) (s : states.State) (standing : Standing) (left : ℕ) (costs : Schedule) (bytes : List ℕ) (more : List Act) → waiting m s standing (ahead left costs (memory bytes ∷ more)) ≡ waiting m (with_bytes s bytes) standing (ahead left costs more)
unfolding waiting
waits_memory m s standing left costs bytes more =
    ap (at_host m s) (run-step m (host s.depth (length (all s.values.locals) + length (all s.values.operands)) standing (shared_of s.values) (ahead left costs (memory bytes ∷ more))))

pub waits_answer : (m : PlainModule) (s : states.State) (standing : Standing) (left : ℕ) (costs : Schedule) (v : Option Value) (more : List Act) → waiting m s standing (ahead left costs (answer v ∷ more)) ≡ next_on m s (Give v) left more
unfolding waiting
waits_answer m s standing left costs v more =
    ap (at_host m s) (run-step m (host s.depth (length (all s.values.locals) + length (all s.values.operands)) standing (shared_of s.values) (ahead left costs (answer v ∷ more))))

pub waits_call : (m : PlainModule) (s : states.State) (standing : Standing) (left : ℕ) (costs : Schedule) (func : ℕ) (args : List Value) (more : List Act) → waiting m s standing (ahead left costs (call func args ∷ more)) ≡ through m (Host ∷ reverse s.callers.items) (all s.values.operands) (all s.values.locals) (all s.labels) s.depth (going_on (shared_of s.values) left more (λ a. run m (enter s.depth (length (all s.values.locals) + length (all s.values.operands)) func args (shared_of s.values) a)))
unfolding waiting through
waits_call m s standing left costs func args more =
    let n = length (all s.values.locals) + length (all s.values.operands) in
    ap (at_host m s)
    (run-step m (host s.depth n standing (shared_of s.values) (ahead left costs (call func args ∷ more)))
    ∙ sym (hosted_going (run m) s.depth n (shared_of s.values) left more (λ a. run m (enter s.depth n func args (shared_of s.values) a))))

abbrev pub standing_with : Standing → Shared → ℕ → Stands
standing_with standing shared left = record { standing = standing; memory = shared.memory; globals = shared.globals; left = left }

pub waits_here : (m : PlainModule) (s : states.State) (standing : Standing) (left : ℕ) (costs : Schedule) → at_last (waiting m s standing (ahead left costs [])) ≡ standing_with standing (shared_of s.values) left
unfolding waiting
waits_here m s standing left costs =
    ap at_last
    (ap (at_host m s) (run-step m (host s.depth (length (all s.values.locals) + length (all s.values.operands)) standing (shared_of s.values) (ahead left costs [])))
    ∙ through-ends m (reverse s.callers.items) (all s.values.operands) (all s.values.locals) (all s.labels) s.depth _)

-- what is next, where no act comes
next_here : (m : PlainModule) (s : states.State) (next : Next) (left : ℕ) → at_last (next_on m s next left []) ≡ standing_with ready (shared_of s.values) left
next_here m s (Enter func) left = ap at_last (through-ends m (reverse s.callers.items) (below s.values.operands) (all s.values.locals) (all s.labels) s.depth _)
next_here m s (Give v) left = ap at_last (through-ends m (reverse s.callers.items) (all s.values.operands) (all s.values.locals) (all s.labels) s.depth _)

pub rests_memory : (phase : Phase) (m : PlainModule) (s : states.State) (next : Next) (standing : Standing) (left : ℕ) (costs : Schedule) → (at_last (rests_in phase m s next standing (ahead left costs []))).memory ≡ s.values.memory
rests_memory Idle m s next standing left costs = ap (λ (r : Stands). r.memory) (waits_here m s standing left costs)
rests_memory Asked m s next standing left costs = ap (λ (r : Stands). r.memory) (waits_here m s standing left costs)
rests_memory AskedOver m s next standing left costs = ap (λ (r : Stands). r.memory) (waits_here m s standing left costs)
rests_memory Ready m s next standing left costs = ap (λ (r : Stands). r.memory) (next_here m s next left)
rests_memory ReadyOver m s next standing left costs = ap (λ (r : Stands). r.memory) (next_here m s next left)
rests_memory Spent m s next standing left costs = refl

-- what is next, where it gets gas
pub next_goes : (m : PlainModule) (s : states.State) (next : Next) (left more : ℕ) (costs : Schedule) (acts : List Act) → next_on m s next left (go more costs ∷ acts) ≡ next_at m s next (ahead more costs acts)
unfolding giving
next_goes m s (Enter func) left more costs acts = refl
next_goes m s (Give v) left more costs acts = refl

-- ---- acts, by the phase of the machine

pub memory_rests : (phase : Phase) (m : PlainModule) (s : states.State) (next : Next) (standing : Standing) (left : ℕ) (costs : Schedule) (bytes : List ℕ) (more : List Act) → TakesMemory phase → rests_in phase m s next standing (ahead left costs (memory bytes ∷ more)) ≡ rests_in phase m (with_bytes s bytes) next standing (ahead left costs more)
memory_rests Idle m s next standing left costs bytes more h = waits_memory m s standing left costs bytes more
memory_rests Asked m s next standing left costs bytes more h = waits_memory m s standing left costs bytes more
memory_rests AskedOver m s next standing left costs bytes more h = waits_memory m s standing left costs bytes more
memory_rests Ready m s next standing left costs bytes more h = absurd h
memory_rests ReadyOver m s next standing left costs bytes more h = absurd h
memory_rests Spent m s next standing left costs bytes more h = absurd h

pub answer_rests : (phase : Phase) (m : PlainModule) (s : states.State) (next : Next) (standing : Standing) (left : ℕ) (costs : Schedule) (v : Option Value) (more : List Act) → IsAsked phase → rests_in phase m s next standing (ahead left costs (answer v ∷ more)) ≡ rests_in (answered phase) m (with_next s (Give v)) (Give v) standing (ahead left costs more)
answer_rests Asked m s next standing left costs v more h = waits_answer m s standing left costs v more
answer_rests AskedOver m s next standing left costs v more h = waits_answer m s standing left costs v more
answer_rests Idle m s next standing left costs v more h = absurd h
answer_rests Ready m s next standing left costs v more h = absurd h
answer_rests ReadyOver m s next standing left costs v more h = absurd h
answer_rests Spent m s next standing left costs v more h = absurd h

pub answer_hosts : (phase : Phase) (n : ℕ) → IsAsked phase → HostsIn phase n → HostsIn (answered phase) n
answer_hosts Asked n h k = k
answer_hosts AskedOver n h k = k
answer_hosts Idle n h k = absurd h
answer_hosts Ready n h k = absurd h
answer_hosts ReadyOver n h k = absurd h
answer_hosts Spent n h k = absurd h

-- a state in which the host has just called a function
pub record Calls (old new : states.State) (given : List Value) : Type 0 where
  pub callers : new.callers.items ≡ old.callers.items ++ Host ∷ []
  pub args : span new.values.operands ≡ given
  pub operands : below new.values.operands ≡ all old.values.operands
  pub locals : all new.values.locals ≡ all old.values.locals
  pub labels : all new.labels ≡ all old.labels
  pub shared : shared_of new.values ≡ shared_of old.values
  pub depth : new.depth ≡ old.depth

abbrev call_form : PlainModule → List Caller → List Value → List Value → List Label → ℕ → Shared → ℕ → List Act → ℕ → List Value → Outcome
call_form m cs ops locals labels depth shared left more func args =
    through m cs ops locals labels depth (going_on shared left more (λ a. run m (enter depth (length locals + length ops) func args shared a)))

call_same : (m : PlainModule) (cs ds : List Caller) (ops ops2 locals locals2 : List Value) (labels labels2 : List Label) (depth depth2 : ℕ) (shared shared2 : Shared) (left : ℕ) (more : List Act) (func : ℕ) (args args2 : List Value) → cs ≡ ds → ops ≡ ops2 → locals ≡ locals2 → labels ≡ labels2 → depth ≡ depth2 → shared ≡ shared2 → args ≡ args2 → call_form m cs ops locals labels depth shared left more func args ≡ call_form m ds ops2 locals2 labels2 depth2 shared2 left more func args2
call_same m cs ds ops ops2 locals locals2 labels labels2 depth depth2 shared shared2 left more func args args2 a b c d e f g = rw (a, b, c, d, e, f, g) refl

called_next : (m : PlainModule) (old new : states.State) (standing : Standing) (left : ℕ) (costs : Schedule) (func : ℕ) (args : List Value) (more : List Act) → Calls old new args → waiting m old standing (ahead left costs (call func args ∷ more)) ≡ next_on m new (Enter func) left more
called_next m old new standing left costs func args more h =
    waits_call m old standing left costs func args more
    ∙ sym (call_same m (reverse new.callers.items) (Host ∷ reverse old.callers.items) (below new.values.operands) (all old.values.operands) (all new.values.locals) (all old.values.locals) (all new.labels) (all old.labels) new.depth old.depth (shared_of new.values) (shared_of old.values) left more func (span new.values.operands) args
    (ap reverse h.callers ∙ reverse_snoc old.callers.items Host) h.operands h.locals h.labels h.depth h.shared h.args)

pub call_rests : (phase : Phase) (m : PlainModule) (s new : states.State) (next : Next) (standing : Standing) (left : ℕ) (costs : Schedule) (func : ℕ) (args : List Value) (more : List Act) → TakesCall phase → Calls s new args → rests_in phase m s next standing (ahead left costs (call func args ∷ more)) ≡ rests_in (host_called phase) m new (Enter func) standing (ahead left costs more)
call_rests Idle m s new next standing left costs func args more h k = called_next m s new standing left costs func args more k
call_rests Asked m s new next standing left costs func args more h k = called_next m s new standing left costs func args more k
call_rests Ready m s new next standing left costs func args more h k = absurd h
call_rests ReadyOver m s new next standing left costs func args more h k = absurd h
call_rests AskedOver m s new next standing left costs func args more h k = absurd h
call_rests Spent m s new next standing left costs func args more h k = absurd h

pub call_hosts : (phase : Phase) (n k : ℕ) → TakesCall phase → k ≡ suc n → HostsIn phase n → HostsIn (host_called phase) k
call_hosts Idle n k h e i = omega arith
call_hosts Asked n k h e i = omega arith
call_hosts Ready n k h e i = absurd h
call_hosts ReadyOver n k h e i = absurd h
call_hosts AskedOver n k h e i = absurd h
call_hosts Spent n k h e i = absurd h

pub go_rests : (phase : Phase) (m : PlainModule) (s : states.State) (next : Next) (standing : Standing) (left : ℕ) (costs : Schedule) (more : ℕ) (new : Schedule) (acts : List Act) → IsReady phase → rests_in phase m s next standing (ahead left costs (go more new ∷ acts)) ≡ next_at m s next (ahead more new acts)
go_rests Ready m s next standing left costs more new acts h = next_goes m s next left more new acts
go_rests ReadyOver m s next standing left costs more new acts h = next_goes m s next left more new acts
go_rests Idle m s next standing left costs more new acts h = absurd h
go_rests Asked m s next standing left costs more new acts h = absurd h
go_rests AskedOver m s next standing left costs more new acts h = absurd h
go_rests Spent m s next standing left costs more new acts h = absurd h

pub some_host : (phase : Phase) (n : ℕ) → IsReady phase → HostsIn phase n → 1 ≤ n
some_host Ready n h k = omega arith
some_host ReadyOver n h k = omega arith
some_host Idle n h k = absurd h
some_host Asked n h k = absurd h
some_host AskedOver n h k = absurd h
some_host Spent n h k = absurd h

pub pause_rests : (phase : Phase) (m : PlainModule) (s : states.State) (next : Next) (pause : Pause) (a : Ahead) → IsReady phase → pauses_at m s pause a ≡ rests_in (after_turn (standing_at pause) phase) m s next (standing_at pause) a
pause_rests Ready m s next (pauses.Done v) a h = refl
pause_rests Ready m s next (pauses.Asks i args) a h = refl
pause_rests ReadyOver m s next (pauses.Done v) a h = refl
pause_rests ReadyOver m s next (pauses.Asks i args) a h = refl
pause_rests Idle m s next pause a h = absurd h
pause_rests Asked m s next pause a h = absurd h
pause_rests AskedOver m s next pause a h = absurd h
pause_rests Spent m s next pause a h = absurd h

pub pause_hosts : (phase : Phase) (pause : Pause) (old new : ℕ) → IsReady phase → HostsAfter pause old new → HostsIn phase old → HostsIn (after_turn (standing_at pause) phase) new
pause_hosts Ready (pauses.Done v) old new h e k = omega arith
pause_hosts Ready (pauses.Asks i args) old new h e k = omega arith
pause_hosts ReadyOver (pauses.Done v) old new h e k = omega arith
pause_hosts ReadyOver (pauses.Asks i args) old new h e k = omega arith
pause_hosts Idle pause old new h e k = absurd h
pause_hosts Asked pause old new h e k = absurd h
pause_hosts AskedOver pause old new h e k = absurd h
pause_hosts Spent pause old new h e k = absurd h

-- what stands after a pause
pub pause_stands : (m : PlainModule) (s : states.State) (pause : Pause) (left : ℕ) (costs : Schedule) → at_last (pauses_at m s pause (ahead left costs [])) ≡ standing_with (standing_at pause) (shared_of s.values) left
pause_stands m s (pauses.Done v) left costs = waits_here m s _ left costs
pause_stands m s (pauses.Asks i args) left costs = waits_here m s _ left costs

-- ---- calls that have not begun

pub call_ready : (phase : Phase) → TakesCall phase → IsReady (host_called phase)
call_ready Idle h = tt
call_ready Asked h = tt
call_ready Ready h = absurd h
call_ready ReadyOver h = absurd h
call_ready AskedOver h = absurd h
call_ready Spent h = absurd h

pub pause_not_ready : (phase : Phase) (pause : Pause) → IsReady phase → IsReady (after_turn (standing_at pause) phase) → ⊥
pause_not_ready Ready (pauses.Done v) h k = k
pause_not_ready Ready (pauses.Asks i args) h k = k
pause_not_ready ReadyOver (pauses.Done v) h k = k
pause_not_ready ReadyOver (pauses.Asks i args) h k = k
pause_not_ready Idle pause h k = absurd h
pause_not_ready Asked pause h k = absurd h
pause_not_ready AskedOver pause h k = absurd h
pause_not_ready Spent pause h k = absurd h

-- what asks has begun from what was next
pub asks_from : (p q : Next) (pause : Pause) → (Begins p → Begins q) → AsksFrom p pause → AsksFrom q pause
asks_from p q (pauses.Done v) h k = tt
asks_from p q (pauses.Asks i args) h k = h k

pub enter_asks : (func : ℕ) (r : Result Step Stop) → IfOk r (λ step. StepAsks (Enter func) step)
enter_asks func (Ok (Runs frame)) = tt
enter_asks func (Ok (Stops (pauses.Done v))) = tt
enter_asks func (Ok (Stops (pauses.Asks i args))) = tt
enter_asks func (Err stop) = tt

-- a turn that is an ask comes of a pause that asks
pub turn_begins : (next : Next) (turn : Turn) (pause : Pause) → standing_of turn ≡ standing_at pause → IsAsk turn → AsksFrom next pause → Begins next
turn_begins next (turns.Ask i args) (pauses.Done v) e a h = cc
turn_begins next (turns.Ask i args) (pauses.Asks j others) e a h = h
turn_begins next (turns.Done v) pause e a h = absurd a
turn_begins next (turns.Trap kind) pause e a h = absurd a
turn_begins next turns.OutOfGas pause e a h = absurd a
