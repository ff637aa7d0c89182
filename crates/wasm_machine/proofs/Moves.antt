-- What single instructions come to.
use Rattle.std.proofs.Common.{◌≡◌, refl, sym, ◌∙◌, ap, subst, ℕ, ◌+◌, ◌-◌, ◌≤◌, ◌<◌, max, arith, cond, List, [], ◌∷◌, length, reverse, Option, Ok, Err, lt-ltb, le-ltb}
use Rattle.std.specs.Prelude.{slice_get}
use Rattle.wasm_types.specs.declared.value.ValType.{ValType}
use Rattle.wasm_types.specs.declared.value.Value.{Value}
use Rattle.wasm_types.specs.declared.value.Value.TheVariants.{I32, I64}
use Rattle.wasm_types.specs.declared.instr.Instr.{Instr}
use Rattle.wasm_types.specs.declared.instr.Instr.TheVariants.{Const}
use Rattle.wasm_machine.specs.Kinds.{opcode}
use Rattle.wasm_types.specs.Plain.{PlainModule}
use Rattle.wasm_machine.specs.declared.stop.Stop.{Stop}
use Rattle.wasm_machine.specs.declared.stop.Stop.TheVariants as stops
use Rattle.wasm_machine.specs.declared.pile.Pile.{Pile}
use Rattle.wasm_machine.specs.declared.values.Values.{Values}
use Rattle.wasm_machine.specs.declared.frame.Frame as frames
use Rattle.wasm_machine.specs.declared.state.State as states
use Rattle.gas_meter.specs.declared.schedule.Schedule.{Schedule}
use Rattle.wasm_machine.specs.Acts.{Act, Stands, out_of_gas}
use Rattle.wasm_machine.specs.Effects.{Shared, State, Effect}
use Rattle.wasm_machine.specs.Exec.{Ahead, ends, stands, trapped, Move, leaves, price, spend, paid, bad, after, follows, grows, jumps_if, jumps_by, opens_if, calls_indirect, from, move, run}
use Rattle.wasm_machine.specs.Start.{code_at}
use Rattle.wasm_machine.proofs.Fuel.{run-step}
use Rattle.wasm_machine.specs.Control.{HasNoI32, Pops, Charges}
use Rattle.wasm_machine.specs.Piles.{all, below, own}
use Rattle.wasm_machine.specs.Values.{beside, seen, shared_of, Keeps, Does}
use Rattle.wasm_machine.specs.Rests.{ahead, frame_at, at_place, ending, inside, running, moved, Leads, IsBodyOf}
use Rattle.wasm_machine.proofs.Blocks.{blocks-ends, ending-ends}

pub inside_ends : (m : PlainModule) (s : states.State) (frame : frames.Frame) (r : Stands) → inside m s frame (ends r) ≡ ends r
inside_ends m s frame r =
    blocks-ends m (frame_at m s.depth frame) (length (all s.values.locals)) (ending m (reverse s.callers.items) (below s.values.locals) (below s.labels) s.depth frame.result) (own s.labels) (below s.values.operands) r
    (ending-ends m (reverse s.callers.items) (below s.values.locals) (below s.labels) s.depth frame.result r)

-- ---- other operands, or other values

abbrev pub with_values : states.State → Values → states.State
with_values s v = record { values = v; labels = s.labels; callers = s.callers; depth = s.depth; next = s.next }

abbrev pub with_pile : states.State → Pile Value → states.State
with_pile s p = with_values s (record { memory = s.values.memory; globals = s.values.globals; operands = p; locals = s.values.locals })

pub moved_below : (m : PlainModule) (s : states.State) (p : Pile Value) (next : frames.Frame) (mv : Move) → below p ≡ below s.values.operands → moved m (with_pile s p) next mv ≡ moved m s next mv
moved_below m s p next mv e = rw e refl

-- an i32 was taken from the top
pub popped : (m : PlainModule) (s : states.State) (p : Pile Value) (next : frames.Frame) (f : List Value → Move) (n : ℕ) (mv : Move) → own s.values.operands ≡ I32 n ∷ own p → below p ≡ below s.values.operands → f (I32 n ∷ own p) ≡ mv → moved m s next (f (own s.values.operands)) ≡ moved m (with_pile s p) next mv
popped m s p next f n mv top low e =
    ap (λ values. moved m s next (f values)) top ∙ ap (moved m s next) e ∙ sym (moved_below m s p next mv low)

-- there is none
pub not_popped : (m : PlainModule) (s : states.State) (p : Pile Value) (next : frames.Frame) (f : List Value → Move) (a : Ahead) (e : Stop) → Pops s.values.operands p (Err e) → ((values : List Value) → HasNoI32 values → f values ≡ bad (seen s.values) a) → Leads m next (Err e) (with_pile s p) a (moved m s next (f (own s.values.operands)))
not_popped m s p next f a (stops.Trap kind) h none =
    ap (moved m s next) (none (own s.values.operands) h.0) ∙ inside_ends m s next _ ∙ ap (λ k. trapped k (shared_of s.values) a) (sym h.1)
not_popped m s p next f a stops.OutOfGas h none = absurd h
not_popped m s p next f a stops.NoMemory h none = tt

pub no_grows : (place : ℕ) (s : State) (a : Ahead) (values : List Value) → HasNoI32 values → grows place values s a ≡ bad s a
no_grows place s a [] h = refl
no_grows place s a (I32 n ∷ values) h = absurd h
no_grows place s a (I64 n ∷ values) h = refl

pub no_jumps_if : (place label : ℕ) (s : State) (a : Ahead) (values : List Value) → HasNoI32 values → jumps_if place label values s a ≡ bad s a
no_jumps_if place label s a [] h = refl
no_jumps_if place label s a (I32 n ∷ values) h = absurd h
no_jumps_if place label s a (I64 n ∷ values) h = refl

pub no_jumps_by : (targets : List ℕ) (first count default : ℕ) (s : State) (a : Ahead) (values : List Value) → HasNoI32 values → jumps_by targets first count default values s a ≡ bad s a
no_jumps_by targets first count default s a [] h = refl
no_jumps_by targets first count default s a (I32 n ∷ values) h = absurd h
no_jumps_by targets first count default s a (I64 n ∷ values) h = refl

pub no_opens_if : (place : ℕ) (result : Option ValType) (els : Option ℕ) (end : ℕ) (s : State) (a : Ahead) (values : List Value) → HasNoI32 values → opens_if place result els end values s a ≡ bad s a
no_opens_if place result els end s a [] h = refl
no_opens_if place result els end s a (I32 n ∷ values) h = absurd h
no_opens_if place result els end s a (I64 n ∷ values) h = refl

pub no_calls_indirect : (m : PlainModule) (ty : ℕ) (s : State) (a : Ahead) (values : List Value) → HasNoI32 values → calls_indirect m ty values s a ≡ bad s a
no_calls_indirect m ty s a [] h = refl
no_calls_indirect m ty s a (I32 n ∷ values) h = absurd h
no_calls_indirect m ty s a (I64 n ∷ values) h = refl

-- ---- charges

pub paid_ok : (n : ℕ) (shared : Shared) (a : Ahead) (k : Ahead → Move) → n ≤ a.left → paid n shared a k ≡ k (spend a n)
paid_ok n shared a k h = ap (λ b. cond b (leaves (stands out_of_gas shared 0)) (k (spend a n))) (le-ltb a.left n h)

pub paid_not : (n : ℕ) (shared : Shared) (a : Ahead) (k : Ahead → Move) → a.left < n → paid n shared a k ≡ leaves (stands out_of_gas shared 0)
paid_not n shared a k h = ap (λ b. cond b (leaves (stands out_of_gas shared 0)) (k (spend a n))) (lt-ltb a.left n h)

-- a charge that wasn't paid
pub not_paid : (A : Type 0) (m : PlainModule) (s : states.State) (next : frames.Frame) (n new : ℕ) (a b : Ahead) (k : Ahead → Move) (e : Stop) → b.left ≡ new → Charges {A = A} n a.left new (Err e) → Leads m next (Err e) s b (moved m s next (paid n (shared_of s.values) a k))
not_paid A m s next n new a b k (stops.Trap kind) same h = absurd h
not_paid A m s next n new a b k stops.OutOfGas same h =
    ap (moved m s next) (paid_not n (shared_of s.values) a k h.0) ∙ inside_ends m s next _ ∙ ap (λ left. stands out_of_gas (shared_of s.values) left) (sym h.1 ∙ sym same)
not_paid A m s next n new a b k stops.NoMemory same h = tt

pub charges_same : (A : Type 0) (n k old new : ℕ) (e : Stop) → n ≡ k → Charges {A = A} n old new (Err e) → Charges {A = A} k old new (Err e)
charges_same A n k old new e same h = subst (λ i. Charges {A = A} i old new (Err e)) same h

-- the same, where what was charged is the price
pub unpaid : (m : PlainModule) (s : states.State) (next : frames.Frame) (n charged left new : ℕ) (costs : Schedule) (acts : List Act) (k : Ahead → Move) (e : Stop) → charged ≡ n → Charges {A = Unit {0}} charged left new (Err e) → Leads m next (Err e) s (ahead new costs acts) (moved m s next (paid n (shared_of s.values) (ahead left costs acts) k))
unpaid m s next n charged left new costs acts k e same h =
    not_paid (Unit {0}) m s next n new (ahead left costs acts) (ahead new costs acts) k e refl (charges_same (Unit {0}) charged n left new e same h)

-- a charge that was paid
pub is_paid : (m : PlainModule) (s : states.State) (next : frames.Frame) (n charged left new : ℕ) (costs : Schedule) (acts : List Act) (k : Ahead → Move) → charged ≡ n → (charged ≤ left) × (new ≡ left - charged) → moved m s next (paid n (shared_of s.values) (ahead left costs acts) k) ≡ moved m s next (k (ahead new costs acts))
is_paid m s next n charged left new costs acts k same h =
    let enough : n ≤ left = omega (arith, same, h.0) in
    let behind : left - n ≡ new = omega (arith, same, h.1) in
    ap (moved m s next) (paid_ok n (shared_of s.values) (ahead left costs acts) k enough)
    ∙ ap (λ l. moved m s next (k (ahead l costs acts))) behind

-- a schedule in range names the prices themselves
pub price_is : (n : ℕ) → 1 ≤ n → n ≡ max 1 n
price_is n h = omega (arith, h)

pub const_price : (costs : Schedule) (v : Value) → 1 ≤ costs.plain → costs.plain ≡ price costs (opcode (Const v))
const_price costs (I32 n) h = price_is costs.plain h
const_price costs (I64 n) h = price_is costs.plain h

-- ---- effects

pub effect_done : (m : PlainModule) (s : states.State) (v : Values) (next : frames.Frame) (a : Ahead) (e : Effect) → e ≡ Ok (seen v) → Keeps s.values v → moved m s next (after next.place (seen s.values) a e) ≡ running m (with_values s v) next a
unfolding running
effect_done m s v next a e h k =
    ap (λ x. moved m s next (after next.place (seen s.values) a x)) h
    ∙ rw (k.operands, k.locals, k.size) refl

pub effect_stopped : (A : Type 0) (m : PlainModule) (s : states.State) (v : Values) (next : frames.Frame) (a : Ahead) (e : Effect) (stop : Stop) → Does {A = A} (Err stop) e s.values v → Leads m next (Err stop) (with_values s v) a (moved m s next (after next.place (seen s.values) a e))
effect_stopped A m s v next a e (stops.Trap kind) h =
    ap (λ x. moved m s next (after next.place (seen s.values) a x)) h.0 ∙ inside_ends m s next _ ∙ ap (λ x. trapped kind x a) (sym h.1)
effect_stopped A m s v next a e stops.OutOfGas h = absurd h
effect_stopped A m s v next a e stops.NoMemory h = tt

-- ---- a frame and its next instruction

pub running_move : (m : PlainModule) (s : states.State) (frame : frames.Frame) (a : Ahead) → running m s frame a ≡ inside m s frame (follows (run m) (frame_at m s.depth frame) (beside s.values) (frame.place + 1) (move m (code_at m frame.code).targets (beside s.values) (frame.place + 1) (slice_get (code_at m frame.code).body frame.place) (seen s.values) a))
unfolding running
running_move m s frame a = ap (inside m s frame) (run-step m (from (frame_at m s.depth frame) (beside s.values) frame.place (seen s.values) a))

-- the same, for an instruction that was looked up in the function's body
pub running_body : (m : PlainModule) (s : states.State) (frame : frames.Frame) (instrs : List Instr) (targets : List ℕ) (a : Ahead) (instr : Option Instr) → IsBodyOf (code_at m frame.code) instrs targets → slice_get instrs frame.place ≡ instr → running m s frame a ≡ moved m s (at_place frame (frame.place + 1)) (move m targets (beside s.values) (frame.place + 1) instr (seen s.values) a)
running_body m s frame instrs targets a instr body found =
    running_move m s frame a
    ∙ rw (← body.0, ← body.1, found) refl
