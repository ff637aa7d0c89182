-- A run is what its parts make of it: the bound on steps plays no part.
use Rattle.std.proofs.Common.{◌≡◌, refl, sym, ◌∙◌, ap, ℕ, zero, suc, ◌+◌, ◌-◌, ◌*◌, ◌<◌, ◌≤◌, max, Bool, true, false, cond, List, [], ◌∷◌, ◌++◌, length, Option, Some, None, Ok, Err, arith, ltb-false}
use Rattle.std.specs.Prelude.{⊤, nat_lt, nat_le, ◌&&◌, map, slice_get}
use Rattle.gas_meter.specs.declared.schedule.Schedule.{Schedule}
use Rattle.gas_meter.specs.Costs.{cost}
use Rattle.linear_memory.specs.Pages.{pages_of, zeros}
use Rattle.wasm_types.specs.declared.value.ValType.{ValType}
use Rattle.wasm_types.specs.declared.value.Value.{Value}
use Rattle.wasm_types.specs.declared.value.Value.TheVariants.{I32, I64}
use Rattle.wasm_types.specs.declared.instr.Instr.{Instr}
use Rattle.wasm_types.specs.declared.instr.Instr.TheVariants.{Op, Index, CallIndirect, BrTable, Mem, Const, Block, Loop, If, Else, End}
use Rattle.wasm_types.specs.Plain.{PlainFuncType, PlainCode, PlainModule}
use Rattle.wasm_machine.specs.declared.turn.TrapKind.{TrapKind}
use Rattle.wasm_machine.specs.declared.turn.TrapKind.TheVariants.{StackOverflow}
use Rattle.wasm_machine.specs.declared.kind.PlainKind.{PlainKind}
use Rattle.wasm_machine.specs.declared.kind.PlainKind.TheVariants as plain
use Rattle.wasm_machine.specs.declared.kind.IndexKind.{IndexKind}
use Rattle.wasm_machine.specs.declared.kind.IndexKind.TheVariants as indexed
use Rattle.wasm_machine.specs.Acts.{Act, call, go, answer, memory, Standing, idle, ready, done, trap, out_of_gas, ask}
use Rattle.wasm_machine.specs.Effects.{Shared, State, Effect, given, with_operands, with_memory, most_values, push, plain_effect, index_effect, memory_effect}
use Rattle.wasm_machine.specs.Kinds.{plain_kind, index_kind, width, opcode, is_marker}
use Rattle.wasm_machine.specs.Start.{imported, func_type, code_at, zero_of}
use Rattle.wasm_machine.specs.Exec.{Ahead, Outcome, falls, jumps, returns, gives, ends, stands, Move, goes, opens, calls, leaves, price, spend, paid, after, grows, jumps_if, jumps_to, jumps_by, opens_else, opens_if, calls_with, calls_typed, calls_cell, calls_indirect, plain_move, index_move, move_paid, move, Frame, Job, from, turn, enter, host, handed, behind, closes, turns, result_of, finishes, goes_on, resumes, trapped, most_frames, enters_code, enters_typed, enters, going_on, hosted, acts_on, follows, step, deep, still_to_come, bound, enough, run}

abbrev ahead_of : Job → Ahead
ahead_of (from f below place s a) = a
ahead_of (turn f below result start place outer s a) = a
ahead_of (enter depth below func args shared a) = a
ahead_of (host depth below standing shared a) = a

abbrev pub AsksNone : Standing → Type 0
AsksNone idle = ⊤
AsksNone ready = ⊤
AsksNone (done value) = ⊤
AsksNone (trap kind) = ⊤
AsksNone out_of_gas = ⊤
AsksNone (ask i args) = ⊥

-- an outcome of an instruction has no more before it than this
abbrev pub AtMost : ℕ → Outcome → Type 0
AtMost n (falls s a) = bound a ≤ n
AtMost n (jumps label s a) = bound a ≤ n
AtMost n (returns s a) = bound a ≤ n
AtMost n (gives v shared a) = bound a ≤ n
AtMost n (ends r) = AsksNone r.standing

-- and less, where it is a branch
abbrev Within : ℕ → Outcome → Type 0
Within n (falls s a) = bound a ≤ n
Within n (jumps label s a) = bound a < n
Within n (returns s a) = bound a ≤ n
Within n (gives v shared a) = bound a ≤ n
Within n (ends r) = ⊤

abbrev pub MoveAtMost : ℕ → Move → Type 0
MoveAtMost n (goes place s a) = bound a ≤ n
MoveAtMost n (opens loops result start place s a) = bound a ≤ n
MoveAtMost n (calls func args s a) = bound a ≤ n
MoveAtMost n (leaves o) = AtMost n o

abbrev MoveWithin : ℕ → Move → Type 0
MoveWithin n (goes place s a) = bound a < n
MoveWithin n (opens loops result start place s a) = bound a < n
MoveWithin n (calls func args s a) = bound a < n
MoveWithin n (leaves o) = Within n o

within-at_most : (k n : ℕ) (o : Outcome) → AtMost k o → k < n → Within n o
within-at_most k n (falls s a) h lt = omega arith
within-at_most k n (jumps label s a) h lt = omega arith
within-at_most k n (returns s a) h lt = omega arith
within-at_most k n (gives v shared a) h lt = omega arith
within-at_most k n (ends r) h lt = tt

move_within-at_most : (k n : ℕ) (o : Move) → MoveAtMost k o → k < n → MoveWithin n o
move_within-at_most k n (goes place s a) h lt = omega arith
move_within-at_most k n (opens loops result start place s a) h lt = omega arith
move_within-at_most k n (calls func args s a) h lt = omega arith
move_within-at_most k n (leaves o) h lt = within-at_most k n o h lt

pub le_self : (n : ℕ) → n ≤ n
le_self n = omega arith

at_most-more : (k n : ℕ) (o : Outcome) → AtMost k o → k ≤ n → AtMost n o
at_most-more k n (falls s a) h le = omega arith
at_most-more k n (jumps label s a) h le = omega arith
at_most-more k n (returns s a) h le = omega arith
at_most-more k n (gives v shared a) h le = omega arith
at_most-more k n (ends r) h le = h

move_at_most-more : (k n : ℕ) (o : Move) → MoveAtMost k o → k ≤ n → MoveAtMost n o
move_at_most-more k n (goes place s a) h le = omega arith
move_at_most-more k n (opens loops result start place s a) h le = omega arith
move_at_most-more k n (calls func args s a) h le = omega arith
move_at_most-more k n (leaves o) h le = at_most-more k n o h le

within-more : (k n : ℕ) (o : Outcome) → Within k o → k ≤ n → Within n o
within-more k n (falls s a) h le = omega arith
within-more k n (jumps label s a) h le = omega arith
within-more k n (returns s a) h le = omega arith
within-more k n (gives v shared a) h le = omega arith
within-more k n (ends r) h le = tt

-- ---- single instructions

pub record Under (n : ℕ) (o : Move) : Type 0 where
  pub it : MoveAtMost n o

at_choice : {n : ℕ} (b : Bool) {x y : Move} → Under n x → Under n y → Under n (cond b x y)
at_choice true p q = p
at_choice false p q = q

nothing : {n : ℕ} {kind : TrapKind} {shared : Shared} {left : ℕ} → Under n (leaves (stands (trap kind) shared left))
nothing = record { it = tt }

unpaid : {n : ℕ} {shared : Shared} {left : ℕ} → Under n (leaves (stands out_of_gas shared left))
unpaid = record { it = tt }

at_falls : {s : State} (a : Ahead) → Under (bound a) (leaves (falls s a))
at_falls a = record { it = le_self (bound a) }

at_goes : {place : ℕ} {s : State} (a : Ahead) → Under (bound a) (goes place s a)
at_goes a = record { it = le_self (bound a) }

at_jumps : {label : ℕ} {s : State} (a : Ahead) → Under (bound a) (leaves (jumps label s a))
at_jumps a = record { it = le_self (bound a) }

at_opens : {loops : Bool} {result : Option ValType} {start place : ℕ} {s : State} (a : Ahead) → Under (bound a) (opens loops result start place s a)
at_opens a = record { it = le_self (bound a) }

at_calls : {func : ℕ} {args : List Value} {s : State} (a : Ahead) → Under (bound a) (calls func args s a)
at_calls a = record { it = le_self (bound a) }

at_paid : (n : ℕ) (shared : Shared) (a : Ahead) (k : Ahead → Move) → ((b : Ahead) → Under (bound b) (k b)) → Under (bound a) (paid n shared a k)
at_paid n shared a k h =
    at_choice _ unpaid (record { it = move_at_most-more (bound (spend a n)) (bound a) (k (spend a n)) (h (spend a n)).it (omega arith) })

at_after : (place : ℕ) (s : State) (a : Ahead) (e : Effect) → Under (bound a) (after place s a e)
at_after place s a (Ok new) = at_goes a
at_after place s a (Err kind) = nothing

at_grows : (place : ℕ) (values : List Value) (s : State) (a : Ahead) → Under (bound a) (grows place values s a)
at_grows place [] s a = nothing
at_grows place (I64 n ∷ rest) s a = nothing
at_grows place (I32 pages ∷ rest) s a = at_choice _ (at_goes a) (at_paid _ _ a (λ b. goes place (with_memory (with_operands s (I32 (pages_of s.shared.memory) ∷ rest)) (s.shared.memory ++ zeros pages)) b) (λ b. at_goes b))

at_jumps_if : (place label : ℕ) (values : List Value) (s : State) (a : Ahead) → Under (bound a) (jumps_if place label values s a)
at_jumps_if place label [] s a = nothing
at_jumps_if place label (I64 n ∷ rest) s a = nothing
at_jumps_if place label (I32 c ∷ rest) s a = at_choice _ (at_goes a) (at_jumps a)

at_jumps_to : (label : Option ℕ) (s : State) (a : Ahead) → Under (bound a) (jumps_to label s a)
at_jumps_to None s a = nothing
at_jumps_to (Some label) s a = at_jumps a

at_jumps_by : (targets : List ℕ) (first count default : ℕ) (values : List Value) (s : State) (a : Ahead) → Under (bound a) (jumps_by targets first count default values s a)
at_jumps_by targets first count default [] s a = nothing
at_jumps_by targets first count default (I64 n ∷ rest) s a = nothing
at_jumps_by targets first count default (I32 c ∷ rest) s a = at_jumps_to _ _ a

at_opens_else : (result : Option ValType) (els : Option ℕ) (end : ℕ) (s : State) (a : Ahead) → Under (bound a) (opens_else result els end s a)
at_opens_else result (Some els) end s a = at_opens a
at_opens_else None None end s a = at_goes a
at_opens_else (Some t) None end s a = nothing

at_opens_if : (place : ℕ) (result : Option ValType) (els : Option ℕ) (end : ℕ) (values : List Value) (s : State) (a : Ahead) → Under (bound a) (opens_if place result els end values s a)
at_opens_if place result els end [] s a = nothing
at_opens_if place result els end (I64 n ∷ rest) s a = nothing
at_opens_if place result els end (I32 c ∷ rest) s a = at_choice _ (at_opens_else result els end _ a) (at_opens a)

at_calls_typed : (m : PlainModule) (func : ℕ) (t : Option PlainFuncType) (s : State) (a : Ahead) → Under (bound a) (calls_typed m func t s a)
at_calls_typed m func None s a = nothing
at_calls_typed m func (Some t) s a = at_paid _ _ a (λ b. calls_with func (length t.params) s b) (λ b. at_choice _ nothing (at_calls b))

at_calls_cell : (m : PlainModule) (ty : ℕ) (cell : Option (Option ℕ)) (s : State) (a : Ahead) → Under (bound a) (calls_cell m ty cell s a)
at_calls_cell m ty None s a = nothing
at_calls_cell m ty (Some None) s a = nothing
at_calls_cell m ty (Some (Some func)) s a = at_choice _ (at_calls_typed m func (func_type m func) s a) nothing

at_calls_indirect : (m : PlainModule) (ty : ℕ) (values : List Value) (s : State) (a : Ahead) → Under (bound a) (calls_indirect m ty values s a)
at_calls_indirect m ty [] s a = nothing
at_calls_indirect m ty (I64 n ∷ rest) s a = nothing
at_calls_indirect m ty (I32 i ∷ rest) s a = at_calls_cell m ty _ _ a

at_plain : (kind : PlainKind) (op below place : ℕ) (s : State) (a : Ahead) → Under (bound a) (plain_move kind op below place s a)
at_plain plain.Return op below place s a = record { it = le_self (bound a) }
at_plain plain.MemoryGrow op below place s a = at_grows place s.operands s a
at_plain plain.Nop op below place s a = at_after place s a (plain_effect plain.Nop op below s)
at_plain plain.Drop op below place s a = at_after place s a (plain_effect plain.Drop op below s)
at_plain plain.Select op below place s a = at_after place s a (plain_effect plain.Select op below s)
at_plain plain.MemorySize op below place s a = at_after place s a (plain_effect plain.MemorySize op below s)
at_plain plain.OnOne op below place s a = at_after place s a (plain_effect plain.OnOne op below s)
at_plain plain.OnTwo op below place s a = at_after place s a (plain_effect plain.OnTwo op below s)
at_plain plain.Unreachable op below place s a = at_after place s a (plain_effect plain.Unreachable op below s)

at_index : (m : PlainModule) (kind : IndexKind) (i below place : ℕ) (s : State) (a : Ahead) → Under (bound a) (index_move m kind i below place s a)
at_index m indexed.Branch i below place s a = at_jumps a
at_index m indexed.BranchIf i below place s a = at_jumps_if place i s.operands s a
at_index m indexed.Call i below place s a = at_calls_typed m i (func_type m i) s a
at_index m indexed.LocalGet i below place s a = at_after place s a (index_effect indexed.LocalGet i below s)
at_index m indexed.LocalSet i below place s a = at_after place s a (index_effect indexed.LocalSet i below s)
at_index m indexed.LocalTee i below place s a = at_after place s a (index_effect indexed.LocalTee i below s)
at_index m indexed.GlobalGet i below place s a = at_after place s a (index_effect indexed.GlobalGet i below s)
at_index m indexed.GlobalSet i below place s a = at_after place s a (index_effect indexed.GlobalSet i below s)
at_index m indexed.Unreachable i below place s a = at_after place s a (index_effect indexed.Unreachable i below s)

at_paid_for : (m : PlainModule) (targets : List ℕ) (below place : ℕ) (i : Instr) (s : State) (a : Ahead) → Under (bound a) (move_paid m targets below place i s a)
at_paid_for m targets below place (Op op) s a = at_plain (plain_kind op) op below place s a
at_paid_for m targets below place (Index op i) s a = at_index m (index_kind op) i below place s a
at_paid_for m targets below place (CallIndirect ty) s a = at_calls_indirect m ty s.operands s a
at_paid_for m targets below place (BrTable first count default) s a = at_jumps_by targets first count default s.operands s a
at_paid_for m targets below place (Mem op align offset) s a = at_after place s a (memory_effect (width op) op offset s)
at_paid_for m targets below place (Const v) s a = at_after place s a (push below v s)
at_paid_for m targets below place (Block result end) s a = at_opens a
at_paid_for m targets below place (Loop result end) s a = at_opens a
at_paid_for m targets below place (If result els end) s a = at_opens_if place result els end s.operands s a
at_paid_for m targets below place (Else end) s a = at_falls a
at_paid_for m targets below place End s a = at_falls a

pub under_move : (m : PlainModule) (targets : List ℕ) (below place : ℕ) (i : Option Instr) (s : State) (a : Ahead) → Under (bound a) (move m targets below place i s a)
under_move m targets below place None s a = at_falls a
under_move m targets below place (Some i) s a =
    at_choice _ (at_falls a) (at_paid _ _ a (λ b. move_paid m targets below place i s b) (λ b. at_paid_for m targets below place i s b))

record Below (n : ℕ) (o : Move) : Type 0 where
  pub it : MoveWithin n o

-- what is charged leaves less
below_paid : (n : ℕ) (shared : Shared) (a : Ahead) (k : Ahead → Move) → 1 ≤ n → ((b : Ahead) → Under (bound b) (k b)) → Below (bound a) (paid n shared a k)
below_paid n shared a k some h = go (nat_lt a.left n) refl
  where
    go : (b : Bool) → nat_lt a.left n ≡ b → Below (bound a) (cond b (leaves (stands out_of_gas shared 0)) (k (spend a n)))
    go true e = record { it = tt }
    go false e = record { it = move_within-at_most (bound (spend a n)) (bound a) (k (spend a n)) (h (spend a n)).it (omega (arith, ltb-false a.left n e)) }

price_some : (costs : Schedule) (op : ℕ) → 1 ≤ price costs op
price_some costs op = at_least_one (cost costs op)
  where
    at_least_one : (n : ℕ) → 1 ≤ max 1 n
    at_least_one n = omega arith

below_move : (m : PlainModule) (targets : List ℕ) (below place : ℕ) (i : Option Instr) (s : State) (a : Ahead) → Below (bound a) (move m targets below place i s a)
below_move m targets below place None s a = record { it = le_self (bound a) }
below_move m targets below place (Some i) s a =
    choose (is_marker i) (record { it = le_self (bound a) }) (below_paid (price a.costs (opcode i)) s.shared a (λ b. move_paid m targets below place i s b) (price_some a.costs (opcode i)) (λ b. at_paid_for m targets below place i s b))
  where
    choose : (b : Bool) → Below (bound a) (leaves (falls s a)) → Below (bound a) (paid (price a.costs (opcode i)) s.shared a (λ b. move_paid m targets below place i s b)) → Below (bound a) (cond b (leaves (falls s a)) (paid (price a.costs (opcode i)) s.shared a (λ b. move_paid m targets below place i s b)))
    choose true p q = p
    choose false p q = q

-- ---- the bound along a run

behind-within : (next : Job → Outcome) → ((j : Job) → Within (bound (ahead_of j)) (next j)) → (f : Frame) (below place : ℕ) (values : Option (List Value)) (s : State) (a : Ahead) → Within (bound a) (behind next f below place values s a)
behind-within next mono f below place None s a = tt
behind-within next mono f below place (Some values) s a = mono (from f below place (with_operands s values) a)

closes-within : (next : Job → Outcome) → ((j : Job) → Within (bound (ahead_of j)) (next j)) → (f : Frame) (below : ℕ) (result : Option ValType) (place : ℕ) (outer : List Value) (n : ℕ) (o : Outcome) → Within n o → Within n (closes next f below result place outer o)
closes-within next mono f below result place outer n (falls s a) h =
    within-more (bound a) n _ (behind-within next mono f below place (handed result s.operands outer) s a) h
closes-within next mono f below result place outer n (jumps zero s a) h =
    within-more (bound a) n _ (behind-within next mono f below place (handed result s.operands outer) s a) (omega arith)
closes-within next mono f below result place outer n (jumps (suc label) s a) h = h
closes-within next mono f below result place outer n (returns s a) h = h
closes-within next mono f below result place outer n (gives v shared a) h = h
closes-within next mono f below result place outer n (ends r) h = tt

turns-within : (next : Job → Outcome) → ((j : Job) → Within (bound (ahead_of j)) (next j)) → (f : Frame) (below : ℕ) (result : Option ValType) (start place : ℕ) (outer : List Value) (n : ℕ) (o : Outcome) → Within n o → Within n (turns next f below result start place outer o)
turns-within next mono f below result start place outer n (falls s a) h =
    within-more (bound a) n _ (behind-within next mono f below place (handed result s.operands outer) s a) h
turns-within next mono f below result start place outer n (jumps zero s a) h =
    within-more (bound a) n _ (mono (turn f below result start place outer (with_operands s []) a)) (omega arith)
turns-within next mono f below result start place outer n (jumps (suc label) s a) h = h
turns-within next mono f below result start place outer n (returns s a) h = h
turns-within next mono f below result start place outer n (gives v shared a) h = h
turns-within next mono f below result start place outer n (ends r) h = tt

result_of-within : (result : Option ValType) (values : List Value) (s : State) (n : ℕ) (a : Ahead) → bound a ≤ n → Within n (result_of result values s a)
result_of-within None values s n a h = h
result_of-within (Some t) [] s n a h = tt
result_of-within (Some t) (v ∷ values) s n a h = h

finishes-within : (result : Option ValType) (n : ℕ) (o : Outcome) → Within n o → Within n (finishes result o)
finishes-within result n (falls s a) h = result_of-within result s.operands s n a h
finishes-within result n (jumps zero s a) h = result_of-within result s.operands s n a (omega arith)
finishes-within result n (jumps (suc label) s a) h = tt
finishes-within result n (returns s a) h = result_of-within result s.operands s n a h
finishes-within result n (gives v shared a) h = h
finishes-within result n (ends r) h = tt

goes_on-within : (next : Job → Outcome) → ((j : Job) → Within (bound (ahead_of j)) (next j)) → (f : Frame) (below place : ℕ) (s : State) (n : ℕ) (a : Ahead) (e : Effect) → bound a ≤ n → Within n (goes_on next f below place s a e)
goes_on-within next mono f below place s n a (Ok new) h = within-more (bound a) n _ (mono (from f below place new a)) h
goes_on-within next mono f below place s n a (Err kind) h = tt

resumes-within : (next : Job → Outcome) → ((j : Job) → Within (bound (ahead_of j)) (next j)) → (f : Frame) (below place : ℕ) (s : State) (n : ℕ) (o : Outcome) → Within n o → Within n (resumes next f below place s o)
resumes-within next mono f below place s n (gives v shared a) h =
    let new : State = record s { shared = shared } in goes_on-within next mono f below place new n a (given below v new) h
resumes-within next mono f below place s n (ends r) h = tt
resumes-within next mono f below place s n (falls inner a) h = h
resumes-within next mono f below place s n (jumps label inner a) h = h
resumes-within next mono f below place s n (returns inner a) h = h

hosted-within : (next : Job → Outcome) → ((j : Job) → Within (bound (ahead_of j)) (next j)) → (depth below : ℕ) (n : ℕ) (o : Outcome) → Within n o → Within n (hosted next depth below o)
hosted-within next mono depth below n (gives v shared a) h =
    within-more (bound a) n _ (mono (host depth below (done v) shared a)) h
hosted-within next mono depth below n (ends r) h = tt
hosted-within next mono depth below n (falls s a) h = h
hosted-within next mono depth below n (jumps label s a) h = h
hosted-within next mono depth below n (returns s a) h = h

going_on-within : (shared : Shared) (left : ℕ) (acts : List Act) (n : ℕ) (k : Ahead → Outcome) → still_to_come acts ≤ n → ((a : Ahead) → bound a < n → Within n (k a)) → Within n (going_on shared left acts k)
going_on-within shared left [] n k h within = tt
going_on-within shared left (go more costs ∷ acts) n k h within = within _ (omega arith)
going_on-within shared left (call func args ∷ acts) n k h within = tt
going_on-within shared left (answer v ∷ acts) n k h within = tt
going_on-within shared left (memory bytes ∷ acts) n k h within = tt

acts_on-within : (next : Job → Outcome) → ((j : Job) → Within (bound (ahead_of j)) (next j)) → (depth below : ℕ) (standing : Standing) (shared : Shared) (left : ℕ) (costs : Schedule) (acts : List Act) → Within (left + still_to_come acts) (acts_on next depth below standing shared left costs acts)
acts_on-within next mono depth below standing shared left costs [] = tt
acts_on-within next mono depth below standing shared left costs (memory bytes ∷ acts) =
    within-more (left + still_to_come acts) _ _ (mono (host depth below standing (record { memory = bytes; globals = shared.globals }) (record { left = left; costs = costs; acts = acts }))) (omega arith)
acts_on-within next mono depth below standing shared left costs (call func args ∷ acts) =
    going_on-within shared left acts _ _ (omega arith) (λ a h. hosted-within next mono depth below _ _ (within-more (bound a) _ _ (mono (enter depth below func args shared a)) (omega arith)))
acts_on-within next mono depth below standing shared left costs (answer v ∷ acts) =
    going_on-within shared left acts _ _ (omega arith) (λ a h. omega arith)
acts_on-within next mono depth below standing shared left costs (go more more_costs ∷ acts) = tt

enters_code-within : (next : Job → Outcome) → ((j : Job) → Within (bound (ahead_of j)) (next j)) → (depth below : ℕ) (result : Option ValType) (code : PlainCode) (args : List Value) (shared : Shared) (a : Ahead) → Within (bound a) (enters_code next depth below result code args shared a)
enters_code-within next mono depth below result code args shared a =
    choose (nat_lt depth most_frames && nat_le (below + length args + length code.locals) most_values) _ (finishes-within result (bound a) _ (mono (from (record { code = code; depth = depth + 1 }) (below + length args + length code.locals) 0 (record { locals = args ++ map zero_of code.locals; operands = []; shared = shared }) a)))
  where
    choose : (b : Bool) (o : Outcome) → Within (bound a) o → Within (bound a) (cond b o (trapped StackOverflow shared a))
    choose true o h = h
    choose false o h = tt

enters_typed-within : (next : Job → Outcome) → ((j : Job) → Within (bound (ahead_of j)) (next j)) → (depth below : ℕ) (t : Option PlainFuncType) (code : PlainCode) (args : List Value) (shared : Shared) (a : Ahead) → Within (bound a) (enters_typed next depth below t code args shared a)
enters_typed-within next mono depth below None code args shared a = tt
enters_typed-within next mono depth below (Some t) code args shared a = enters_code-within next mono depth below t.result code args shared a

enters-within : (m : PlainModule) (next : Job → Outcome) → ((j : Job) → Within (bound (ahead_of j)) (next j)) → (depth below func : ℕ) (args : List Value) (shared : Shared) (a : Ahead) → Within (bound a) (enters m next depth below func args shared a)
enters-within m next mono depth below func args shared a =
    choose (nat_lt func (imported m)) _ _ (mono (host depth below (ask func args) shared a)) (enters_typed-within next mono depth below (func_type m func) (code_at m (func - imported m)) args shared a)
  where
    choose : (b : Bool) (o p : Outcome) → Within (bound a) o → Within (bound a) p → Within (bound a) (cond b o p)
    choose true o p h k = h
    choose false o p h k = k

follows-within : (next : Job → Outcome) → ((j : Job) → Within (bound (ahead_of j)) (next j)) → (f : Frame) (below place n : ℕ) (mv : Move) → MoveWithin n mv → Within n (follows next f below place mv)
follows-within next mono f below place n (goes onward s a) h = within-more (bound a) n _ (mono (from f below onward s a)) (omega arith)
follows-within next mono f below place n (opens false result start onward s a) h =
    closes-within next mono f below result onward s.operands n _ (within-more (bound a) n _ (mono (from f (below + length s.operands) start (with_operands s []) a)) (omega arith))
follows-within next mono f below place n (opens true result start onward s a) h =
    within-more (bound a) n _ (mono (turn f below result start onward s.operands (with_operands s []) a)) (omega arith)
follows-within next mono f below place n (calls func args s a) h =
    resumes-within next mono f below place s n _ (within-more (bound a) n _ (mono (enter f.depth (below + length s.operands) func args s.shared a)) (omega arith))
follows-within next mono f below place n (leaves o) h = h

step-within : (m : PlainModule) (next : Job → Outcome) → ((j : Job) → Within (bound (ahead_of j)) (next j)) → (j : Job) → Within (bound (ahead_of j)) (step m next j)
step-within m next mono (from f below place s a) =
    follows-within next mono f below (place + 1) (bound a) _ (below_move m f.code.targets below (place + 1) (slice_get f.code.body place) s a).it
step-within m next mono (turn f below result start place outer s a) =
    turns-within next mono f below result start place outer (bound a) _ (mono (from f (below + length outer) start s a))
step-within m next mono (enter depth below func args shared a) = enters-within m next mono depth below func args shared a
step-within m next mono (host depth below standing shared a) = acts_on-within next mono depth below standing shared a.left a.costs a.acts

deep-within : (m : PlainModule) (n : ℕ) (j : Job) → Within (bound (ahead_of j)) (deep m n j)
deep-within m zero j = tt
deep-within m (suc n) j = step-within m (deep m n) (deep-within m n) j

-- ---- what a step needs of the parts in it

abbrev Agree : ℕ → (Job → Outcome) → (Job → Outcome) → Type 0
Agree n f g = (j : Job) → enough j < n → f j ≡ g j

behind-alike : (n : ℕ) (g h : Job → Outcome) → Agree n g h → (f : Frame) (below place : ℕ) (values : Option (List Value)) (s : State) (a : Ahead) → 4 * bound a < n → behind g f below place values s a ≡ behind h f below place values s a
behind-alike n g h alike f below place None s a lt = refl
behind-alike n g h alike f below place (Some values) s a lt = alike (from f below place (with_operands s values) a) lt

closes-alike : (n : ℕ) (g h : Job → Outcome) → Agree n g h → (f : Frame) (below : ℕ) (result : Option ValType) (place : ℕ) (outer : List Value) (k : ℕ) (o : Outcome) → Within k o → 4 * k < n → closes g f below result place outer o ≡ closes h f below result place outer o
closes-alike n g h alike f below result place outer k (falls s a) w lt = behind-alike n g h alike f below place _ s a (omega arith)
closes-alike n g h alike f below result place outer k (jumps zero s a) w lt = behind-alike n g h alike f below place _ s a (omega arith)
closes-alike n g h alike f below result place outer k (jumps (suc label) s a) w lt = refl
closes-alike n g h alike f below result place outer k (returns s a) w lt = refl
closes-alike n g h alike f below result place outer k (gives v shared a) w lt = refl
closes-alike n g h alike f below result place outer k (ends r) w lt = refl

turns-alike : (n : ℕ) (g h : Job → Outcome) → Agree n g h → (f : Frame) (below : ℕ) (result : Option ValType) (start place : ℕ) (outer : List Value) (k : ℕ) (o : Outcome) → Within k o → 4 * k < n → turns g f below result start place outer o ≡ turns h f below result start place outer o
turns-alike n g h alike f below result start place outer k (falls s a) w lt = behind-alike n g h alike f below place _ s a (omega arith)
turns-alike n g h alike f below result start place outer k (jumps zero s a) w lt =
    alike (turn f below result start place outer (with_operands s []) a) (omega arith)
turns-alike n g h alike f below result start place outer k (jumps (suc label) s a) w lt = refl
turns-alike n g h alike f below result start place outer k (returns s a) w lt = refl
turns-alike n g h alike f below result start place outer k (gives v shared a) w lt = refl
turns-alike n g h alike f below result start place outer k (ends r) w lt = refl

goes_on-alike : (n : ℕ) (g h : Job → Outcome) → Agree n g h → (f : Frame) (below place : ℕ) (s : State) (a : Ahead) (e : Effect) → 4 * bound a < n → goes_on g f below place s a e ≡ goes_on h f below place s a e
goes_on-alike n g h alike f below place s a (Ok new) lt = alike (from f below place new a) lt
goes_on-alike n g h alike f below place s a (Err kind) lt = refl

resumes-alike : (n : ℕ) (g h : Job → Outcome) → Agree n g h → (f : Frame) (below place : ℕ) (s : State) (k : ℕ) (o : Outcome) → Within k o → 4 * k < n → resumes g f below place s o ≡ resumes h f below place s o
resumes-alike n g h alike f below place s k (gives v shared a) w lt =
    let new : State = record s { shared = shared } in goes_on-alike n g h alike f below place new a (given below v new) (omega arith)
resumes-alike n g h alike f below place s k (ends r) w lt = refl
resumes-alike n g h alike f below place s k (falls inner a) w lt = refl
resumes-alike n g h alike f below place s k (jumps label inner a) w lt = refl
resumes-alike n g h alike f below place s k (returns inner a) w lt = refl

hosted-alike : (n : ℕ) (g h : Job → Outcome) → Agree n g h → (depth below k : ℕ) (o : Outcome) → Within k o → 4 * k + 1 < n → hosted g depth below o ≡ hosted h depth below o
hosted-alike n g h alike depth below k (gives v shared a) w lt = alike (host depth below (done v) shared a) (omega arith)
hosted-alike n g h alike depth below k (ends r) w lt = refl
hosted-alike n g h alike depth below k (falls s a) w lt = refl
hosted-alike n g h alike depth below k (jumps label s a) w lt = refl
hosted-alike n g h alike depth below k (returns s a) w lt = refl

going_on-alike : (shared : Shared) (left : ℕ) (acts : List Act) (p q : Ahead → Outcome) → ((a : Ahead) → bound a < still_to_come acts → p a ≡ q a) → going_on shared left acts p ≡ going_on shared left acts q
going_on-alike shared left [] p q h = refl
going_on-alike shared left (go more costs ∷ acts) p q h = h _ (omega arith)
going_on-alike shared left (call func args ∷ acts) p q h = refl
going_on-alike shared left (answer v ∷ acts) p q h = refl
going_on-alike shared left (memory bytes ∷ acts) p q h = refl

acts_on-alike : (g h : Job → Outcome) → ((j : Job) → Within (bound (ahead_of j)) (g j)) → (depth below : ℕ) (standing : Standing) (shared : Shared) (left : ℕ) (costs : Schedule) (acts : List Act) → Agree (4 * (left + still_to_come acts) + 1) g h → acts_on g depth below standing shared left costs acts ≡ acts_on h depth below standing shared left costs acts
acts_on-alike g h mono depth below standing shared left costs [] alike = refl
acts_on-alike g h mono depth below standing shared left costs (memory bytes ∷ acts) alike =
    alike (host depth below standing (record { memory = bytes; globals = shared.globals }) (record { left = left; costs = costs; acts = acts })) (omega arith)
acts_on-alike g h mono depth below standing shared left costs (call func args ∷ acts) alike =
    going_on-alike shared left acts _ _ (λ a lt.
    hosted-alike _ g h alike depth below (bound a) (g (enter depth below func args shared a)) (mono (enter depth below func args shared a)) (omega arith)
    ∙ ap (hosted h depth below) (alike (enter depth below func args shared a) (omega arith)))
acts_on-alike g h mono depth below standing shared left costs (answer v ∷ acts) alike = going_on-alike shared left acts _ _ (λ a lt. refl)
acts_on-alike g h mono depth below standing shared left costs (go more more_costs ∷ acts) alike = refl

enters_typed-alike : (g h : Job → Outcome) (depth below : ℕ) (t : Option PlainFuncType) (code : PlainCode) (args : List Value) (shared : Shared) (a : Ahead) → Agree (4 * bound a + 2) g h → enters_typed g depth below t code args shared a ≡ enters_typed h depth below t code args shared a
enters_typed-alike g h depth below None code args shared a alike = refl
enters_typed-alike g h depth below (Some t) code args shared a alike =
    ap (λ o. cond (nat_lt depth most_frames && nat_le (below + length args + length code.locals) most_values) (finishes t.result o) (trapped StackOverflow shared a))
    (alike (from (record { code = code; depth = depth + 1 }) (below + length args + length code.locals) 0 (record { locals = args ++ map zero_of code.locals; operands = []; shared = shared }) a) (omega arith))

enters-alike : (m : PlainModule) (g h : Job → Outcome) (depth below func : ℕ) (args : List Value) (shared : Shared) (a : Ahead) → Agree (4 * bound a + 2) g h → enters m g depth below func args shared a ≡ enters m h depth below func args shared a
enters-alike m g h depth below func args shared a alike =
    choose (nat_lt func (imported m)) (alike (host depth below (ask func args) shared a) (omega arith)) (enters_typed-alike g h depth below (func_type m func) (code_at m (func - imported m)) args shared a alike)
  where
    choose : (b : Bool) {o p q r : Outcome} → o ≡ p → q ≡ r → cond b o q ≡ cond b p r
    choose true e d = e
    choose false e d = d

follows-alike : (n : ℕ) (g h : Job → Outcome) → ((j : Job) → Within (bound (ahead_of j)) (g j)) → Agree (4 * n) g h → (f : Frame) (below place : ℕ) (mv : Move) → MoveWithin n mv → follows g f below place mv ≡ follows h f below place mv
follows-alike n g h mono alike f below place (goes onward s a) w = alike (from f below onward s a) (omega arith)
follows-alike n g h mono alike f below place (opens false result start onward s a) w =
    let inner : Job = from f (below + length s.operands) start (with_operands s []) a in
    closes-alike (4 * n) g h alike f below result onward s.operands (bound a) (g inner) (mono inner) (omega arith)
    ∙ ap (closes h f below result onward s.operands) (alike inner (omega arith))
follows-alike n g h mono alike f below place (opens true result start onward s a) w =
    alike (turn f below result start onward s.operands (with_operands s []) a) (omega arith)
follows-alike n g h mono alike f below place (calls func args s a) w =
    let inner : Job = enter f.depth (below + length s.operands) func args s.shared a in
    resumes-alike (4 * n) g h alike f below place s (bound a) (g inner) (mono inner) (omega arith)
    ∙ ap (resumes h f below place s) (alike inner (omega arith))
follows-alike n g h mono alike f below place (leaves o) w = refl

step-alike : (m : PlainModule) (g h : Job → Outcome) → ((j : Job) → Within (bound (ahead_of j)) (g j)) → (j : Job) → Agree (enough j) g h → step m g j ≡ step m h j
step-alike m g h mono (from f below place s a) alike =
    follows-alike (bound a) g h mono alike f below (place + 1) _ (below_move m f.code.targets below (place + 1) (slice_get f.code.body place) s a).it
step-alike m g h mono (turn f below result start place outer s a) alike =
    let inner : Job = from f (below + length outer) start s a in
    turns-alike (4 * bound a + 1) g h alike f below result start place outer (bound a) (g inner) (mono inner) (omega arith)
    ∙ ap (turns h f below result start place outer) (alike inner (omega arith))
step-alike m g h mono (enter depth below func args shared a) alike = enters-alike m g h depth below func args shared a alike
step-alike m g h mono (host depth below standing shared a) alike = acts_on-alike g h mono depth below standing shared a.left a.costs a.acts alike

-- ---- more steps change nothing

deep-more : (m : PlainModule) (n : ℕ) (j : Job) → enough j < n → deep m n j ≡ deep m (suc n) j
deep-more m zero j h = absurd (omega arith)
deep-more m (suc n) j h =
    step-alike m (deep m n) (deep m (suc n)) (deep-within m n) j (shorter m n (enough j) (omega arith) (deep-more m n))
  where
    shorter : (m : PlainModule) (n k : ℕ) → k ≤ n → ((j : Job) → enough j < n → deep m n j ≡ deep m (suc n) j) → Agree k (deep m n) (deep m (suc n))
    shorter m n k le more i lt = more i (omega arith)

deep-at : (m : PlainModule) (j : Job) (n k : ℕ) → n ≡ k → deep m n j ≡ deep m k j
deep-at m j n k e = ap (λ i. deep m i j) e

deep-enough : (m : PlainModule) (k : ℕ) (j : Job) → deep m (suc (enough j)) j ≡ deep m (k + suc (enough j)) j
deep-enough m zero j = deep-at m j (suc (enough j)) (0 + suc (enough j)) (omega arith)
deep-enough m (suc k) j =
    deep-enough m k j ∙ deep-more m (k + suc (enough j)) j (omega arith) ∙ deep-at m j (suc (k + suc (enough j))) (suc k + suc (enough j)) (omega arith)

-- a run is made of the runs of its parts
pub run-step : (m : PlainModule) (j : Job) → run m j ≡ step m (run m) j
unfolding run
run-step m j = step-alike m (deep m (enough j)) (λ i. deep m (suc (enough i)) i) (deep-within m (enough j)) j (of_part (enough j))
  where
    of_part : (n : ℕ) → Agree n (deep m n) (λ i. deep m (suc (enough i)) i)
    of_part n i lt =
        sym (deep-enough m (n - suc (enough i)) i ∙ deep-at m i (n - suc (enough i) + suc (enough i)) n (omega arith))

-- ---- the same run, where what lies too deep is out of gas

abbrev pub starved : PlainModule → ℕ → Job → Outcome
starved m zero job = ends (record { standing = out_of_gas; memory = []; globals = []; left = 0 })
starved m (suc n) job = step m (starved m n) job

run-within : (m : PlainModule) (j : Job) → Within (bound (ahead_of j)) (run m j)
unfolding run
run-within m j = deep-within m (suc (enough j)) j

starved-more : (m : PlainModule) (n : ℕ) → Agree n (run m) (starved m n)
starved-more m zero j h = absurd (omega arith)
starved-more m (suc n) j h = run-step m j ∙ step-alike m (run m) (starved m n) (run-within m) j (shorter m n (enough j) (omega arith) (starved-more m n))
  where
    shorter : (m : PlainModule) (n k : ℕ) → k ≤ n → Agree n (run m) (starved m n) → Agree k (run m) (starved m n)
    shorter m n k le more i lt = more i (omega arith)

pub run-starved : (m : PlainModule) (j : Job) → run m j ≡ starved m (suc (enough j)) j
run-starved m j = starved-more m (suc (enough j)) j (omega arith)
