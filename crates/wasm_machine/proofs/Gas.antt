-- With more gas a run comes to the same, unless its gas runs out. Three runs go side by side: one where no acts come later, one
-- where they come, and one where they come and there is more gas.
use Rattle.std.proofs.Common.{◌≡◌, refl, sym, ap, subst, ℕ, zero, suc, ◌+◌, ◌-◌, Bool, true, false, cond, List, [], ◌∷◌, ◌++◌, length, take, drop, reverse, Option, Some, None, Ok, Err, arith, ltb-false, ltb-true}
use Rattle.std.specs.Prelude.{◌≢◌, nat_lt, slice_get}
use Rattle.gas_meter.specs.declared.schedule.Schedule.{Schedule}
use Rattle.linear_memory.specs.Pages.{pages_of, zeros}
use Rattle.wasm_types.specs.declared.value.ValType.{ValType}
use Rattle.wasm_types.specs.declared.value.Value.{Value}
use Rattle.wasm_types.specs.declared.value.Value.TheVariants.{I32, I64}
use Rattle.wasm_types.specs.declared.instr.Instr.{Instr}
use Rattle.wasm_types.specs.declared.instr.Instr.TheVariants.{Op, Index, CallIndirect, BrTable, Mem, Const, Block, Loop, If, Else, End}
use Rattle.wasm_types.specs.Plain.{PlainFuncType, PlainCode, PlainModule}
use Rattle.wasm_machine.specs.declared.kind.PlainKind.{PlainKind}
use Rattle.wasm_machine.specs.declared.kind.PlainKind.TheVariants as plain
use Rattle.wasm_machine.specs.declared.kind.IndexKind.{IndexKind}
use Rattle.wasm_machine.specs.declared.kind.IndexKind.TheVariants as indexed
use Rattle.wasm_machine.specs.declared.frame.Label.{Label}
use Rattle.wasm_machine.specs.declared.frame.Caller.{Caller}
use Rattle.wasm_machine.specs.declared.frame.Caller.TheVariants.{Host, Function}
use Rattle.wasm_machine.specs.declared.frame.Next.{Next}
use Rattle.wasm_machine.specs.declared.frame.Next.TheVariants.{Enter, Give}
use Rattle.wasm_machine.specs.declared.state.State as states
use Rattle.wasm_machine.specs.Acts.{Act, call, go, answer, memory, Standing, Stands, out_of_gas, ask, done, with_more_left, gas_aside}
use Rattle.wasm_machine.specs.Effects.{Shared, State, Effect, given, with_operands, with_memory, push, plain_effect, index_effect, memory_effect}
use Rattle.wasm_machine.specs.Kinds.{plain_kind, index_kind, width}
use Rattle.wasm_machine.specs.Start.{imported, func_type, code_at}
use Rattle.wasm_machine.specs.Exec.{Ahead, Outcome, falls, jumps, returns, gives, ends, stands, Move, goes, opens, calls, leaves, paid, after, grows, jumps_if, jumps_to, jumps_by, opens_else, opens_if, calls_with, calls_typed, calls_cell, calls_indirect, plain_move, index_move, move_paid, move, Frame, Job, from, turn, enter, host, behind, closes, turns, result_of, finishes, goes_on, resumes, enters_typed, enters, hosted, follows, step, enough, run, at_last, going_on, acts_on}
use Rattle.wasm_machine.specs.Rests.{ahead, closed_by, blocks, through, giving, next_at, frame_at}
use Rattle.wasm_machine.proofs.Fuel.{run-step, starved, run-starved}

-- The outcomes of three such runs. A first one that is out of gas says nothing of the others; where it has ended otherwise, later
-- acts may have given both others the same gas.
data Gains (k : ℕ) (later : List Act) : Outcome → Outcome → Outcome → Type 0 where
  falls_more : (s : State) (l : ℕ) (c : Schedule) → Gains k later (falls s (ahead l c [])) (falls s (ahead l c later)) (falls s (ahead (l + k) c later))
  jumps_more : (label : ℕ) (s : State) (l : ℕ) (c : Schedule) → Gains k later (jumps label s (ahead l c [])) (jumps label s (ahead l c later)) (jumps label s (ahead (l + k) c later))
  returns_more : (s : State) (l : ℕ) (c : Schedule) → Gains k later (returns s (ahead l c [])) (returns s (ahead l c later)) (returns s (ahead (l + k) c later))
  gives_more : (v : Option Value) (shared : Shared) (l : ℕ) (c : Schedule) → Gains k later (gives v shared (ahead l c [])) (gives v shared (ahead l c later)) (gives v shared (ahead (l + k) c later))
  ends_more : (r t : Stands) → Gains k later (ends r) (ends t) (ends (with_more_left k t))
  ends_less : (r : Stands) (p q : Outcome) → r.standing ≡ out_of_gas → Gains k later (ends r) p q
  ends_same : (r : Stands) (p : Outcome) → later ≢ [] → Gains k later (ends r) p p

-- three moves
data MoveGains (k : ℕ) (later : List Act) : Move → Move → Move → Type 0 where
  goes_more : (place : ℕ) (s : State) (l : ℕ) (c : Schedule) → MoveGains k later (goes place s (ahead l c [])) (goes place s (ahead l c later)) (goes place s (ahead (l + k) c later))
  opens_more : (loops : Bool) (result : Option ValType) (start place : ℕ) (s : State) (l : ℕ) (c : Schedule) → MoveGains k later (opens loops result start place s (ahead l c [])) (opens loops result start place s (ahead l c later)) (opens loops result start place s (ahead (l + k) c later))
  calls_more : (func : ℕ) (args : List Value) (s : State) (l : ℕ) (c : Schedule) → MoveGains k later (calls func args s (ahead l c [])) (calls func args s (ahead l c later)) (calls func args s (ahead (l + k) c later))
  leaves_more : (o p q : Outcome) → Gains k later o p q → MoveGains k later (leaves o) (leaves p) (leaves q)
  leaves_less : (r : Stands) (y z : Move) → r.standing ≡ out_of_gas → MoveGains k later (leaves (ends r)) y z

-- what comes of three runs that have so much gas, or more, from here on
abbrev Richer : ℕ → List Act → (Ahead → Outcome) → (Ahead → Outcome) → Type 0
Richer k later x y = (l : ℕ) (c : Schedule) → Gains k later (x (ahead l c [])) (y (ahead l c later)) (y (ahead (l + k) c later))

abbrev MoveRicher : ℕ → List Act → (Ahead → Move) → Type 0
MoveRicher k later x = (l : ℕ) (c : Schedule) → MoveGains k later (x (ahead l c [])) (x (ahead l c later)) (x (ahead (l + k) c later))

-- ---- single instructions

at_choice : {k : ℕ} {later : List Act} (b : Bool) {x y z u v w : Move} → MoveGains k later x y z → MoveGains k later u v w → MoveGains k later (cond b x u) (cond b y v) (cond b z w)
at_choice true p q = p
at_choice false p q = q

at_leaves : {k : ℕ} {later : List Act} {o p q : Outcome} → Gains k later o p q → MoveGains k later (leaves o) (leaves p) (leaves q)
at_leaves more = leaves_more _ _ _ more

at_jumps : {k : ℕ} {later : List Act} {label : ℕ} {s : State} {l : ℕ} {c : Schedule} → MoveGains k later (leaves (jumps label s (ahead l c []))) (leaves (jumps label s (ahead l c later))) (leaves (jumps label s (ahead (l + k) c later)))
at_jumps {label = label} {s = s} {l = l} {c = c} = at_leaves (jumps_more label s l c)

at_ends : {k : ℕ} {later : List Act} {r : Stands} → MoveGains k later (leaves (ends r)) (leaves (ends r)) (leaves (ends (with_more_left k r)))
at_ends {r = r} = at_leaves (ends_more r r)

-- what can be paid can be paid with more gas
paid_more : (k n : ℕ) (shared : Shared) (l : ℕ) (c : Schedule) (acts : List Act) (x : Ahead → Move) → nat_lt l n ≡ false → paid n shared (ahead (l + k) c acts) x ≡ x (ahead (l - n + k) c acts)
paid_more k n shared l c acts x e = enough_gas (nat_lt (l + k) n) refl
  where
    enough_gas : (b : Bool) → nat_lt (l + k) n ≡ b → cond b (leaves (stands out_of_gas shared 0)) (x (ahead (l + k - n) c acts)) ≡ x (ahead (l - n + k) c acts)
    enough_gas true d = absurd (omega (arith, ltb-false l n e, ltb-true (l + k) n d))
    enough_gas false d = ap (λ i. x (ahead i c acts)) (omega (arith, ltb-false l n e))

at_paid : (k : ℕ) (later : List Act) (n : ℕ) (shared : Shared) (x : Ahead → Move) → MoveRicher k later x → MoveRicher k later (λ a. paid n shared a x)
at_paid k later n shared x h l c = either (nat_lt l n) refl
  where
    either : (b : Bool) → nat_lt l n ≡ b → MoveGains k later (cond b (leaves (stands out_of_gas shared 0)) (x (ahead (l - n) c []))) (cond b (leaves (stands out_of_gas shared 0)) (x (ahead (l - n) c later))) (paid n shared (ahead (l + k) c later) x)
    either true e = leaves_less _ _ _ refl
    either false e = subst (MoveGains k later (x (ahead (l - n) c [])) (x (ahead (l - n) c later))) (sym (paid_more k n shared l c later x e)) (h (l - n) c)

at_after : (k : ℕ) (later : List Act) (place : ℕ) (s : State) (e : Effect) → MoveRicher k later (λ a. after place s a e)
at_after k later place s (Ok new) l c = goes_more place new l c
at_after k later place s (Err kind) l c = at_ends

at_grows : (k : ℕ) (later : List Act) (place : ℕ) (values : List Value) (s : State) → MoveRicher k later (grows place values s)
at_grows k later place [] s l c = at_ends
at_grows k later place (I64 n ∷ rest) s l c = at_ends
at_grows k later place (I32 pages ∷ rest) s l c =
    at_choice _ (goes_more _ _ l c) (at_paid k later _ _ (λ b. goes place (with_memory (with_operands s (I32 (pages_of s.shared.memory) ∷ rest)) (s.shared.memory ++ zeros pages)) b) (λ l d. goes_more _ _ l d) l c)

at_jumps_if : (k : ℕ) (later : List Act) (place label : ℕ) (values : List Value) (s : State) → MoveRicher k later (jumps_if place label values s)
at_jumps_if k later place label [] s l c = at_ends
at_jumps_if k later place label (I64 n ∷ rest) s l c = at_ends
at_jumps_if k later place label (I32 n ∷ rest) s l c = at_choice _ (goes_more _ _ l c) at_jumps

at_jumps_to : (k : ℕ) (later : List Act) (label : Option ℕ) (s : State) → MoveRicher k later (jumps_to label s)
at_jumps_to k later None s l c = at_ends
at_jumps_to k later (Some label) s l c = at_jumps

at_jumps_by : (k : ℕ) (later : List Act) (targets : List ℕ) (first count default : ℕ) (values : List Value) (s : State) → MoveRicher k later (jumps_by targets first count default values s)
at_jumps_by k later targets first count default [] s l c = at_ends
at_jumps_by k later targets first count default (I64 n ∷ rest) s l c = at_ends
at_jumps_by k later targets first count default (I32 n ∷ rest) s l c = at_jumps_to k later _ _ l c

at_opens_else : (k : ℕ) (later : List Act) (result : Option ValType) (els : Option ℕ) (end : ℕ) (s : State) → MoveRicher k later (opens_else result els end s)
at_opens_else k later result (Some els) end s l c = opens_more _ _ _ _ _ l c
at_opens_else k later None None end s l c = goes_more _ _ l c
at_opens_else k later (Some t) None end s l c = at_ends

at_opens_if : (k : ℕ) (later : List Act) (place : ℕ) (result : Option ValType) (els : Option ℕ) (end : ℕ) (values : List Value) (s : State) → MoveRicher k later (opens_if place result els end values s)
at_opens_if k later place result els end [] s l c = at_ends
at_opens_if k later place result els end (I64 n ∷ rest) s l c = at_ends
at_opens_if k later place result els end (I32 n ∷ rest) s l c = at_choice _ (at_opens_else k later result els end _ l c) (opens_more _ _ _ _ _ l c)

at_calls_typed : (k : ℕ) (later : List Act) (m : PlainModule) (func : ℕ) (t : Option PlainFuncType) (s : State) → MoveRicher k later (calls_typed m func t s)
at_calls_typed k later m func None s l c = at_ends
at_calls_typed k later m func (Some t) s l c = at_paid k later _ _ (λ b. calls_with func (length t.params) s b) (λ l d. at_choice _ at_ends (calls_more _ _ _ l d)) l c

at_calls_cell : (k : ℕ) (later : List Act) (m : PlainModule) (ty : ℕ) (cell : Option (Option ℕ)) (s : State) → MoveRicher k later (calls_cell m ty cell s)
at_calls_cell k later m ty None s l c = at_ends
at_calls_cell k later m ty (Some None) s l c = at_ends
at_calls_cell k later m ty (Some (Some func)) s l c = at_choice _ (at_calls_typed k later m func (func_type m func) s l c) at_ends

at_calls_indirect : (k : ℕ) (later : List Act) (m : PlainModule) (ty : ℕ) (values : List Value) (s : State) → MoveRicher k later (calls_indirect m ty values s)
at_calls_indirect k later m ty [] s l c = at_ends
at_calls_indirect k later m ty (I64 n ∷ rest) s l c = at_ends
at_calls_indirect k later m ty (I32 i ∷ rest) s l c = at_calls_cell k later m ty _ _ l c

at_plain : (k : ℕ) (later : List Act) (kind : PlainKind) (op below place : ℕ) (s : State) → MoveRicher k later (plain_move kind op below place s)
at_plain k later plain.Return op below place s l c = at_leaves (returns_more s l c)
at_plain k later plain.MemoryGrow op below place s l c = at_grows k later place s.operands s l c
at_plain k later plain.Nop op below place s l c = at_after k later place s (plain_effect plain.Nop op below s) l c
at_plain k later plain.Drop op below place s l c = at_after k later place s (plain_effect plain.Drop op below s) l c
at_plain k later plain.Select op below place s l c = at_after k later place s (plain_effect plain.Select op below s) l c
at_plain k later plain.MemorySize op below place s l c = at_after k later place s (plain_effect plain.MemorySize op below s) l c
at_plain k later plain.OnOne op below place s l c = at_after k later place s (plain_effect plain.OnOne op below s) l c
at_plain k later plain.OnTwo op below place s l c = at_after k later place s (plain_effect plain.OnTwo op below s) l c
at_plain k later plain.Unreachable op below place s l c = at_after k later place s (plain_effect plain.Unreachable op below s) l c

at_index : (k : ℕ) (later : List Act) (m : PlainModule) (kind : IndexKind) (i below place : ℕ) (s : State) → MoveRicher k later (index_move m kind i below place s)
at_index k later m indexed.Branch i below place s l c = at_jumps
at_index k later m indexed.BranchIf i below place s l c = at_jumps_if k later place i s.operands s l c
at_index k later m indexed.Call i below place s l c = at_calls_typed k later m i (func_type m i) s l c
at_index k later m indexed.LocalGet i below place s l c = at_after k later place s (index_effect indexed.LocalGet i below s) l c
at_index k later m indexed.LocalSet i below place s l c = at_after k later place s (index_effect indexed.LocalSet i below s) l c
at_index k later m indexed.LocalTee i below place s l c = at_after k later place s (index_effect indexed.LocalTee i below s) l c
at_index k later m indexed.GlobalGet i below place s l c = at_after k later place s (index_effect indexed.GlobalGet i below s) l c
at_index k later m indexed.GlobalSet i below place s l c = at_after k later place s (index_effect indexed.GlobalSet i below s) l c
at_index k later m indexed.Unreachable i below place s l c = at_after k later place s (index_effect indexed.Unreachable i below s) l c

at_paid_for : (k : ℕ) (later : List Act) (m : PlainModule) (targets : List ℕ) (below place : ℕ) (i : Instr) (s : State) → MoveRicher k later (move_paid m targets below place i s)
at_paid_for k later m targets below place (Op op) s l c = at_plain k later (plain_kind op) op below place s l c
at_paid_for k later m targets below place (Index op i) s l c = at_index k later m (index_kind op) i below place s l c
at_paid_for k later m targets below place (CallIndirect ty) s l c = at_calls_indirect k later m ty s.operands s l c
at_paid_for k later m targets below place (BrTable first count default) s l c = at_jumps_by k later targets first count default s.operands s l c
at_paid_for k later m targets below place (Mem op align offset) s l c = at_after k later place s (memory_effect (width op) op offset s) l c
at_paid_for k later m targets below place (Const v) s l c = at_after k later place s (push below v s) l c
at_paid_for k later m targets below place (Block result end) s l c = opens_more _ _ _ _ _ l c
at_paid_for k later m targets below place (Loop result end) s l c = opens_more _ _ _ _ _ l c
at_paid_for k later m targets below place (If result els end) s l c = at_opens_if k later place result els end s.operands s l c
at_paid_for k later m targets below place (Else end) s l c = at_leaves (falls_more s l c)
at_paid_for k later m targets below place End s l c = at_leaves (falls_more s l c)

at_move : (k : ℕ) (later : List Act) (m : PlainModule) (targets : List ℕ) (below place : ℕ) (i : Option Instr) (s : State) → MoveRicher k later (move m targets below place i s)
at_move k later m targets below place None s l c = at_leaves (falls_more s l c)
at_move k later m targets below place (Some i) s l c =
    at_choice _ (at_leaves (falls_more s l c)) (at_paid k later _ _ (λ b. move_paid m targets below place i s b) (at_paid_for k later m targets below place i s) l c)

-- ---- the parts of a run

-- three parts of runs
data JobGains (k : ℕ) (later : List Act) : Job → Job → Job → Type 0 where
  from_more : (f : Frame) (below place : ℕ) (s : State) (l : ℕ) (c : Schedule) → JobGains k later (from f below place s (ahead l c [])) (from f below place s (ahead l c later)) (from f below place s (ahead (l + k) c later))
  turn_more : (f : Frame) (below : ℕ) (result : Option ValType) (start place : ℕ) (outer : List Value) (s : State) (l : ℕ) (c : Schedule) → JobGains k later (turn f below result start place outer s (ahead l c [])) (turn f below result start place outer s (ahead l c later)) (turn f below result start place outer s (ahead (l + k) c later))
  enter_more : (depth below func : ℕ) (args : List Value) (shared : Shared) (l : ℕ) (c : Schedule) → JobGains k later (enter depth below func args shared (ahead l c [])) (enter depth below func args shared (ahead l c later)) (enter depth below func args shared (ahead (l + k) c later))
  host_more : (depth below : ℕ) (standing : Standing) (shared : Shared) (l : ℕ) (c : Schedule) → JobGains k later (host depth below standing shared (ahead l c [])) (host depth below standing shared (ahead l c later)) (host depth below standing shared (ahead (l + k) c later))

-- what comes of the parts in a part
abbrev Gaining : ℕ → List Act → (Job → Outcome) → (Job → Outcome) → Type 0
Gaining k later g h = (i j n : Job) → JobGains k later i j n → Gains k later (g i) (h j) (h n)

behind-gains : (k : ℕ) (later : List Act) (g h : Job → Outcome) → Gaining k later g h → (f : Frame) (below place : ℕ) (values : Option (List Value)) (s : State) → Richer k later (behind g f below place values s) (behind h f below place values s)
behind-gains k later g h gaining f below place None s l c = ends_more _ _
behind-gains k later g h gaining f below place (Some values) s l c = gaining _ _ _ (from_more f below place _ l c)

closes-gains : (k : ℕ) (later : List Act) (g h : Job → Outcome) → Gaining k later g h → (f : Frame) (below : ℕ) (result : Option ValType) (place : ℕ) (outer : List Value) (o p q : Outcome) → Gains k later o p q → Gains k later (closes g f below result place outer o) (closes h f below result place outer p) (closes h f below result place outer q)
closes-gains k later g h gaining f below result place outer o p q (falls_more s l c) = behind-gains k later g h gaining f below place _ s l c
closes-gains k later g h gaining f below result place outer o p q (jumps_more zero s l c) = behind-gains k later g h gaining f below place _ s l c
closes-gains k later g h gaining f below result place outer o p q (jumps_more (suc label) s l c) = jumps_more label s l c
closes-gains k later g h gaining f below result place outer o p q (ends_less r _ _ out) = ends_less r _ _ out
closes-gains k later g h gaining f below result place outer o p q (ends_same r _ some) = ends_same r _ some
closes-gains k later g h gaining f below result place outer o p q more = more

turns-gains : (k : ℕ) (later : List Act) (g h : Job → Outcome) → Gaining k later g h → (f : Frame) (below : ℕ) (result : Option ValType) (start place : ℕ) (outer : List Value) (o p q : Outcome) → Gains k later o p q → Gains k later (turns g f below result start place outer o) (turns h f below result start place outer p) (turns h f below result start place outer q)
turns-gains k later g h gaining f below result start place outer o p q (falls_more s l c) = behind-gains k later g h gaining f below place _ s l c
turns-gains k later g h gaining f below result start place outer o p q (jumps_more zero s l c) = gaining _ _ _ (turn_more f below result start place outer _ l c)
turns-gains k later g h gaining f below result start place outer o p q (jumps_more (suc label) s l c) = jumps_more label s l c
turns-gains k later g h gaining f below result start place outer o p q (ends_less r _ _ out) = ends_less r _ _ out
turns-gains k later g h gaining f below result start place outer o p q (ends_same r _ some) = ends_same r _ some
turns-gains k later g h gaining f below result start place outer o p q more = more

result_of-gains : (k : ℕ) (later : List Act) (result : Option ValType) (values : List Value) (s : State) → Richer k later (result_of result values s) (result_of result values s)
result_of-gains k later None values s l c = gives_more _ _ l c
result_of-gains k later (Some t) [] s l c = ends_more _ _
result_of-gains k later (Some t) (v ∷ values) s l c = gives_more _ _ l c

finishes-gains : (k : ℕ) (later : List Act) (result : Option ValType) (o p q : Outcome) → Gains k later o p q → Gains k later (finishes result o) (finishes result p) (finishes result q)
finishes-gains k later result o p q (falls_more s l c) = result_of-gains k later result s.operands s l c
finishes-gains k later result o p q (jumps_more zero s l c) = result_of-gains k later result s.operands s l c
finishes-gains k later result o p q (jumps_more (suc label) s l c) = ends_more _ _
finishes-gains k later result o p q (returns_more s l c) = result_of-gains k later result s.operands s l c
finishes-gains k later result o p q (ends_less r _ _ out) = ends_less r _ _ out
finishes-gains k later result o p q (ends_same r _ some) = ends_same r _ some
finishes-gains k later result o p q more = more

goes_on-gains : (k : ℕ) (later : List Act) (g h : Job → Outcome) → Gaining k later g h → (f : Frame) (below place : ℕ) (s : State) (e : Effect) → Richer k later (λ a. goes_on g f below place s a e) (λ a. goes_on h f below place s a e)
goes_on-gains k later g h gaining f below place s (Ok new) l c = gaining _ _ _ (from_more f below place new l c)
goes_on-gains k later g h gaining f below place s (Err kind) l c = ends_more _ _

resumes-gains : (k : ℕ) (later : List Act) (g h : Job → Outcome) → Gaining k later g h → (f : Frame) (below place : ℕ) (s : State) (o p q : Outcome) → Gains k later o p q → Gains k later (resumes g f below place s o) (resumes h f below place s p) (resumes h f below place s q)
resumes-gains k later g h gaining f below place s o p q (gives_more v shared l c) =
    let new : State = record s { shared = shared } in goes_on-gains k later g h gaining f below place new (given below v new) l c
resumes-gains k later g h gaining f below place s o p q (ends_less r _ _ out) = ends_less r _ _ out
resumes-gains k later g h gaining f below place s o p q (ends_same r _ some) = ends_same r _ some
resumes-gains k later g h gaining f below place s o p q more = more

hosted-gains : (k : ℕ) (later : List Act) (g h : Job → Outcome) → Gaining k later g h → (depth below : ℕ) (o p q : Outcome) → Gains k later o p q → Gains k later (hosted g depth below o) (hosted h depth below p) (hosted h depth below q)
hosted-gains k later g h gaining depth below o p q (gives_more v shared l c) = gaining _ _ _ (host_more depth below (done v) shared l c)
hosted-gains k later g h gaining depth below o p q (ends_less r _ _ out) = ends_less r _ _ out
hosted-gains k later g h gaining depth below o p q (ends_same r _ some) = ends_same r _ some
hosted-gains k later g h gaining depth below o p q more = more

choice-gains : {k : ℕ} {later : List Act} (b : Bool) {o p q u v w : Outcome} → Gains k later o p q → Gains k later u v w → Gains k later (cond b o u) (cond b p v) (cond b q w)
choice-gains true x y = x
choice-gains false x y = y

enters_typed-gains : (k : ℕ) (later : List Act) (g h : Job → Outcome) → Gaining k later g h → (depth below : ℕ) (t : Option PlainFuncType) (code : PlainCode) (args : List Value) (shared : Shared) → Richer k later (enters_typed g depth below t code args shared) (enters_typed h depth below t code args shared)
enters_typed-gains k later g h gaining depth below None code args shared l c = ends_more _ _
enters_typed-gains k later g h gaining depth below (Some t) code args shared l c =
    choice-gains _ (finishes-gains k later t.result _ _ _ (gaining _ _ _ (from_more _ _ 0 _ l c))) (ends_more _ _)

enters-gains : (k : ℕ) (later : List Act) (m : PlainModule) (g h : Job → Outcome) → Gaining k later g h → (depth below func : ℕ) (args : List Value) (shared : Shared) → Richer k later (enters m g depth below func args shared) (enters m h depth below func args shared)
enters-gains k later m g h gaining depth below func args shared l c =
    choice-gains _ (gaining _ _ _ (host_more depth below (ask func args) shared l c)) (enters_typed-gains k later g h gaining depth below (func_type m func) (code_at m (func - imported m)) args shared l c)

follows-gains : (k : ℕ) (later : List Act) (g h : Job → Outcome) → Gaining k later g h → (f : Frame) (below place : ℕ) (x y z : Move) → MoveGains k later x y z → Gains k later (follows g f below place x) (follows h f below place y) (follows h f below place z)
follows-gains k later g h gaining f below place x y z (goes_more onward s l c) = gaining _ _ _ (from_more f below onward s l c)
follows-gains k later g h gaining f below place x y z (opens_more false result start onward s l c) =
    closes-gains k later g h gaining f below result onward s.operands _ _ _ (gaining _ _ _ (from_more f _ start _ l c))
follows-gains k later g h gaining f below place x y z (opens_more true result start onward s l c) =
    gaining _ _ _ (turn_more f below result start onward _ _ l c)
follows-gains k later g h gaining f below place x y z (calls_more func args s l c) =
    resumes-gains k later g h gaining f below place s _ _ _ (gaining _ _ _ (enter_more f.depth _ func args _ l c))
follows-gains k later g h gaining f below place x y z (leaves_more _ _ _ more) = more
follows-gains k later g h gaining f below place x y z (leaves_less r _ _ out) = ends_less r _ _ out

-- ---- later acts

no_act : {act : Act} {acts : List Act} → act ∷ acts ≡ [] → ⊥
no_act e = cc

-- a call that is to go on gets as much gas as the next act says
going_on-gains : (k : ℕ) (later : List Act) (r : Stands) (shared : Shared) (l : ℕ) (acts : List Act) (x : Ahead → Outcome) → later ≢ [] → Gains k later (ends r) (going_on shared l acts x) (going_on shared (l + k) acts x)
going_on-gains k later r shared l [] x some = ends_more r _
going_on-gains k later r shared l (go more costs ∷ acts) x some = ends_same r _ some
going_on-gains k later r shared l (call func args ∷ acts) x some = ends_more r _
going_on-gains k later r shared l (answer v ∷ acts) x some = ends_more r _
going_on-gains k later r shared l (memory bytes ∷ acts) x some = ends_more r _

-- the host acts on, where these acts are an end of all that come later
host-gains : (k : ℕ) (later : List Act) (m : PlainModule) (r : Stands) (depth below : ℕ) (standing : Standing) (shared : Shared) (l : ℕ) (c : Schedule) (acts : List Act) → (later ≡ [] → acts ≡ []) → Gains k later (ends r) (acts_on (run m) depth below standing shared l c acts) (acts_on (run m) depth below standing shared (l + k) c acts)
host-gains k later m r depth below standing shared l c [] of_later = ends_more r _
host-gains k later m r depth below standing shared l c (memory bytes ∷ acts) of_later =
    let new : Shared = record { memory = bytes; globals = shared.globals } in
    rw (run-step m (host depth below standing new (ahead l c acts)), run-step m (host depth below standing new (ahead (l + k) c acts)))
    (host-gains k later m r depth below standing new l c acts (λ e. absurd (no_act (of_later e))))
host-gains k later m r depth below standing shared l c (call func args ∷ acts) of_later = going_on-gains k later r shared l acts _ (λ e. no_act (of_later e))
host-gains k later m r depth below standing shared l c (answer v ∷ acts) of_later = going_on-gains k later r shared l acts _ (λ e. no_act (of_later e))
host-gains k later m r depth below standing shared l c (go more costs ∷ acts) of_later = ends_more r _

-- ---- a run

step-gains : (k : ℕ) (later : List Act) (m : PlainModule) (g : Job → Outcome) → Gaining k later g (run m) → Gaining k later (step m g) (step m (run m))
step-gains k later m g gaining i j n (from_more f below place s l c) =
    follows-gains k later g (run m) gaining f below (place + 1) _ _ _ (at_move k later m f.code.targets below (place + 1) (slice_get f.code.body place) s l c)
step-gains k later m g gaining i j n (turn_more f below result start place outer s l c) =
    turns-gains k later g (run m) gaining f below result start place outer _ _ _ (gaining _ _ _ (from_more f _ start s l c))
step-gains k later m g gaining i j n (enter_more depth below func args shared l c) =
    enters-gains k later m g (run m) gaining depth below func args shared l c
step-gains k later m g gaining i j n (host_more depth below standing shared l c) = host-gains k later m _ depth below standing shared l c later (λ e. e)

starved-gains : (k : ℕ) (later : List Act) (m : PlainModule) (deep : ℕ) → Gaining k later (starved m deep) (run m)
starved-gains k later m zero i j n more = ends_less _ _ _ refl
starved-gains k later m (suc deep) i j n more =
    rw (run-step m j, run-step m n) (step-gains k later m (starved m deep) (starved-gains k later m deep) i j n more)

run-gains : (k : ℕ) (later : List Act) (m : PlainModule) → Gaining k later (run m) (run m)
run-gains k later m i j n more =
    subst (λ o. Gains k later o (run m j) (run m n)) (sym (run-starved m i)) (starved-gains k later m (suc (enough i)) i j n more)

-- ---- what waits

closed_by-gains : (k : ℕ) (later : List Act) (m : PlainModule) (f : Frame) (below : ℕ) (start : Option ℕ) (label : Label) (outer : List Value) (o p q : Outcome) → Gains k later o p q → Gains k later (closed_by m f below start label outer o) (closed_by m f below start label outer p) (closed_by m f below start label outer q)
closed_by-gains k later m f below None label outer o p q more =
    closes-gains k later (run m) (run m) (run-gains k later m) f below label.result label.after outer o p q more
closed_by-gains k later m f below (Some start) label outer o p q more =
    turns-gains k later (run m) (run m) (run-gains k later m) f below label.result start label.after outer o p q more

blocks-gains : (k : ℕ) (later : List Act) (m : PlainModule) (f : Frame) (n : ℕ) (rest : List Value → Outcome → Outcome) → ((ops : List Value) (o p q : Outcome) → Gains k later o p q → Gains k later (rest ops o) (rest ops p) (rest ops q)) → (ls : List Label) (ops : List Value) (o p q : Outcome) → Gains k later o p q → Gains k later (blocks m f n rest ls ops o) (blocks m f n rest ls ops p) (blocks m f n rest ls ops q)
unfolding blocks
blocks-gains k later m f n rest h [] ops o p q more = h ops o p q more
blocks-gains k later m f n rest h (label ∷ ls) ops o p q more =
    blocks-gains k later m f n rest h ls (take label.floor ops) _ _ _ (closed_by-gains k later m f (n + length (take label.floor ops)) label.start label (reverse (drop label.floor ops)) o p q more)

through-gains : (k : ℕ) (later : List Act) (m : PlainModule) (cs : List Caller) (ops locals : List Value) (labels : List Label) (depth : ℕ) (o p q : Outcome) → Gains k later o p q → Gains k later (through m cs ops locals labels depth o) (through m cs ops locals labels depth p) (through m cs ops locals labels depth q)
unfolding through
through-gains k later m [] ops locals labels depth o p q more = more
through-gains k later m (Host ∷ cs) ops locals labels depth o p q more =
    through-gains k later m cs ops locals labels depth _ _ _ (hosted-gains k later (run m) (run m) (run-gains k later m) depth (length locals + length ops) o p q more)
through-gains k later m (Function frame fo fl fb ∷ cs) ops locals labels depth o p q more =
    blocks-gains k later m (frame_at m depth frame) (length locals) _
    (λ under u v w h. through-gains k later m cs under (take fl locals) (take fb labels) (depth - 1) _ _ _ (finishes-gains k later frame.result u v w h))
    (reverse (drop fb labels)) (take fo ops) _ _ _
    (resumes-gains k later (run m) (run m) (run-gains k later m) (frame_at m depth frame) (length locals + length (take fo ops)) frame.place
    (record { locals = drop fl locals; operands = reverse (drop fo ops); shared = record { memory = []; globals = [] } }) o p q more)

next-gains : (k : ℕ) (later : List Act) (m : PlainModule) (s : states.State) (next : Next) → Richer k later (next_at m s next) (next_at m s next)
unfolding giving
next-gains k later m s (Enter func) l c = through-gains k later m _ _ _ _ s.depth _ _ _ (run-gains k later m _ _ _ (enter_more s.depth _ func _ _ l c))
next-gains k later m s (Give v) l c = through-gains k later m _ _ _ _ s.depth _ _ _ (gives_more v _ l c)

-- ---- what stands

last-gains : (k : ℕ) (o p q : Outcome) → Gains k [] o p q → (at_last o).standing ≢ out_of_gas → at_last q ≡ with_more_left k (at_last p)
last-gains k o p q (falls_more s l c) some = refl
last-gains k o p q (jumps_more label s l c) some = refl
last-gains k o p q (returns_more s l c) some = refl
last-gains k o p q (gives_more v shared l c) some = refl
last-gains k o p q (ends_more r t) some = refl
last-gains k o p q (ends_less r _ _ out) some = absurd (some out)
last-gains k o p q (ends_same r _ later) some = absurd (later refl)

later-gains : (k : ℕ) (later : List Act) (o p q : Outcome) → Gains k later o p q → (at_last o).standing ≢ out_of_gas → gas_aside (at_last q) ≡ gas_aside (at_last p)
later-gains k later o p q (falls_more s l c) some = refl
later-gains k later o p q (jumps_more label s l c) some = refl
later-gains k later o p q (returns_more s l c) some = refl
later-gains k later o p q (gives_more v shared l c) some = refl
later-gains k later o p q (ends_more r t) some = refl
later-gains k later o p q (ends_less r _ _ out) some = absurd (some out)
later-gains k later o p q (ends_same r _ more) some = refl

pub more_left : (k : ℕ) (m : PlainModule) (s : states.State) (next : Next) (l : ℕ) (c : Schedule) → (at_last (next_at m s next (ahead l c []))).standing ≢ out_of_gas → at_last (next_at m s next (ahead (l + k) c [])) ≡ with_more_left k (at_last (next_at m s next (ahead l c [])))
more_left k m s next l c some = last-gains k _ _ _ (next-gains k [] m s next l c) some

pub same_later : (k : ℕ) (m : PlainModule) (s : states.State) (next : Next) (l : ℕ) (c : Schedule) (later : List Act) → (at_last (next_at m s next (ahead l c []))).standing ≢ out_of_gas → gas_aside (at_last (next_at m s next (ahead (l + k) c later))) ≡ gas_aside (at_last (next_at m s next (ahead l c later)))
same_later k m s next l c later some = later-gains k later _ _ _ (next-gains k later m s next l c) some
