-- Calls, and those who wait for them.
use Rattle.std.proofs.Common.{◌≡◌, refl, sym, ◌∙◌, ap, ℕ, suc, ◌+◌, ◌-◌, ◌≤◌, ◌<◌, Bool, true, false, List, [], ◌∷◌, ◌++◌, take, drop, length, reverse, Option, Some, None, Ok, Err, cond, arith, length-append, lt-ltb, le-ltb}
use Rattle.std.proofs.lemmas.List.{reverse-append, length-reverse, length-map}
use Rattle.std.specs.Prelude.{map, nat_lt, nat_le, ◌&&◌}
use Rattle.wasm_types.specs.declared.value.ValType.{ValType}
use Rattle.wasm_types.specs.declared.value.Value.{Value}
use Rattle.wasm_types.specs.Plain.{PlainModule, PlainCode, PlainFuncType}
use Rattle.wasm_machine.specs.declared.turn.TrapKind.{TrapKind}
use Rattle.wasm_machine.specs.declared.turn.TrapKind.TheVariants.{Unreachable, StackOverflow}
use Rattle.wasm_machine.specs.declared.frame.Label.{Label}
use Rattle.wasm_machine.specs.declared.frame.Frame as frames
use Rattle.wasm_machine.specs.declared.frame.Caller.{Caller}
use Rattle.wasm_machine.specs.declared.frame.Caller.TheVariants.{Host, Function}
use Rattle.wasm_machine.specs.Acts.{ask}
use Rattle.wasm_machine.specs.Effects.{Shared, State, given, most_values}
use Rattle.wasm_machine.specs.Start.{zero_of, imported, func_type, code_at}
use Rattle.wasm_machine.specs.Exec.{Ahead, Outcome, falls, jumps, returns, gives, ends, Frame, Job, from, enter, trapped, resumes, goes_on, finishes, most_frames, enters_code, enters_typed, host, run}
use Rattle.wasm_machine.specs.Rests.{frame_at, blocks, through, ending, hosts}
use Rattle.wasm_machine.proofs.Fuel.{run-step}
use Rattle.wasm_machine.proofs.Blocks.{two_parts, places, blocks-ends, ending-ends, through-ends, no_blocks}

pub reverse_snoc : {T : Type 0} (xs : List T) (x : T) → reverse (xs ++ x ∷ []) ≡ x ∷ reverse xs
reverse_snoc xs x = reverse-append xs (x ∷ [])

pub hosts_function : (cs : List Caller) (frame : frames.Frame) (fo fl fb : ℕ) → hosts (cs ++ Function frame fo fl fb ∷ []) ≡ hosts cs
hosts_function [] frame fo fl fb = refl
hosts_function (Host ∷ cs) frame fo fl fb = ap suc (hosts_function cs frame fo fl fb)
hosts_function (Function g go gl gb ∷ cs) frame fo fl fb = hosts_function cs frame fo fl fb

pub hosts_host : (cs : List Caller) → hosts (cs ++ Host ∷ []) ≡ suc (hosts cs)
hosts_host [] = refl
hosts_host (Host ∷ cs) = ap suc (hosts_host cs)
hosts_host (Function g go gl gb ∷ cs) = hosts_host cs

-- what all share comes from the call
resumes_shared : (next : Job → Outcome) (f : Frame) (below place : ℕ) (locals operands : List Value) (one other : Shared) (o : Outcome) → resumes next f below place (record { locals = locals; operands = operands; shared = one }) o ≡ resumes next f below place (record { locals = locals; operands = operands; shared = other }) o
resumes_shared next f below place locals operands one other (falls s a) = refl
resumes_shared next f below place locals operands one other (jumps label s a) = refl
resumes_shared next f below place locals operands one other (returns s a) = refl
resumes_shared next f below place locals operands one other (gives v shared a) = refl
resumes_shared next f below place locals operands one other (ends r) = refl

abbrev no_shared : Shared
no_shared = record { memory = []; globals = [] }

-- a function waits for a call
pub suspended : (m : PlainModule) (cs : List Caller) (frame : frames.Frame) (depth fo fl fb : ℕ) (ops locals : List Value) (labels : List Label) (shared : Shared) (func : ℕ) (args : List Value) (a : Ahead) → blocks m (frame_at m depth frame) (length locals) (ending m cs (take fl locals) (take fb labels) depth frame.result) (reverse (drop fb labels)) (take fo ops) (resumes (run m) (frame_at m depth frame) (length locals + length (take fo ops)) frame.place (record { locals = drop fl locals; operands = reverse (drop fo ops); shared = shared }) (run m (enter depth (length locals + length (take fo ops) + length (reverse (drop fo ops))) func args shared a))) ≡ through m (Function frame fo fl fb ∷ cs) ops locals labels depth (run m (enter depth (length locals + length ops) func args shared a))
unfolding through ending
suspended m cs frame depth fo fl fb ops locals labels shared func args a =
    let f = frame_at m depth frame in
    let at : length locals + length (take fo ops) + length (reverse (drop fo ops)) ≡ length locals + length ops = places (length locals) 0 (take fo ops) (reverse (drop fo ops)) ops (two_parts ops fo) in
    ap (λ k. blocks m f (length locals) (ending m cs (take fl locals) (take fb labels) depth frame.result) (reverse (drop fb labels)) (take fo ops) (resumes (run m) f (length locals + length (take fo ops)) frame.place (record { locals = drop fl locals; operands = reverse (drop fo ops); shared = shared }) (run m (enter depth k func args shared a)))) at
    ∙ ap (λ o. blocks m f (length locals) (ending m cs (take fl locals) (take fb labels) depth frame.result) (reverse (drop fb labels)) (take fo ops) o) (resumes_shared (run m) f (length locals + length (take fo ops)) frame.place (drop fl locals) (reverse (drop fo ops)) shared no_shared (run m (enter depth (length locals + length ops) func args shared a)))

pub hosts_snoc : (cs : List Caller) (c : Caller) → hosts (cs ++ c ∷ []) ≡ hosts (c ∷ []) + hosts cs
hosts_snoc cs Host = hosts_host cs ∙ add-one_left (hosts cs)
  where
    add-one_left : (n : ℕ) → suc n ≡ 1 + n
    add-one_left n = omega arith
hosts_snoc cs (Function frame fo fl fb) = hosts_function cs frame fo fl fb ∙ zero_left (hosts cs)
  where
    zero_left : (n : ℕ) → n ≡ 0 + n
    zero_left n = omega arith

-- a function gets the value that it waits for
abbrev pub waiting_state : ℕ → ℕ → List Value → List Value → Shared → State
waiting_state fo fl ops locals shared = record { locals = drop fl locals; operands = reverse (drop fo ops); shared = shared }

pub given_value : (m : PlainModule) (cs : List Caller) (frame : frames.Frame) (depth fo fl fb : ℕ) (ops locals : List Value) (labels : List Label) (shared : Shared) (value : Option Value) (new : State) (a : Ahead) → given (length locals + length (take fo ops)) value (waiting_state fo fl ops locals shared) ≡ Ok new → through m (Function frame fo fl fb ∷ cs) ops locals labels depth (gives value shared a) ≡ blocks m (frame_at m depth frame) (length locals) (ending m cs (take fl locals) (take fb labels) depth frame.result) (reverse (drop fb labels)) (take fo ops) (run m (from (frame_at m depth frame) (length locals + length (take fo ops)) frame.place new a))
unfolding through ending
given_value m cs frame depth fo fl fb ops locals labels shared value new a e =
    ap (λ g. blocks m (frame_at m depth frame) (length locals) (ending m cs (take fl locals) (take fb labels) depth frame.result) (reverse (drop fb labels)) (take fo ops) (goes_on (run m) (frame_at m depth frame) (length locals + length (take fo ops)) frame.place (waiting_state fo fl ops locals shared) a g)) e

pub given_trap : (m : PlainModule) (cs : List Caller) (frame : frames.Frame) (depth fo fl fb : ℕ) (ops locals : List Value) (labels : List Label) (shared : Shared) (value : Option Value) (kind : TrapKind) (a : Ahead) → given (length locals + length (take fo ops)) value (waiting_state fo fl ops locals shared) ≡ Err kind → through m (Function frame fo fl fb ∷ cs) ops locals labels depth (gives value shared a) ≡ trapped kind shared a
unfolding through ending
given_trap m cs frame depth fo fl fb ops locals labels shared value kind a e =
    ap (λ g. blocks m (frame_at m depth frame) (length locals) (ending m cs (take fl locals) (take fb labels) depth frame.result) (reverse (drop fb labels)) (take fo ops) (goes_on (run m) (frame_at m depth frame) (length locals + length (take fo ops)) frame.place (waiting_state fo fl ops locals shared) a g)) e
    ∙ blocks-ends m (frame_at m depth frame) (length locals) (ending m cs (take fl locals) (take fb labels) depth frame.result) (reverse (drop fb labels)) (take fo ops) _ (ending-ends m cs (take fl locals) (take fb labels) depth frame.result _)

-- ---- a function begins

same_size : (n : ℕ) (xs : List Value) (k : ℕ) (b : Bool) → nat_le (n + length (reverse xs) + k) most_values ≡ b → nat_le (n + length xs + k) most_values ≡ b
same_size n xs k b e = ap (λ i. nat_le (n + i + k) most_values) (sym (length-reverse xs)) ∙ e

and_same : (b : Bool) (n : ℕ) (xs : List Value) (k : ℕ) → (b && nat_le (n + length (reverse xs) + k) most_values) ≡ (b && nat_le (n + length xs + k) most_values)
and_same b n xs k = ap (λ i. b && nat_le (n + i + k) most_values) (length-reverse xs)

pub begins_not : (m : PlainModule) (cs : List Caller) (depth : ℕ) (ops locals : List Value) (labels : List Label) (result : Option ValType) (code : PlainCode) (args : List Value) (shared : Shared) (a : Ahead) → (nat_lt depth most_frames && nat_le (length locals + length ops + length (reverse args) + length code.locals) most_values) ≡ false → through m cs ops locals labels depth (enters_code (run m) depth (length locals + length ops) result code args shared a) ≡ trapped StackOverflow shared a
begins_not m cs depth ops locals labels result code args shared a e =
    ap (λ b. through m cs ops locals labels depth (cond b (finishes result (run m (from (record { code = code; depth = depth + 1 }) (length locals + length ops + length args + length code.locals) 0 (record { locals = args ++ map zero_of code.locals; operands = []; shared = shared }) a))) (trapped StackOverflow shared a)))
    (sym (and_same (nat_lt depth most_frames) (length locals + length ops) args (length code.locals)) ∙ e)
    ∙ through-ends m cs ops locals labels depth _

deeper : (d : ℕ) → d ≡ d + 1 - 1
deeper d = omega arith

-- the numbers of values that stand before and after the arguments became locals
moved_values : (locals args zeros all ops : List Value) → all ≡ locals ++ args ++ zeros → length locals + length ops + length args + length zeros ≡ length all + length ops
moved_values locals args zeros all ops e =
    omega (arith, ap length e, length-append (locals ++ args) zeros, length-append locals args)

pub begins : (m : PlainModule) (cs : List Caller) (depth : ℕ) (ops locals new : List Value) (labels : List Label) (result : Option ValType) (code : PlainCode) (args : List Value) (shared : Shared) (a : Ahead) → (nat_lt depth most_frames && nat_le (length locals + length ops + length (reverse args) + length code.locals) most_values) ≡ true → new ≡ locals ++ args ++ map zero_of code.locals → through m cs ops locals labels depth (enters_code (run m) depth (length locals + length ops) result code args shared a) ≡ blocks m (record { code = code; depth = depth + 1 }) (length new) (ending m cs locals labels (depth + 1) result) [] ops (run m (from (record { code = code; depth = depth + 1 }) (length new + length ops) 0 (record { locals = args ++ map zero_of code.locals; operands = []; shared = shared }) a))
begins m cs depth ops locals new labels result code args shared a e all =
    let f : Frame = record { code = code; depth = depth + 1 } in
    let st : State = record { locals = args ++ map zero_of code.locals; operands = []; shared = shared } in
    let zeros : length (map zero_of code.locals) ≡ length code.locals = length-map code.locals zero_of in
    let at : length locals + length ops + length args + length code.locals ≡ length new + length ops =
    ap (λ k. length locals + length ops + length args + k) (sym zeros) ∙ moved_values locals args (map zero_of code.locals) new ops all in
    ap (λ b. through m cs ops locals labels depth (cond b (finishes result (run m (from f (length locals + length ops + length args + length code.locals) 0 st a))) (trapped StackOverflow shared a)))
    (sym (and_same (nat_lt depth most_frames) (length locals + length ops) args (length code.locals)) ∙ e)
    ∙ ap (λ k. through m cs ops locals labels depth (finishes result (run m (from f k 0 st a)))) at
    ∙ ap (λ d. through m cs ops locals labels d (finishes result (run m (from f (length new + length ops) 0 st a)))) (deeper depth)
    ∙ sym (no_blocks m f (length new) cs locals labels (depth + 1) result [] ops (run m (from f (length new + length ops) 0 st a)) refl)

-- ---- a function is entered

pub entered_import : (m : PlainModule) (depth below func : ℕ) (args : List Value) (shared : Shared) (a : Ahead) → func < imported m → run m (enter depth below func args shared a) ≡ run m (host depth below (ask func args) shared a)
entered_import m depth below func args shared a lt =
    run-step m (enter depth below func args shared a)
    ∙ ap (λ b. cond b (run m (host depth below (ask func args) shared a)) (enters_typed (run m) depth below (func_type m func) (code_at m (func - imported m)) args shared a)) (lt-ltb func (imported m) lt)

entered_own : (m : PlainModule) (depth below func : ℕ) (args : List Value) (shared : Shared) (a : Ahead) → imported m ≤ func → run m (enter depth below func args shared a) ≡ enters_typed (run m) depth below (func_type m func) (code_at m (func - imported m)) args shared a
entered_own m depth below func args shared a le =
    run-step m (enter depth below func args shared a)
    ∙ ap (λ b. cond b (run m (host depth below (ask func args) shared a)) (enters_typed (run m) depth below (func_type m func) (code_at m (func - imported m)) args shared a)) (le-ltb func (imported m) le)

pub entered_code : (m : PlainModule) (depth below func : ℕ) (t : PlainFuncType) (args : List Value) (shared : Shared) (a : Ahead) → imported m ≤ func → func_type m func ≡ Some t → run m (enter depth below func args shared a) ≡ enters_code (run m) depth below t.result (code_at m (func - imported m)) args shared a
entered_code m depth below func t args shared a le e =
    entered_own m depth below func args shared a le
    ∙ ap (λ o. enters_typed (run m) depth below o (code_at m (func - imported m)) args shared a) e

pub entered_none : (m : PlainModule) (depth below func : ℕ) (args : List Value) (shared : Shared) (a : Ahead) → imported m ≤ func → func_type m func ≡ None → run m (enter depth below func args shared a) ≡ trapped Unreachable shared a
entered_none m depth below func args shared a le e =
    entered_own m depth below func args shared a le
    ∙ ap (λ o. enters_typed (run m) depth below o (code_at m (func - imported m)) args shared a) e
