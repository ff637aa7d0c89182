-- Blocks, and the functions that have them.
use Rattle.std.proofs.Common.{◌≡◌, refl, sym, ◌∙◌, ap, subst, ℕ, suc, ◌+◌, ◌-◌, Bool, true, false, List, [], ◌∷◌, take, drop, length, reverse, Option, Some, None, Result, Ok, Err, arith, length-take, length-drop}
use Rattle.std.proofs.lemmas.List.{length-reverse}
use Rattle.std.specs.Prelude.{slice_get, if◌then◌else◌}
use Rattle.wasm_types.specs.declared.value.ValType.{ValType}
use Rattle.wasm_types.specs.declared.value.Value.{Value}
use Rattle.wasm_types.specs.Plain.{PlainModule}
use Rattle.wasm_machine.specs.declared.frame.Label.{Label}
use Rattle.wasm_machine.specs.declared.frame.Caller.{Caller}
use Rattle.wasm_machine.specs.declared.frame.Caller.TheVariants.{Host, Function}
use Rattle.wasm_machine.specs.declared.turn.TrapKind.TheVariants.{Unreachable}
use Rattle.wasm_machine.specs.declared.frame.Frame as frames
use Rattle.wasm_machine.specs.declared.frame.Event.{Event}
use Rattle.wasm_machine.specs.declared.frame.Event.TheVariants.{Goes, Leaves}
use Rattle.wasm_machine.specs.declared.frame.Step.{Step}
use Rattle.wasm_machine.specs.declared.stop.Stop.{Stop}
use Rattle.wasm_machine.specs.declared.state.State as states
use Rattle.wasm_machine.specs.Acts.{Stands}
use Rattle.wasm_machine.specs.Effects.{Shared, State, with_operands}
use Rattle.wasm_machine.specs.Exec.{Ahead, Outcome, falls, jumps, returns, gives, ends, trapped, opens, Frame, from, turn, follows, turns, handed, behind, finishes, result_of, run}
use Rattle.wasm_machine.specs.Rests.{Leads, LeadsTo, at_place, frame_at, blocks, closed_by, through, ending}
use Rattle.wasm_machine.specs.Control.{handed_on, yielded}
use Rattle.wasm_machine.proofs.Fuel.{run-step}

-- the label of a block that begins
abbrev pub label_of : Option ValType → ℕ → Option ℕ → ℕ → Label
label_of result after start floor = record { result = result; after = after; start = start; floor = floor }

pub places : (n k : ℕ) (lower upper ops : List Value) → length ops ≡ length lower + length upper → n + length lower + length upper ≡ n + length ops
places n k lower upper ops h = omega arith

pub two_parts : (ops : List Value) (floor : ℕ) → length ops ≡ length (take floor ops) + length (reverse (drop floor ops))
two_parts ops floor = omega (arith, length-take floor ops, length-drop floor ops, length-reverse (drop floor ops))

-- a block begins: its instructions run in the block around it
pub opened : (m : PlainModule) (f : Frame) (n : ℕ) (rest : List Value → Outcome → Outcome) (ls : List Label) (lower upper ops : List Value) (floor : ℕ) (loops : Bool) (result : Option ValType) (start after place : ℕ) (locals : List Value) (shared : Shared) (a : Ahead) → lower ≡ take floor ops → upper ≡ drop floor ops → length ops ≡ length lower + length (reverse upper) → blocks m f n rest ls lower (follows (run m) f (n + length lower) place (opens loops result start after (record { locals = locals; operands = reverse upper; shared = shared }) a)) ≡ blocks m f n rest (label_of result after (if loops then Some start else None) floor ∷ ls) ops (run m (from f (n + length ops) start (record { locals = locals; operands = []; shared = shared }) a))
unfolding blocks
opened m f n rest ls lower upper ops floor false result start after place locals shared a low up size =
    let at : n + length lower + length (reverse upper) ≡ n + length ops = places n 0 lower (reverse upper) ops size in
    rw (at, low, up) refl
opened m f n rest ls lower upper ops floor true result start after place locals shared a low up size =
    let at : n + length lower + length (reverse upper) ≡ n + length ops = places n 0 lower (reverse upper) ops size in
    rw (run-step m (turn f (n + length lower) result start after (reverse upper) (record { locals = locals; operands = []; shared = shared }) a)) (rw (at, low, up) refl)

-- ---- what has ended stays

closes-ends : (m : PlainModule) (f : Frame) (n : ℕ) (start : Option ℕ) (l : Label) (outer : List Value) (r : Stands) → closed_by m f n start l outer (ends r) ≡ ends r
closes-ends m f n None l outer r = refl
closes-ends m f n (Some start) l outer r = refl

pub blocks-ends : (m : PlainModule) (f : Frame) (n : ℕ) (rest : List Value → Outcome → Outcome) (ls : List Label) (ops : List Value) (r : Stands) → ((ops : List Value) → rest ops (ends r) ≡ ends r) → blocks m f n rest ls ops (ends r) ≡ ends r
unfolding blocks
blocks-ends m f n rest [] ops r h = h ops
blocks-ends m f n rest (l ∷ ls) ops r h =
    rw (closes-ends m f (n + length (take l.floor ops)) l.start l (reverse (drop l.floor ops)) r) (blocks-ends m f n rest ls (take l.floor ops) r h)

pub through-ends : (m : PlainModule) (cs : List Caller) (ops locals : List Value) (labels : List Label) (depth : ℕ) (r : Stands) → through m cs ops locals labels depth (ends r) ≡ ends r
unfolding through
through-ends m [] ops locals labels depth r = refl
through-ends m (Host ∷ cs) ops locals labels depth r = through-ends m cs ops locals labels depth r
through-ends m (Function frame fo fl fb ∷ cs) ops locals labels depth r =
    blocks-ends m (frame_at m depth frame) (length locals) _ (reverse (drop fb labels)) (take fo ops) r (λ under. through-ends m cs under (take fl locals) (take fb labels) (depth - 1) r)

pub ending-ends : (m : PlainModule) (cs : List Caller) (locals : List Value) (labels : List Label) (depth : ℕ) (result : Option ValType) (r : Stands) (ops : List Value) → ending m cs locals labels depth result ops (ends r) ≡ ends r
unfolding ending
ending-ends m cs locals labels depth result r ops = through-ends m cs ops locals labels (depth - 1) r

-- ---- ends of blocks

-- only the value on top of a block's operands counts
handed-top : (result : Option ValType) (inner outer : List Value) → handed result inner outer ≡ handed_on result (slice_get inner 0) outer
handed-top None inner outer = refl
handed-top (Some t) [] outer = refl
handed-top (Some t) (v ∷ inner) outer = refl

pub same_state : (s : State) (locals : List Value) (shared : Shared) (values : List Value) → s.locals ≡ locals → s.shared ≡ shared → with_operands s values ≡ record { locals = locals; operands = values; shared = shared }
same_state s locals shared values e d = cc

pub handed_value : (m : PlainModule) (f : Frame) (below place : ℕ) (result : Option ValType) (value : Option Value) (outer values : List Value) (inner : State) (locals : List Value) (shared : Shared) (a : Ahead) → slice_get inner.operands 0 ≡ value → inner.locals ≡ locals → inner.shared ≡ shared → handed_on result value outer ≡ Some values → behind (run m) f below place (handed result inner.operands outer) inner a ≡ run m (from f below place (record { locals = locals; operands = values; shared = shared }) a)
handed_value m f below place result value outer values inner locals shared a top e d h =
    let all : handed result inner.operands outer ≡ Some values = handed-top result inner.operands outer ∙ ap (λ v. handed_on result v outer) top ∙ h in
    ap (λ o. behind (run m) f below place o inner a) all ∙ ap (λ s. run m (from f below place s a)) (same_state inner locals shared values e d)

pub handed_none : (m : PlainModule) (f : Frame) (below place : ℕ) (result : Option ValType) (value : Option Value) (outer : List Value) (inner : State) (shared : Shared) (a : Ahead) → slice_get inner.operands 0 ≡ value → inner.shared ≡ shared → handed_on result value outer ≡ None → behind (run m) f below place (handed result inner.operands outer) inner a ≡ trapped Unreachable shared a
handed_none m f below place result value outer inner shared a top d h =
    let none : handed result inner.operands outer ≡ None = handed-top result inner.operands outer ∙ ap (λ v. handed_on result v outer) top ∙ h in
    ap (λ o. behind (run m) f below place o inner a) none ∙ ap (λ s. trapped Unreachable s a) d

-- ---- ends of functions

abbrev given_by : Option (Option Value) → Shared → Ahead → Outcome
given_by None shared a = trapped Unreachable shared a
given_by (Some v) shared a = gives v shared a

result_of-top : (result : Option ValType) (value : Option Value) (s : State) (values : List Value) (a : Ahead) → slice_get values 0 ≡ value → result_of result values s a ≡ given_by (yielded result value) s.shared a
result_of-top None value s values a e = refl
result_of-top (Some t) value s [] a e = ap (λ v. given_by (yielded (Some t) v) s.shared a) e
result_of-top (Some t) value s (v ∷ values) a e = ap (λ v. given_by (yielded (Some t) v) s.shared a) e

pub result_value : (result : Option ValType) (value : Option Value) (s : State) (shared : Shared) (a : Ahead) (v : Option Value) → slice_get s.operands 0 ≡ value → s.shared ≡ shared → yielded result value ≡ Some v → result_of result s.operands s a ≡ gives v shared a
result_value result value s shared a v e d h = result_of-top result value s s.operands a e ∙ ap (λ y. given_by y s.shared a) h ∙ ap (λ x. gives v x a) d

pub result_missing : (result : Option ValType) (value : Option Value) (s : State) (shared : Shared) (a : Ahead) → slice_get s.operands 0 ≡ value → s.shared ≡ shared → yielded result value ≡ None → result_of result s.operands s a ≡ trapped Unreachable shared a
result_missing result value s shared a e d h = result_of-top result value s s.operands a e ∙ ap (λ y. given_by y s.shared a) h ∙ ap (λ x. trapped Unreachable x a) d

-- ---- branches

pub leads_from : (m : PlainModule) (frame : frames.Frame) (r : Result Event Stop) (s : states.State) (a : Ahead) (o p : Outcome) → o ≡ p → Leads m frame r s a p → Leads m frame r s a o
leads_from m frame r s a o p e h = subst (λ x. Leads m frame r s a x) (sym e) h

-- only the function counts, and not the place in it
pub leads_here : (m : PlainModule) (frame : frames.Frame) (place : ℕ) (r : Result Event Stop) (s : states.State) (a : Ahead) (o p : Outcome) → o ≡ p → Leads m (at_place frame place) r s a p → Leads m frame r s a o
leads_here m frame place (Ok (Goes onward)) s a o p e h = e ∙ h
leads_here m frame place (Ok Leaves) s a o p e h = e ∙ h
leads_here m frame place (Err stop) s a o p e h = leads_from m frame (Err stop) s a o p e h

pub steps_from : (m : PlainModule) (r : Result Step Stop) (s : states.State) (a : Ahead) (o p : Outcome) → o ≡ p → LeadsTo m r s a p → LeadsTo m r s a o
steps_from m r s a o p e h = subst (λ x. LeadsTo m r s a x) (sym e) h

falls_by : (m : PlainModule) (f : Frame) (n : ℕ) (start : Option ℕ) (l : Label) (outer : List Value) (s : State) (a : Ahead) → closed_by m f n start l outer (falls s a) ≡ behind (run m) f n l.after (handed l.result s.operands outer) s a
falls_by m f n None l outer s a = refl
falls_by m f n (Some start) l outer s a = refl

-- at the end of the innermost block
pub falls_to_label : (m : PlainModule) (f : Frame) (n : ℕ) (rest : List Value → Outcome → Outcome) (l : Label) (own rests : List Label) (ops : List Value) (s : State) (a : Ahead) → own ≡ l ∷ rests → blocks m f n rest own ops (falls s a) ≡ blocks m f n rest rests (take l.floor ops) (behind (run m) f (n + length (take l.floor ops)) l.after (handed l.result s.operands (reverse (drop l.floor ops))) s a)
unfolding blocks
falls_to_label m f n rest l own rests ops s a e =
    ap (λ ls. blocks m f n rest ls ops (falls s a)) e
    ∙ ap (λ o. blocks m f n rest rests (take l.floor ops) o) (falls_by m f (n + length (take l.floor ops)) l.start l (reverse (drop l.floor ops)) s a)

-- a branch to the innermost label, which isn't that of a loop
pub jumps_to_label : (m : PlainModule) (f : Frame) (n : ℕ) (rest : List Value → Outcome → Outcome) (l : Label) (own rests : List Label) (ops : List Value) (s : State) (a : Ahead) → own ≡ l ∷ rests → l.start ≡ None → blocks m f n rest own ops (jumps 0 s a) ≡ blocks m f n rest rests (take l.floor ops) (behind (run m) f (n + length (take l.floor ops)) l.after (handed l.result s.operands (reverse (drop l.floor ops))) s a)
unfolding blocks
jumps_to_label m f n rest l own rests ops s a e d =
    ap (λ ls. blocks m f n rest ls ops (jumps 0 s a)) e
    ∙ ap (λ start. blocks m f n rest rests (take l.floor ops) (closed_by m f (n + length (take l.floor ops)) start l (reverse (drop l.floor ops)) (jumps 0 s a))) d

-- a branch to the innermost label, which is that of a loop
pub jumps_to_loop : (m : PlainModule) (f : Frame) (n : ℕ) (rest : List Value → Outcome → Outcome) (l : Label) (own rests : List Label) (ops : List Value) (s : State) (a : Ahead) (start : ℕ) → own ≡ l ∷ rests → l.start ≡ Some start → length ops ≡ length (take l.floor ops) + length (reverse (drop l.floor ops)) → blocks m f n rest own ops (jumps 0 s a) ≡ blocks m f n rest (l ∷ rests) ops (run m (from f (n + length ops) start (with_operands s []) a))
unfolding blocks
jumps_to_loop m f n rest l own rests ops s a start e d size =
    let k : ℕ = n + length (take l.floor ops) in
    let outer : List Value = reverse (drop l.floor ops) in
    let at : k + length outer ≡ n + length ops = places n 0 (take l.floor ops) outer ops size in
    ap (λ ls. blocks m f n rest ls ops (jumps 0 s a)) e
    ∙ ap (λ o. blocks m f n rest rests (take l.floor ops) o)
    (ap (λ st. closed_by m f k st l outer (jumps 0 s a)) d
    ∙ run-step m (turn f k l.result start l.after outer (with_operands s []) a)
    ∙ ap (λ j. turns (run m) f k l.result start l.after outer (run m (from f j start (with_operands s []) a))) at
    ∙ ap (λ st. closed_by m f k st l outer (run m (from f (n + length ops) start (with_operands s []) a))) (sym d))

-- a branch out of the innermost block
jumps_by_label : (m : PlainModule) (f : Frame) (n : ℕ) (start : Option ℕ) (l : Label) (outer : List Value) (label : ℕ) (s : State) (a : Ahead) → closed_by m f n start l outer (jumps (suc label) s a) ≡ jumps label s a
jumps_by_label m f n None l outer label s a = refl
jumps_by_label m f n (Some start) l outer label s a = refl

pub jumps_out : (m : PlainModule) (f : Frame) (n : ℕ) (rest : List Value → Outcome → Outcome) (l : Label) (own rests : List Label) (ops : List Value) (label : ℕ) (s : State) (a : Ahead) → own ≡ l ∷ rests → blocks m f n rest own ops (jumps (suc label) s a) ≡ blocks m f n rest rests (take l.floor ops) (jumps label s a)
unfolding blocks
jumps_out m f n rest l own rests ops label s a e =
    ap (λ ls. blocks m f n rest ls ops (jumps (suc label) s a)) e
    ∙ ap (λ o. blocks m f n rest rests (take l.floor ops) o) (jumps_by_label m f (n + length (take l.floor ops)) l.start l (reverse (drop l.floor ops)) label s a)

returns_by_label : (m : PlainModule) (f : Frame) (n : ℕ) (start : Option ℕ) (l : Label) (outer : List Value) (s : State) (a : Ahead) → closed_by m f n start l outer (returns s a) ≡ returns s a
returns_by_label m f n None l outer s a = refl
returns_by_label m f n (Some start) l outer s a = refl

pub returns_out : (m : PlainModule) (f : Frame) (n : ℕ) (rest : List Value → Outcome → Outcome) (l : Label) (own rests : List Label) (ops : List Value) (s : State) (a : Ahead) → own ≡ l ∷ rests → blocks m f n rest own ops (returns s a) ≡ blocks m f n rest rests (take l.floor ops) (returns s a)
unfolding blocks
returns_out m f n rest l own rests ops s a e =
    ap (λ ls. blocks m f n rest ls ops (returns s a)) e
    ∙ ap (λ o. blocks m f n rest rests (take l.floor ops) o) (returns_by_label m f (n + length (take l.floor ops)) l.start l (reverse (drop l.floor ops)) s a)

-- no block is open
pub no_blocks : (m : PlainModule) (f : Frame) (n : ℕ) (cs : List Caller) (locals : List Value) (labels : List Label) (depth : ℕ) (result : Option ValType) (own : List Label) (ops : List Value) (o : Outcome) → own ≡ [] → blocks m f n (ending m cs locals labels depth result) own ops o ≡ through m cs ops locals labels (depth - 1) (finishes result o)
unfolding blocks ending
no_blocks m f n cs locals labels depth result own ops o e = ap (λ ls. blocks m f n (ending m cs locals labels depth result) ls ops o) e
