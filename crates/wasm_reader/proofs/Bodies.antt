-- Reading instructions one after the other, as a loop does.
use Rattle.std.proofs.Common.{◌≡◌, ℕ, zero, suc, ◌-◌, ◌+◌, ◌≤◌, ◌<◌, Bool, List, [], ◌∷◌, ◌++◌, length, Ok, Err, refl, sym, ap, subst, ◌∙◌, append_assoc, arith}
use Rattle.std.proofs.lemmas.List.{append-nil, length-append, nil_from_length}
use Rattle.wasm_types.specs.declared.kind.ReadKind.TheVariants.{Nesting}
use Rattle.wasm_types.specs.declared.instr.Instr.{Instr}
use Rattle.wasm_types.specs.Place.{Place, Broken, Reading, then_read, breaks}
use Rattle.wasm_types.specs.Body.{body_read, instr, blocks_after, with_front}
use Rattle.wasm_reader.specs.declared.stop.ReadStop.{ReadStop}
use Rattle.wasm_reader.specs.declared.stop.ReadStop.TheVariants.{Fault, NoMemory}
use Rattle.wasm_reader.specs.Gives.{Fails, adding}
use Rattle.wasm_reader.proofs.Tables.{read_of, ok_is, value, place_of}
use Rattle.wasm_reader.proofs.Shrinks.{within_instr, instr_at_end}

-- these instructions and targets, and then those that are read
abbrev pub with_body : List Instr → List ℕ → Reading (List Instr × List ℕ) → Reading (List Instr × List ℕ)
with_body instrs targets read = then_read read (λ b after. Ok ((instrs ++ b.0, targets ++ b.1), after))

abbrev Both : Type 0
Both = List Instr × List ℕ

body_is : (instrs instrs' : List Instr) (targets targets' : List ℕ) (after : Place) → instrs ≡ instrs' → targets ≡ targets' → read_of {A = Both} ((instrs, targets), after) ≡ read_of ((instrs', targets'), after)
body_is instrs instrs' targets targets' after e f = cc

regroup : (instrs : List Instr) (targets : List ℕ) (i : Instr) (labels : List ℕ) (read : Reading (List Instr × List ℕ))
    → with_body instrs targets (with_front i labels read) ≡ with_body (instrs ++ i ∷ []) (targets ++ labels) read
regroup instrs targets i labels (Ok x) = body_is _ _ _ _ x.1 (simp append_assoc) (simp append_assoc)
regroup instrs targets i labels (Err e) = refl

-- an instruction that was read, where its labels stand behind targets
pub record IsAdded (first : ℕ) (may_else : Bool) (targets all : List ℕ) (start : Place) (i : Instr) (after : Place) : Type 0 where
  pub labels : List ℕ
  pub is_read : (instr first may_else).read start ≡ Ok ((i, labels), after)
  pub whole : all ≡ targets ++ labels

abbrev One : Type 0
One = Instr × List ℕ

one_is : (i j : Instr) (labels : List ℕ) (p q : Place) → i ≡ j → p ≡ q → read_of {A = One} ((i, labels), p) ≡ read_of ((j, labels), q)
one_is i j labels p q e f = cc

abbrev failed : (A : Type 0) → Broken → Reading A
failed A e = Err e

other_value : {A : Type 0} (B : Type 0) (e f : Broken) → failed A e ≡ failed A f → failed B e ≡ failed B f
other_value B e f h = cc

pub added : (first : ℕ) (may_else : Bool) (targets all : List ℕ) (start : Place) (i : Instr) (after : Place) → adding targets ((instr first may_else).read start) ≡ Ok ((i, all), after) → IsAdded first may_else targets all start i after
added first may_else targets all start i after e = go ((instr first may_else).read start) refl e
  where
    go : (read : Reading One) → (instr first may_else).read start ≡ read → adding targets read ≡ Ok ((i, all), after) → IsAdded first may_else targets all start i after
    go (Ok x) h e =
        let same = ok_is ((x.0.0, targets ++ x.0.1), x.1) ((i, all), after) e in
        let i-is : x.0.0 ≡ i = ap (λ (p : One). p.0) (value same) in
        let all-is : targets ++ x.0.1 ≡ all = ap (λ (p : One). p.1) (value same) in
        record { labels = x.0.1; is_read = h ∙ one_is x.0.0 i x.0.1 x.1 after i-is (place_of same); whole = sym all-is }
    go (Err f) h e = absurd cc

module _ (instrs : List Instr) (targets : List ℕ) (most : ℕ) (may_else : Bool) (blocks : List Bool) (start : Place) (room : length instrs + length start.rest ≤ most) where
  -- an instruction has a byte at least
  pub shrinks : (i : Instr) (all : List ℕ) (after : Place) → adding targets ((instr (length targets) may_else).read start) ≡ Ok ((i, all), after) → length all + length after.rest < length targets + length start.rest
  shrinks i all after e =
      let a = added (length targets) may_else targets all start i after e in
      let w = within_instr (length targets) may_else start (i, a.labels) after a.is_read in
      omega (arith, w, ap length a.whole, length-append targets a.labels)

  pub less : (i : Instr) (all : List ℕ) (after : Place) → adding targets ((instr (length targets) may_else).read start) ≡ Ok ((i, all), after) → length after.rest < length start.rest
  less i all after e =
      let a = added (length targets) may_else targets all start i after e in
      let w = within_instr (length targets) may_else start (i, a.labels) after a.is_read in
      omega (arith, w)

  step : (i : Instr) (labels : List ℕ) (after : Place) (k : ℕ) → (instr (length targets) may_else).read start ≡ Ok ((i, labels), after) → most - length instrs ≡ suc k
      → with_body instrs targets (body_read (most - length instrs) (may_else ∷ blocks) (length targets) start)
      ≡ with_body (instrs ++ i ∷ []) (targets ++ labels) (body_read k (blocks_after i (may_else ∷ blocks)) (length targets + length labels) after)
  unfolding body_read
  step i labels after k h steps = rw (steps, h) (regroup instrs targets i labels _)

  pub goes_on : (i : Instr) (all : List ℕ) (after : Place) (total : Reading Both) → adding targets ((instr (length targets) may_else).read start) ≡ Ok ((i, all), after)
      → with_body instrs targets (body_read (most - length instrs) (may_else ∷ blocks) (length targets) start) ≡ total
      → with_body (instrs ++ i ∷ []) all (body_read (most - length (instrs ++ i ∷ [])) (blocks_after i (may_else ∷ blocks)) (length all) after) ≡ total
  goes_on i all after total e so_far =
      let a = added (length targets) may_else targets all start i after e in
      let w = within_instr (length targets) may_else start (i, a.labels) after a.is_read in
      let n : ℕ = most - length (instrs ++ i ∷ []) in
      let k : most - length instrs ≡ suc n = omega (arith, w, length-append instrs (i ∷ [])) in
      let one = sym (step i a.labels after n a.is_read k) ∙ so_far in
      let two = subst (λ (m : ℕ). with_body (instrs ++ i ∷ []) (targets ++ a.labels) (body_read n (blocks_after i (may_else ∷ blocks)) m after) ≡ total) (sym (length-append targets a.labels)) one in
      subst (λ (ts : List ℕ). with_body (instrs ++ i ∷ []) ts (body_read n (blocks_after i (may_else ∷ blocks)) (length ts) after) ≡ total) (sym a.whole) two

  pub fails : (e : ReadStop) (total : Reading Both) → Fails e (adding targets ((instr (length targets) may_else).read start))
      → with_body instrs targets (body_read (most - length instrs) (may_else ∷ blocks) (length targets) start) ≡ total → Fails e total
  unfolding body_read
  fails NoMemory total h so_far = tt
  fails (Fault at why) total h so_far = go (most - length instrs) refl
    where
      fault_of : (read : Reading One) → adding targets read ≡ Err (record { at = at; kind = why }) → read ≡ Err (record { at = at; kind = why })
      fault_of (Ok x) e = absurd cc
      fault_of (Err f) e = cc

      broke : (instr (length targets) may_else).read start ≡ Err (record { at = at; kind = why })
      broke = fault_of ((instr (length targets) may_else).read start) h

      go : (steps : ℕ) → most - length instrs ≡ steps → total ≡ Err (record { at = at; kind = why })
      go zero k =
          let empty : start.rest ≡ [] = nil_from_length start.rest (omega (arith, k)) in
          let one : with_body instrs targets (body_read (most - length instrs) (may_else ∷ blocks) (length targets) start) ≡ breaks start.at Nesting = rw k refl in
          sym so_far ∙ one ∙ other_value Both _ _ (sym (instr_at_end (length targets) may_else start empty) ∙ broke)
      go (suc steps) k =
          let one : with_body instrs targets (body_read (most - length instrs) (may_else ∷ blocks) (length targets) start) ≡ Err (record { at = at; kind = why }) = rw (k, broke) refl in
          sym so_far ∙ one

pub is_done : (instrs : List Instr) (targets : List ℕ) (steps : ℕ) (start : Place) (total : Reading Both) → with_body instrs targets (body_read steps [] (length targets) start) ≡ total → total ≡ Ok ((instrs, targets), start)
unfolding body_read
is_done instrs targets steps start total so_far = sym so_far ∙ body_is (instrs ++ []) instrs (targets ++ []) targets start (append-nil instrs) (append-nil targets)
