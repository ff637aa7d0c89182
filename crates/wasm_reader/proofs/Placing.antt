-- Going back over the instructions of a body, from the last to the first, as a loop does.
use Rattle.std.proofs.Common.{◌≡◌, ℕ, ◌-◌, ◌+◌, ◌≤◌, ◌<◌, List, [], ◌∷◌, ◌++◌, length, get_or, set, take, drop, refl, sym, ap, ◌∙◌, append_assoc, arith}
use Rattle.std.proofs.lemmas.List.{append-nil, length-take, take_all, drop_all, take_more, drop_more}
use Rattle.std.proofs.Math.Seq.{set-append_seam}
use Rattle.wasm_types.specs.declared.instr.Instr.{Instr}
use Rattle.wasm_types.specs.Body.{closings, closings_with, closed, innermost, placed}

pub nothing_done : (instrs : List Instr) → instrs ≡ take (length instrs) instrs ++ placed (length instrs) (drop (length instrs) instrs)
unfolding placed
nothing_done instrs =
    let rest : drop (length instrs) instrs ≡ [] = drop_all (length instrs) instrs (omega arith) in
    let front : take (length instrs) instrs ≡ instrs = take_all (length instrs) instrs (omega arith) in
    rw rest (sym (append-nil (take (length instrs) instrs) ∙ front))

pub no_closings : (instrs : List Instr) → [] ≡ closings (length instrs) (drop (length instrs) instrs)
unfolding closings
no_closings instrs = rw (drop_all (length instrs) instrs (omega arith)) refl

module _ (instrs now : List Instr) (at : ℕ) (d : Instr) (some : 0 < at) (below : at ≤ length instrs) (done : now ≡ take at instrs ++ placed at (drop at instrs)) where
  abbrev i : Instr
  i = get_or instrs (at - 1) d

  back : at - 1 + 1 ≡ at
  back = omega arith

  front : take at instrs ≡ take (at - 1) instrs ++ i ∷ []
  front = ap (λ (n : ℕ). take n instrs) (sym back) ∙ take_more instrs (at - 1) d (omega arith)

  rest : drop (at - 1) instrs ≡ i ∷ drop at instrs
  rest = drop_more instrs (at - 1) d (omega arith) ∙ ap (λ (n : ℕ). i ∷ drop n instrs) back

  split : now ≡ take (at - 1) instrs ++ i ∷ placed at (drop at instrs)
  split = done ∙ ap (λ (l : List Instr). l ++ placed at (drop at instrs)) front ∙ append_assoc (take (at - 1) instrs) (i ∷ []) (placed at (drop at instrs))

  len : length (take (at - 1) instrs) ≡ at - 1
  len = omega (arith, length-take (at - 1) instrs)

  -- the instruction is still as it was
  pub same : get_or now (at - 1) d ≡ i
  same = ap (λ (l : List Instr). get_or l (at - 1) d) split ∙ ap (λ (n : ℕ). get_or (take (at - 1) instrs ++ i ∷ placed at (drop at instrs)) n d) (sym len) ∙ get_or_seam (take (at - 1) instrs) (placed at (drop at instrs))
    where
      get_or_seam : (xs ys : List Instr) → get_or (xs ++ i ∷ ys) (length xs) d ≡ i
      get_or_seam [] ys = refl
      get_or_seam (x ∷ xs) ys = get_or_seam xs ys

  pub set_is : (new : Instr) → new ≡ closed i (innermost (closings at (drop at instrs))) → set now (at - 1) new ≡ take (at - 1) instrs ++ placed (at - 1) (drop (at - 1) instrs)
  unfolding placed
  set_is new e =
      let one : set now (at - 1) new ≡ take (at - 1) instrs ++ new ∷ placed at (drop at instrs)
      = ap (λ (l : List Instr). set l (at - 1) new) split ∙ ap (λ (n : ℕ). set (take (at - 1) instrs ++ i ∷ placed at (drop at instrs)) n new) (sym len) ∙ set-append_seam (take (at - 1) instrs) i (placed at (drop at instrs)) new in
      one ∙ rw (rest, back, e) refl

  pub around : closings (at - 1) (drop (at - 1) instrs) ≡ closings_with (at - 1) i (closings at (drop at instrs))
  unfolding closings
  around = rw (rest, back) refl
