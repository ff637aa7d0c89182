use Rattle.std.proofs.Common.{◌≡◌, refl, sym, ◌∙◌, ap, ℕ, ◌+◌, ◌≤◌, List, [], ◌∷◌, drop, length, Option, Some, arith}
use Rattle.std.proofs.lemmas.List.{set_past}
use Rattle.wasm_machine.specs.Start.{with_funcs}
use Rattle.wasm_machine.proofs.start.put_funcs.Goals as goal

-- nothing is put past the end
put_past : (cells : List (Option ℕ)) (at : ℕ) (funcs : List ℕ) → length cells ≤ at → with_funcs cells at funcs ≡ cells
put_past cells at [] h = refl
put_past cells at (f ∷ funcs) h =
    ap (λ xs. with_funcs xs (at + 1) funcs) (set_past cells at (Some f) h) ∙ put_past cells (at + 1) funcs (omega arith)

pub returns-then-at-table : goal.returns-then-at-table
returns-then-at-table c =
    sym (put_past c.loop-func.table c.loop-func.at (drop c.loop-func.func-index c.args.funcs.now) (omega (arith, c.if-at-table.true))) ∙ c.loop-func.invariant
