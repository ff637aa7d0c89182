use Rattle.std.proofs.Common.{◌<◌, length, get_or, arith, refl, sym, ◌∙◌, ◌≡◌, ℕ, false}
use Rattle.std.specs.Prelude.{◌==◌}
use Rattle.std.proofs.lemmas.Bool.Decides.{nat_tests}
use Rattle.wasm_types.specs.declared.value.ValType.TheVariants.{I32}
use Rattle.wasm_writer.proofs.Runs.{run_more}
use Rattle.wasm_writer.proofs.locals.runs_of.Goals as goal

not_empty : (n : ℕ) → (n == 0) ≡ false → 0 < n
not_empty n e = grind (arith, nat_tests)

pub loop-rest-preserved : goal.loop-rest-preserved
loop-rest-preserved c =
    let some : 0 < length c.loop-rest.rest.now = not_empty (length c.loop-rest.rest.now) (sym c.is_empty.ensures ∙ c.loop-rest-test.true) in
    run_more c.loop-rest.all.items c.push.new.self.items c.loop-rest.rest.now (get_or c.loop-rest.rest.now 0 I32) I32 c.front_len-count.result _ some refl c.front_len-count.ensures.value c.in_ok-push.ensures.items c.loop-rest.invariant
