use Rattle.std.proofs.Common.{ℕ, List, ◌++◌, length, drop, sym, ap, ◌∙◌, arith}
use Rattle.std.proofs.Math.Seq.{drop-append_seam}
use Rattle.std.proofs.lemmas.Result.{IfOk-weaker}
use Rattle.gas_store.proofs.Prefixes.{begins, are_bytes}
use Rattle.gas_store.proofs.places.behind.Goals as goal

pub returns : goal.returns
returns c = IfOk-weaker c.tail.result _ _ (λ key is lo from below.
    let b = begins c.args.prefix.now lo c.args.place.now (are_bytes c.args.place.now (λ i. omega (arith, c.type_inv.place i))) from below in
    b.1 ∙ ap (λ (k : List ℕ). c.args.prefix.now ++ k) (sym (is ∙ ap (drop (length c.args.prefix.now)) b.1 ∙ drop-append_seam c.args.prefix.now b.0))) c.tail.ensures
