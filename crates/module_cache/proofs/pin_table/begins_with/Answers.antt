use Rattle.std.proofs.Common.{◌≡◌, true, get_or, sym, subst, ◌∙◌, arith}
use Rattle.std.specs.Cmp.Lexicographic.{same_text}
use Rattle.std.specs.Str.{bytes_eq}
use Rattle.std.specs.Global.{Global}
use Rattle.std.specs.declared.sync.Arc.{Arc}
use Rattle.wasm_types.specs.declared.module.Module.{Module}
use Rattle.gatekeeper.specs.declared.code.ValidCode.{ValidCode}
use Rattle.gatekeeper.specs.CodeBytes.{code_bytes}
use Rattle.module_cache.proofs.Pins.{begun_more}
use Rattle.module_cache.proofs.pin_table.begins_with.Goals as goal

pub loop-i-preserved : goal.loop-i-preserved
loop-i-preserved c =
    let x = c.index-list-i.result in
    let y = c.index-codes-i.result in
    let equal : bytes_eq (code_bytes (get_or c.args.list.now c.loop-i.i x).0) (code_bytes y) ≡ true = sym c.same_code.ensures ∙ c.if-not-same_code.false in
    let same : code_bytes x.0 ≡ code_bytes y = same_text (code_bytes x.0) (code_bytes y) (sym (subst (λ (e : ValidCode × Arc Module Global). bytes_eq (code_bytes e.0) (code_bytes y) ≡ true) (sym c.index-list-i.is) equal)) in
    begun_more (λ e. code_bytes e.0) code_bytes c.args.list.now c.args.codes.now c.loop-i.i x y (omega arith) c.index-list-i.is (omega arith) c.index-codes-i.is same c.loop-i.invariant
