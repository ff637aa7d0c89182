use Rattle.std.proofs.Common.{◌≡◌, ◌+◌, Bool, true, false, cond, Some, drop, sym, ap, ◌∙◌, arith}
use Rattle.std.specs.Map.{lookup}
use Rattle.std.specs.Str.{bytes_eq}
use Rattle.gatekeeper.specs.CodeBytes.{code_bytes}
use Rattle.module_cache.proofs.Lists.{is_of}
use Rattle.module_cache.proofs.Pins.{lookup_left}
use Rattle.module_cache.proofs.pin_table.find.Goals as goal

pub loop-known-preserved : goal.loop-known-preserved
loop-known-preserved c =
    let e = c.loop-known-item.result in
    let list = c.args.list.now in
    let i = c.loop-known.known-index in
    let test = is_of code_bytes (code_bytes c.args.code.now) in
    let other : bytes_eq (code_bytes c.args.code.now) (code_bytes e.0) ≡ false = sym c.same_code.ensures ∙ c.if-same_code.false in
    sym (lookup_left test list i e (omega arith) c.loop-known-item.is ∙ ap (λ (b : Bool). cond b (Some e.1) (lookup test (drop (i + 1) list))) other) ∙ c.loop-known.invariant

pub returns-then-same_code : goal.returns-then-same_code
returns-then-same_code c =
    let e = c.loop-known-item.result in
    let list = c.args.list.now in
    let i = c.loop-known.known-index in
    let test = is_of code_bytes (code_bytes c.args.code.now) in
    let found : bytes_eq (code_bytes c.args.code.now) (code_bytes e.0) ≡ true = sym c.same_code.ensures ∙ c.if-same_code.true in
    sym (lookup_left test list i e (omega arith) c.loop-known-item.is ∙ ap (λ (b : Bool). cond b (Some e.1) (lookup test (drop (i + 1) list))) found) ∙ c.loop-known.invariant
