use Rattle.std.proofs.Common.{◌≡◌, Bool, false, ◌||◌, is_some, sym, ap, ◌∙◌}
use Rattle.gatekeeper.specs.CodeBytes.{code_bytes}
use Rattle.gatekeeper.specs.Cache.{is_among}
use Rattle.module_cache.specs.Right.{codes_of, vec_bytes}
use Rattle.module_cache.specs.Pinned.{pinned_codes}
use Rattle.module_cache.proofs.Pins.{got_found, got_right}
use Rattle.module_cache.proofs.state.CacheState.kept.Goals as goal

pub returns-in-None-clause-found : goal.returns-in-None-clause-found
returns-in-None-clause-found c =
    let s = c.args.self.now in
    let code = code_bytes c.args.code.now in
    let none : is_among code (pinned_codes s.pinned) ≡ false = sym c.get.ensures.found ∙ ap is_some c.in-None.is in
    got_found vec_bytes code s.recent.entries c.peek.result (rw c.bytes.ensures at c.peek.ensures)
    ∙ ap (λ (b : Bool). b || is_among code (codes_of vec_bytes s.recent.entries)) (sym none)

pub returns-in-None-clause-right : goal.returns-in-None-clause-right
returns-in-None-clause-right c =
    let s = c.args.self.now in
    got_right vec_bytes (code_bytes c.args.code.now) s.recent.entries c.peek.result (rw c.bytes.ensures at c.peek.ensures) s.recent_right
