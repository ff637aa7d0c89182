use Rattle.std.proofs.Common.{◌≡◌, true, false, is_some, sym, ap, ◌∙◌}
use Rattle.std.specs.Arc.{arc_value}
use Rattle.gatekeeper.specs.CodeBytes.{code_bytes}
use Rattle.gatekeeper.specs.Cache.{is_among}
use Rattle.module_cache.specs.Right.{IsModuleOf, codes_of, vec_bytes}
use Rattle.module_cache.specs.Held.{held}
use Rattle.module_cache.specs.Pinned.{pinned_codes}
use Rattle.module_cache.proofs.Lists.{found_is_right}
use Rattle.module_cache.proofs.Pins.{got_found}
use Rattle.module_cache.proofs.Kept.{promoted_right, promoted_look, recent_held, none_held}
use Rattle.module_cache.proofs.state.CacheState.serve.Goals as goal

pub invariant_of-self : goal.invariant_of-self
invariant_of-self c =
    let s = c.args.self.now in
    record { recent_right = promoted_right s.recent c.get-2.follows.lender-at-none c.bytes.result.now c.get-2.follows.holds-at-none s.recent_right }

pub returns-in_err-try_clone-in-Some-get-clause-cache : goal.returns-in_err-try_clone-in-Some-get-clause-cache
returns-in_err-try_clone-in-Some-get-clause-cache c =
    let s = c.args.self.now in
    let code = code_bytes c.args.code.now in
    let none : is_among code (pinned_codes s.pinned) ≡ false = sym c.get.ensures.found ∙ ap is_some c.in_default.is in
    promoted_look (pinned_codes s.pinned) s.recent c.get-2.follows.lender-at-none code none c.codes_differ.ensures.recent (rw c.bytes.ensures at c.get-2.follows.holds-at-none)

pub invariant_of-self-in-None : goal.invariant_of-self-in-None
invariant_of-self-in-None c =
    let s = c.args.self.now in
    record { recent_right = promoted_right s.recent c.get-2.follows.lender-at-none c.bytes.result.now c.get-2.follows.holds-at-none s.recent_right }

pub returns-in_ok-try_clone-in-Some-get-clause-answer : goal.returns-in_ok-try_clone-in-Some-get-clause-answer
returns-in_ok-try_clone-in-Some-get-clause-answer c =
    let s = c.args.self.now in
    let code = code_bytes c.args.code.now in
    let none : is_among code (pinned_codes s.pinned) ≡ false = sym c.get.ensures.found ∙ ap is_some c.in_default.is in
    let there : is_among code (codes_of vec_bytes s.recent.entries) ≡ true = sym (got_found vec_bytes code s.recent.entries c.get-2.result (rw c.bytes.ensures at c.get-2.ensures.value)) ∙ ap is_some c.in-Some-get.is in
    recent_held (held s) code none there

pub returns-in_ok-try_clone-in-Some-get-clause-right : goal.returns-in_ok-try_clone-in-Some-get-clause-right
returns-in_ok-try_clone-in-Some-get-clause-right c =
    let s = c.args.self.now in
    let code = code_bytes c.args.code.now in
    let was : IsModuleOf code (arc_value c.in-Some-get.found.now) = found_is_right vec_bytes code s.recent.entries c.in-Some-get.found.now s.recent_right (sym (rw c.bytes.ensures at c.in-Some-get.ensures.value)) in
    rw c.in_ok-try_clone-in-Some-get.ensures was

pub returns-in_ok-try_clone-in-Some-get-clause-cache : goal.returns-in_ok-try_clone-in-Some-get-clause-cache
returns-in_ok-try_clone-in-Some-get-clause-cache c =
    let s = c.args.self.now in
    let code = code_bytes c.args.code.now in
    let none : is_among code (pinned_codes s.pinned) ≡ false = sym c.get.ensures.found ∙ ap is_some c.in_default.is in
    promoted_look (pinned_codes s.pinned) s.recent c.get-2.follows.lender-at-none code none c.codes_differ.ensures.recent (rw c.bytes.ensures at c.get-2.follows.holds-at-none)

pub returns-in-None-clause-answer : goal.returns-in-None-clause-answer
returns-in-None-clause-answer c =
    let s = c.args.self.now in
    let code = code_bytes c.args.code.now in
    let none : is_among code (pinned_codes s.pinned) ≡ false = sym c.get.ensures.found ∙ ap is_some c.in_default.is in
    let there : is_among code (codes_of vec_bytes s.recent.entries) ≡ false = sym (got_found vec_bytes code s.recent.entries c.get-2.result (rw c.bytes.ensures at c.get-2.ensures.value)) ∙ ap is_some c.in-None.is in
    none_held (held s) code none there

pub returns-in-None-clause-cache : goal.returns-in-None-clause-cache
returns-in-None-clause-cache c =
    let s = c.args.self.now in
    let code = code_bytes c.args.code.now in
    let none : is_among code (pinned_codes s.pinned) ≡ false = sym c.get.ensures.found ∙ ap is_some c.in_default.is in
    promoted_look (pinned_codes s.pinned) s.recent c.get-2.follows.lender-at-none code none c.codes_differ.ensures.recent (rw c.bytes.ensures at c.get-2.follows.holds-at-none)
