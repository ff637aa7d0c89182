use Rattle.std.proofs.Common.{◌≡◌, true, false, sym, ◌∙◌}
use Rattle.gatekeeper.specs.CodeBytes.{code_bytes}
use Rattle.gatekeeper.specs.Cache.{is_among}
use Rattle.module_cache.specs.Right.{codes_of, vec_bytes}
use Rattle.module_cache.specs.Held.{held}
use Rattle.module_cache.specs.Pinned.{pinned_codes}
use Rattle.module_cache.proofs.Lists.{is_some-lookup}
use Rattle.module_cache.proofs.Kept.{promoted_right, promoted_look, recent_held, none_held}
use Rattle.module_cache.proofs.state.CacheState.look.Goals as goal

pub invariant_of-self : goal.invariant_of-self
invariant_of-self c =
    let s = c.args.self.now in
    record { recent_right = promoted_right s.recent c.promote.new.self c.bytes.result.now c.promote.ensures.entries s.recent_right }

pub returns-then-promote-clause-answer : goal.returns-then-promote-clause-answer
returns-then-promote-clause-answer c =
    let s = c.args.self.now in
    let code = code_bytes c.args.code.now in
    let none : is_among code (pinned_codes s.pinned) ≡ false = sym c.get.ensures.found ∙ sym c.is_some.ensures ∙ c.if-is_some.false in
    let there : is_among code (codes_of vec_bytes s.recent.entries) ≡ true = sym (is_some-lookup vec_bytes code s.recent.entries) ∙ sym (rw c.bytes.ensures at c.promote.ensures.value) ∙ c.if-promote.true in
    recent_held (held s) code none there

pub returns-then-promote-clause-cache : goal.returns-then-promote-clause-cache
returns-then-promote-clause-cache c =
    let s = c.args.self.now in
    let code = code_bytes c.args.code.now in
    let none : is_among code (pinned_codes s.pinned) ≡ false = sym c.get.ensures.found ∙ sym c.is_some.ensures ∙ c.if-is_some.false in
    promoted_look (pinned_codes s.pinned) s.recent c.promote.new.self code none c.codes_differ.ensures.recent (rw c.bytes.ensures at c.promote.ensures.entries)

pub returns-else-promote-clause-answer : goal.returns-else-promote-clause-answer
returns-else-promote-clause-answer c =
    let s = c.args.self.now in
    let code = code_bytes c.args.code.now in
    let none : is_among code (pinned_codes s.pinned) ≡ false = sym c.get.ensures.found ∙ sym c.is_some.ensures ∙ c.if-is_some.false in
    let there : is_among code (codes_of vec_bytes s.recent.entries) ≡ false = sym (is_some-lookup vec_bytes code s.recent.entries) ∙ sym (rw c.bytes.ensures at c.promote.ensures.value) ∙ c.if-promote.false in
    none_held (held s) code none there

pub returns-else-promote-clause-cache : goal.returns-else-promote-clause-cache
returns-else-promote-clause-cache c =
    let s = c.args.self.now in
    let code = code_bytes c.args.code.now in
    let none : is_among code (pinned_codes s.pinned) ≡ false = sym c.get.ensures.found ∙ sym c.is_some.ensures ∙ c.if-is_some.false in
    promoted_look (pinned_codes s.pinned) s.recent c.promote.new.self code none c.codes_differ.ensures.recent (rw c.bytes.ensures at c.promote.ensures.entries)
