use Rattle.std.proofs.Common.{◌≡◌, ◌∙◌}
use Rattle.std.specs.Arc.{arc_value}
use Rattle.gatekeeper.specs.CodeBytes.{code_bytes}
use Rattle.module_cache.specs.Right.{IsModuleOf, vec_bytes}
use Rattle.module_cache.specs.Pinned.{pinned_codes}
use Rattle.module_cache.proofs.Kept.{put_stows, put_leaves_right, state_is_same}
use Rattle.module_cache.proofs.state.CacheState.stow.Goals as goal

pub invariant_of-self : goal.invariant_of-self
invariant_of-self c =
    let s = c.args.self.now in
    let key : vec_bytes c.in_ok-key.key ≡ code_bytes c.args.code.now = c.in_ok-key.ensures.items ∙ c.bytes.ensures in
    let module_is : IsModuleOf (vec_bytes c.in_ok-key.key) (arc_value c.in_ok-kept.kept) = rw key (rw c.in_ok-kept.ensures c.requires) in
    record { recent_right = put_leaves_right s.recent c.put.new.self c.in_ok-key.key c.in_ok-kept.kept c.put.result c.put.ensures.entries c.put.ensures.err s.recent_right module_is }

pub returns-in_err-put-clause-err : goal.returns-in_err-put-clause-err
returns-in_err-put-clause-err c = state_is_same c.args.self.now c.put.new.self _ c.from_residual-in_err-put.result c.in_err-put.ensures.err

pub returns-clause-ok : goal.returns-clause-ok
returns-clause-ok c =
    let s = c.args.self.now in
    let key : vec_bytes c.in_ok-key.key ≡ code_bytes c.args.code.now = c.in_ok-key.ensures.items ∙ c.bytes.ensures in
    put_stows (pinned_codes s.pinned) s.recent c.put.new.self c.in_ok-key.key c.in_ok-kept.kept (code_bytes c.args.code.now) c.in_ok-put.ensures.entries key c.codes_differ.ensures.some c.codes_differ.ensures.within c.codes_differ.ensures.recent
