use Rattle.std.proofs.Common.{sym, ◌∙◌}
use Rattle.host_imports.proofs.Asking.{may_not_write, may_write_so}
use Rattle.host_imports.proofs.storage.check_write.Goals as goal

pub returns-then-is_read_only : goal.returns-then-is_read_only
returns-then-is_read_only c = λ machine left. may_not_write _ (sym c.is_read_only.ensures ∙ c.if-is_read_only.true)

pub returns : goal.returns
returns c = λ machine left. may_write_so _ (sym c.is_read_only.ensures ∙ c.if-is_read_only.false)
