use Rattle.std.proofs.Common.{sym, ◌∙◌}
use Rattle.file_tests.proofs.laws.files_are_of_one_module.Goals as goal

pub returns : goal.returns
returns c bytes one other m n are are_too h k =
    let spelled = c.bytes_spell_or_break.ensures.spelled in
    c.files_tell_modules.ensures.two m n (one, (spelled one m are).0 h.spelled) (other, (spelled other n are_too).0 k.spelled) (sym h.same ∙ k.same)
