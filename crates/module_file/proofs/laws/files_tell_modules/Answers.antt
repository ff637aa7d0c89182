use Rattle.module_file.proofs.FileLaws.{reads_written, reads_only_written, tells_modules}
use Rattle.module_file.proofs.laws.files_tell_modules.Goals as goal

pub returns : goal.returns
returns c = record { written = reads_written c.spelled_are_bounded.ensures; only = reads_only_written; two = tells_modules c.spelled_are_bounded.ensures }
