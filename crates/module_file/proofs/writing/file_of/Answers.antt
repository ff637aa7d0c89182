use Rattle.wasm_types.specs.Plain.{plain_module}
use Rattle.module_file.proofs.writing.file_of.Goals as goal

pub put_lists-requires : goal.put_lists-requires
put_lists-requires c = c.spelled_are_bounded.ensures (plain_module c.args.wanted.now) c.requires
