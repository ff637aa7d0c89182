use Rattle.wasm_types.specs.Plain.{plain_module}
use Rattle.gatekeeper.specs.CodeBytes.{code_bytes}
use Rattle.module_file.proofs.FileLaws.{none_decoded, same_decoded, other_decoded}
use Rattle.module_file.proofs.loading.load_decoded.Goals as goal

pub is_file_of-requires : goal.is_file_of-requires
is_file_of-requires c = (code_bytes c.args.code.now, (rw c.bytes.ensures at c.in-Ok.ensures.found))

pub returns-in-Err-Fault : goal.returns-in-Err-Fault
returns-in-Err-Fault c =
    none_decoded c.bytes_spell_or_break.ensures.spelled c.args.bytes.now (code_bytes c.args.code.now) c.is_accepted.ensures.bytes
    (λ m spelled. let is = c.in-Err-Fault.field-0-is in let stop = (rw c.bytes.ensures at c.in-Err-Fault.ensures.spelled) m spelled in absurd cc)

pub returns-then-same : goal.returns-then-same
returns-then-same c =
    same_decoded c.bytes_spell_or_break.ensures.spelled c.args.bytes.now (code_bytes c.args.code.now) c.is_accepted.ensures.bytes
    (plain_module c.in-Ok.decoded) c.in_ok-same.same (rw c.bytes.ensures at c.in-Ok.ensures.found) c.in_ok-same.ensures c.if-same.true

pub returns-else-same : goal.returns-else-same
returns-else-same c =
    other_decoded c.bytes_spell_or_break.ensures.spelled c.args.bytes.now (code_bytes c.args.code.now) c.is_accepted.ensures.bytes
    (plain_module c.in-Ok.decoded) c.in_ok-same.same (rw c.bytes.ensures at c.in-Ok.ensures.found) c.in_ok-same.ensures c.if-same.false
