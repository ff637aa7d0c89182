use Rattle.std.proofs.Common.{arith}
use Rattle.wasm_types.specs.Plain.{plain_module}
use Rattle.wasm_types.specs.ModuleText.{IsModule}
use Rattle.gatekeeper.specs.CodeBytes.{code_bytes}
use Rattle.module_file.proofs.FileLaws.{none_unread, none_unspelled, some_loaded}
use Rattle.module_file.proofs.loading.load_read.Goals as goal

pub returns-in-Err-Unreadable : goal.returns-in-Err-Unreadable
returns-in-Err-Unreadable c =
    none_unread c.spelled_are_bounded.ensures c.bytes_spell_or_break.ensures.spelled c.args.bytes.now (code_bytes c.args.code.now) c.is_accepted.ensures.bytes (rw c.in-Err-Unreadable.field-0-is at c.in-Err-Unreadable.ensures)

pub returns-then-same : goal.returns-then-same
returns-then-same c =
    let spelled : IsModule (code_bytes c.args.code.now) (plain_module c.in-Ok.found) = (rw c.bytes.ensures at c.in_ok-same.ensures).0 c.if-same.true in
    some_loaded c.spelled_are_bounded.ensures c.bytes_spell_or_break.ensures.spelled c.args.bytes.now (code_bytes c.args.code.now) c.is_accepted.ensures.bytes (plain_module c.in-Ok.found) (λ i. omega (arith, c.type_inv.bytes i)) c.in-Ok.ensures spelled

pub returns-else-same : goal.returns-else-same
returns-else-same c =
    none_unspelled c.spelled_are_bounded.ensures c.bytes_spell_or_break.ensures.spelled c.args.bytes.now (code_bytes c.args.code.now) c.is_accepted.ensures.bytes (plain_module c.in-Ok.found) c.in-Ok.ensures
    (λ spelled. let found = (rw c.bytes.ensures at c.in_ok-same.ensures).1 spelled in absurd cc)
