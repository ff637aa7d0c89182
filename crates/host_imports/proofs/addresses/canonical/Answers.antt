use Rattle.std.proofs.Common.{Some, None}
use Rattle.host_imports.proofs.Addressed.{not_utf8, read_as}
use Rattle.host_imports.proofs.addresses.canonical.Goals as goal

pub returns-in-Err-clause-reads : goal.returns-in-Err-clause-reads
returns-in-Err-clause-reads c = not_utf8 c.args.prefix.now c.args.text.now c.in-Err.ensures.cases.0

pub returns-in-Ok-decode-clause-reads : goal.returns-in-Ok-decode-clause-reads
returns-in-Ok-decode-clause-reads c =
    let utf8 = c.in-Ok.ensures.cases in
    read_as c.args.prefix.now c.args.text.now c.in-Ok.text.now (Some c.in-Ok-decode.bytes.items) utf8.0 utf8.1 c.in-Ok-decode.ensures.address

pub returns-in-Err-Bad-clause-reads : goal.returns-in-Err-Bad-clause-reads
returns-in-Err-Bad-clause-reads c =
    let utf8 = c.in-Ok.ensures.cases in
    read_as c.args.prefix.now c.args.text.now c.in-Ok.text.now None utf8.0 utf8.1 (rw c.in-Err-Bad.field-0-is at c.in-Err-Bad.ensures.address)
