use Rattle.host_imports.proofs.Named.{asked_so, not_asked, import_read, import_past}
use Rattle.host_imports.proofs.request.asked.Goals as goal

pub returns-in-Some : goal.returns-in-Some
returns-in-Some c =
    let h = c.in-Some.ensures.lookup in
    let read = import_read c.args.m.now c.deref.result.now c.args.import c.in-Some.import.now c.deref.ensures.value h.3.0 h.1 in
    asked_so c.args.m.now c.args.import c.args.args.now c.in-Some.import.now c.request_of.result read (rw c.deref-in-Some.ensures at c.request_of.ensures)

pub returns-in-None : goal.returns-in-None
returns-in-None c = not_asked c.args.m.now c.args.import c.args.args.now (import_past c.args.m.now c.deref.result.now c.args.import c.deref.ensures.value c.in-None.ensures.lookup.3)
