use Rattle.host_imports.proofs.Named.{exported_so, not_exported}
use Rattle.host_imports.proofs.exports.exported_function.Goals as goal

pub returns-in-Some : goal.returns-in-Some
returns-in-Some c = exported_so c.args.m.now c.args.name.now c.in-Some.export.now c.func_of.result (rw (c.deref.ensures.value, c.in-Some.is) at c.export_named.ensures) c.func_of.ensures

pub returns-in-None : goal.returns-in-None
returns-in-None c = not_exported c.args.m.now c.args.name.now (rw (c.deref.ensures.value, c.in-None.is) at c.export_named.ensures)
