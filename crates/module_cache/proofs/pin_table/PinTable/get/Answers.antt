use Rattle.gatekeeper.specs.CodeBytes.{code_bytes}
use Rattle.module_cache.proofs.Pins.{got_found, got_right}
use Rattle.module_cache.proofs.pin_table.PinTable.get.Goals as goal

pub returns-clause-found : goal.returns-clause-found
returns-clause-found c =
    got_found code_bytes (code_bytes c.args.code.now) c.args.self.now.list.items c.find.result (rw c.deref.ensures.value at c.find.ensures)

pub returns-clause-right : goal.returns-clause-right
returns-clause-right c =
    got_right code_bytes (code_bytes c.args.code.now) c.args.self.now.list.items c.find.result (rw c.deref.ensures.value at c.find.ensures) c.args.self.now.right
