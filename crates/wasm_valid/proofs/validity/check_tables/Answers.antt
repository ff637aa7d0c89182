use Rattle.std.proofs.Common.{sym, arith}
use Rattle.wasm_types.specs.Plain.{plain_module}
use Rattle.wasm_types.specs.Validity.{imported, table_in}
use Rattle.wasm_valid.proofs.validity.check_tables.Goals as goal

pub check_limits-requires-clause-imported : goal.check_limits-requires-clause-imported
check_limits-requires-clause-imported c = omega (arith, c.requires.shaped.imports, c.requires.spaces.few_tables)

pub returns : goal.returns
returns c = rw c.deref.ensures.value at c.check_limits.ensures (imported table_in (plain_module c.args.m.now).imports) (sym c.requires.spaces.imported_tables)
