-- Not for readers of contracts: it serves the proofs of this crate alone.
-- What the code's contexts, open blocks and their labels are in the definitions.
use Rattle.std.specs.Prelude.{◌++◌, map}
use Rattle.wasm_types.specs.Plain.{plain_func_type}
use Rattle.wasm_types.specs.Typing as typing
use Rattle.wasm_valid.specs.declared.context.GlobalType.{GlobalType}
use Rattle.wasm_valid.specs.declared.context.Context.{Context}

abbrev pub plain_global : GlobalType → typing.GlobalType
plain_global g = record { ty = g.ty; mutable = g.mutable }

abbrev pub plain_context : Context → typing.Context
plain_context c = record {
  types = map plain_func_type c.types.now;
  funcs = c.funcs.now;
  tables = c.tables;
  memories = c.memories;
  globals = map plain_global c.globals.now;
  locals = c.params.now ++ c.locals.now;
  result = c.result;
  targets = c.targets.now;
}
