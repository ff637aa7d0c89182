use Rattle.wasm_machine.specs.Machine.{plain_of}
use Rattle.wasm_machine.proofs.Asks.{ask_is_import}
use Rattle.wasm_machine.proofs.laws.asks_name_imports.Goals as goal

pub returns : goal.returns
returns c = record {
  «module» = λ m acts i args e. ask_is_import m acts i args e;
  machine = λ k acts i args e. ask_is_import (plain_of k) acts i args e;
}
