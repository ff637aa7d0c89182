use Rattle.std.proofs.Common.{List, ℕ, Some, ◌≡◌, subst, sym}
use Rattle.wasm_types.specs.Plain.{plain_module}
use Rattle.wasm_types.specs.ModuleText.{module_of}
use Rattle.wasm_writer.specs.Shortest.{IsShortest}
use Rattle.wasm_writer.proofs.LeastModule.{spells_shortest, reads_again}
use Rattle.wasm_writer.proofs.writing.write.Goals as goal

pub returns-clause-shortest : goal.returns-clause-shortest
returns-clause-shortest c =
    let m = plain_module c.args.wanted.now in
    subst (λ (bytes : List ℕ). IsShortest bytes m) (sym c.in_ok-bytes.ensures) (spells_shortest m c.requires)

pub returns-clause-again : goal.returns-clause-again
returns-clause-again c =
    let m = plain_module c.args.wanted.now in
    subst (λ (bytes : List ℕ). module_of bytes ≡ Some m) (sym c.in_ok-bytes.ensures) (reads_again m c.requires)
