use Rattle.wasm_writer.proofs.LeastModule.{spells_shortest, reads_again}
use Rattle.wasm_writer.proofs.laws.spellings_are_shortest.Goals as goal

pub returns : goal.returns
returns c = record { shortest = spells_shortest; again = reads_again }
