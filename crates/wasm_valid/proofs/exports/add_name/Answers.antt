use Rattle.wasm_valid.proofs.Named.{put_name}
use Rattle.wasm_valid.proofs.exports.add_name.Goals as goal

pub returns-clause-has : goal.returns-clause-has
returns-clause-has c = λ x. put_name c.args.name.now c.args.names.now c.insert.new.self c.in_ok-added.ensures.updates x
