use Rattle.std.proofs.Common.{◌≡◌, ◌+◌, ◌++◌, map, drop}
use Rattle.wasm_types.specs.Plain.{plain_export}
use Rattle.wasm_writer.specs.Samples.{exported}
use Rattle.wasm_writer.proofs.parts.exports.Given as goal

abbrev pub invariant-loop-name : goal.invariant-loop-name
invariant-loop-name l = record {
  func : l.func ≡ l.first + l.name-index;
  all : map plain_export l.all.items ++ exported l.func (map (λ n. n.now) (drop l.name-index l.names)) ≡ exported l.first (map (λ n. n.now) l.names);
}
