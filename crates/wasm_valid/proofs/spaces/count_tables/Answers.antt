use Rattle.std.proofs.Common.{arith}
use Rattle.wasm_types.specs.Validity.{table_in}
use Rattle.wasm_valid.proofs.Importing.{next_count}
use Rattle.wasm_valid.proofs.spaces.count_tables.Goals as goal

pub loop-import-preserved : goal.loop-import-preserved
loop-import-preserved c =
    let more = next_count table_in c.args.imports.now c.loop-import.import-index c.import-item.result c.loop-import-test.true c.import-item.is in
    record {
      bounded = omega (arith, c.loop-import.invariant.bounded, c.tables_in-count.ensures.most);
      count = omega (arith, more, c.loop-import.invariant.count, c.tables_in-count.ensures.count);
    }
