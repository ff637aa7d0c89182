use Rattle.wasm_writer.proofs.number.+put_unsigned_in.Given as goal

abbrev pub decreases-put_unsigned_in : goal.decreases-put_unsigned_in
decreases-put_unsigned_in l = l.most
