use Rattle.wasm_writer.proofs.number.+put_signed_in.Given as goal

abbrev pub decreases-put_signed_in : goal.decreases-put_signed_in
decreases-put_signed_in l = l.left
