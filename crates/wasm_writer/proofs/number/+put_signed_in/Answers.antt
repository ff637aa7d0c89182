use Rattle.std.proofs.Common.{arith}
use Rattle.wasm_writer.proofs.Halves.{high_fits}
use Rattle.wasm_writer.proofs.Numbers.{on_ok, signed_more}
use Rattle.wasm_writer.proofs.number.+put_signed_in.Goals as goal

pub put_signed_in-requires : goal.put_signed_in-requires
put_signed_in-requires t c =
    (omega arith, (omega (arith, c.in-None.ensures.more), (omega arith, high_fits c.args.bits c.args.n c.in-None.ensures.more c.requires.fits)))

pub returns-in_ok-push-in-None : goal.returns-in_ok-push-in-None
returns-in_ok-push-in-None t c =
    on_ok c.put_signed_in.result (signed_more c.args.out.now.items c.push-in-None.new.self.items c.put_signed_in.new.out.items c.args.left c.args.bits c.args.n (omega arith) c.in-None.ensures.value c.in_ok-push-in-None.ensures.items) c.put_signed_in.ensures
