use Rattle.std.proofs.Common.{arith}
use Rattle.wasm_writer.proofs.Numbers.{on_ok, unsigned_more}
use Rattle.wasm_writer.proofs.number.+put_unsigned_in.Goals as goal

pub returns : goal.returns
returns t c =
    on_ok c.put_unsigned_in.result (unsigned_more c.args.out.now.items c.push-2.new.self.items c.put_unsigned_in.new.out.items c.args.most c.args.n (omega arith) (omega arith) c.in_ok-push-2.ensures.items) c.put_unsigned_in.ensures
