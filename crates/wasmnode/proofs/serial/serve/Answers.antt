use Rattle.wasmnode.specs.Reading.{Bad}
use Rattle.wasmnode.proofs.Halting.{refuse_ends}
use Rattle.wasmnode.proofs.serial.serve.Goals as goal

pub returns-in-Err-Bad-clause-ends : goal.returns-in-Err-Bad-clause-ends
returns-in-Err-Bad-clause-ends g c =
    let halts = rw c.in-Err-Bad.field-0-is at c.in-Err-Bad.ensures.halts in
    let b : Bad = record { kind = c.in-Err-Bad.kind; line = c.in-Err-Bad.number } in
    refuse_ends c.args.keep (g.S.Source.left c.args.source.now) (g.S.Source.left c.run.new.source) (g.K.Sink.written c.args.sink.now) (g.K.Sink.written c.run.new.sink) (g.K.Sink.written c.refuse.new.sink) b c.refuse.result halts c.refuse.ensures.refuses
