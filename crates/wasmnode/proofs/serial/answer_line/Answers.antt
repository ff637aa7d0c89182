use Rattle.std.proofs.Common.{◌∙◌, sym, subst}
use Rattle.outside_io.specs.Pieces.{AppendsFront}
use Rattle.line_protocol.specs.Forms.{line_of}
use Rattle.wasmnode.specs.Playing.{Breaks}
use Rattle.wasmnode.specs.Reading.{read_as, entry_in}
use Rattle.wasmnode.specs.Said.{entry_view}
use Rattle.wasmnode.proofs.Starting.{follows_entry}
use Rattle.wasmnode.proofs.Stopping.{ok_so, err_so}
use Rattle.wasmnode.proofs.serial.answer_line.Goals as goal

pub returns-in_ok-process-in-Ok-Some-clause-answered : goal.returns-in_ok-process-in-Ok-Some-clause-answered
returns-in_ok-process-in-Ok-Some-clause-answered g c =
    let line = c.args.line.now in
    let entry = entry_view c.in-Ok-Some.entry in
    let said = rw c.in-Ok-Some.field-0-is at c.in-Ok-Some.ensures in
    let does = c.in_ok-process-in-Ok-Some.ensures in
    ok_so c.write_line.result (λ appends keep h stands. follows_entry keep h (read_as entry_in (line_of line.number line.bytes.items)) entry c.process.new.chain c.deref.result.now _ _ said (does.next keep h stands) (c.deref.ensures.value ∙ does.text keep h stands) appends) c.write_line.ensures.ok

pub returns-in_ok-process-in-Ok-Some-clause-breaks : goal.returns-in_ok-process-in-Ok-Some-clause-breaks
returns-in_ok-process-in-Ok-Some-clause-breaks g c =
    let line = c.args.line.now in
    let entry = entry_view c.in-Ok-Some.entry in
    let said = rw c.in-Ok-Some.field-0-is at c.in-Ok-Some.ensures in
    let does = c.in_ok-process-in-Ok-Some.ensures in
    err_so c.write_line.result (λ stop is keep h stands.
    subst (Breaks keep h line.number (read_as entry_in (line_of line.number line.bytes.items)) (g.K.Sink.written c.args.sink.now) (g.K.Sink.written c.write_line.new.sink)) (sym is)
    (entry, said, subst (AppendsFront (g.K.Sink.written c.args.sink.now) (g.K.Sink.written c.write_line.new.sink)) (c.deref.ensures.value ∙ does.text keep h stands) c.write_line.ensures.front)) c.write_line.ensures.err
