use Rattle.std.proofs.Common.{[], Err, ap, arith}
use Rattle.wasmnode.specs.Halts.{stop_of_line}
use Rattle.wasmnode.specs.History.{begun}
use Rattle.wasmnode.specs.Playing.{after}
use Rattle.wasmnode.proofs.Halting.{HandedOut, handed_out, goes_next, goes_done, line_halts, answer_halts}
use Rattle.wasmnode.proofs.Starting.{follows_stands}
use Rattle.wasmnode.proofs.Stopping.{err_is}
use Rattle.wasmnode.proofs.serial.answer_lines.Goals as goal

pub loop-line-init : goal.loop-line-init
loop-line-init g c = record {
  end = search;
  counted = search;
  low = search;
  stands = search;
  goes = λ keep input written o goes. ([], goes);
  reads = omega arith;
  writes = omega arith;
}

pub loop-line-preserved : goal.loop-line-preserved
loop-line-preserved g c =
    let inv = c.loop-line.invariant in
    let lines = c.loop-line.lines in
    let then = c.next.new.self in
    let line = c.in-Some.line in
    let left = g.S.Source.left c.loop-line.source in
    let more = g.S.Source.left c.next.new.source in
    let numbered = rw c.in-Some.is at c.in_ok-line.ensures.numbered in
    let counts = rw c.in-Some.is at c.in_ok-line.ensures.counts in
    let out : HandedOut lines then left more line =
    handed_out lines then left more line numbered counts (rw c.in-Some.is at c.in_ok-line.ensures.within) (rw c.in-Some.is at c.in_ok-line.ensures.line) (rw c.in-Some.is at c.in_ok-line.ensures.ended) inv.end c.in_ok-line.ensures.end in
    let answer = c.in_ok-answer_line.ensures in
    let chain = c.loop-line.chain in
    let next = c.answer_line.new.chain in
    let mid = g.K.Sink.written c.loop-line.sink in
    let new = g.K.Sink.written c.answer_line.new.sink in
    let first = inv.stands in
    record {
      end = c.in_ok-line.ensures.end;
      counted = (omega (arith, numbered.0, numbered.1, counts.0, inv.counted.0), counts.1);
      low = omega (arith, numbered.0, numbered.1, answer.low, inv.low);
      stands = follows_stands first.0 first.1 _ next mid new (answer.answered first.0 first.1 first.2);
      goes = λ keep input written o before.
          let now = inv.goes keep input written o before in
          goes_next keep chain next lines then input left more written mid new o now.0 line now.1 out (answer.answered keep (after (begun o) now.0) now.1.stands);
      reads = omega (arith, inv.reads, c.in_ok-line.ensures.counted);
      writes = omega (arith, inv.writes, answer.writes);
    }

pub returns-clause-answered : goal.returns-clause-answered
returns-clause-answered g c = λ keep input written o before.
    let lines = c.loop-line.lines in
    let end = rw c.in_default.is at c.in_ok-line.ensures.none in
    let now = c.loop-line.invariant.goes keep input written o before in
    goes_done keep c.loop-line.chain lines input (g.S.Source.left c.loop-line.source) written (g.K.Sink.written c.loop-line.sink) o now.0 now.1 end

pub returns-in_err-line-clause-halts : goal.returns-in_err-line-clause-halts
returns-in_err-line-clause-halts g c =
    let inv = c.loop-line.invariant in
    let lines = c.loop-line.lines in
    let stop = c.in_err-line.field-0.0 in
    let told = c.in_err-line.ensures in
    err_is _ c.from_residual.result (stop_of_line stop) c.from_residual.ensures.1
    (λ keep input written o before.
    let now = inv.goes keep input written o before in
    line_halts keep c.loop-line.chain lines input (g.S.Source.left c.loop-line.source) (g.S.Source.left c.next.new.source) written (g.K.Sink.written c.loop-line.sink) o now.0 stop now.1 inv.end told.bad told.known
    (λ is. told.open (ap (λ s. Err s) is)) (λ is. told.unfed (ap (λ s. Err s) is)))

pub returns-in_err-answer_line-clause-halts : goal.returns-in_err-answer_line-clause-halts
returns-in_err-answer_line-clause-halts g c =
    let inv = c.loop-line.invariant in
    let lines = c.loop-line.lines in
    let then = c.next.new.self in
    let line = c.in-Some.line in
    let left = g.S.Source.left c.loop-line.source in
    let more = g.S.Source.left c.next.new.source in
    let numbered = rw c.in-Some.is at c.in_ok-line.ensures.numbered in
    let counts = rw c.in-Some.is at c.in_ok-line.ensures.counts in
    let out : HandedOut lines then left more line =
    handed_out lines then left more line numbered counts (rw c.in-Some.is at c.in_ok-line.ensures.within) (rw c.in-Some.is at c.in_ok-line.ensures.line) (rw c.in-Some.is at c.in_ok-line.ensures.ended) inv.end c.in_ok-line.ensures.end in
    let stop = c.in_err-answer_line.field-0.0 in
    err_is _ c.from_residual-in_err-answer_line.result stop c.from_residual-in_err-answer_line.ensures.1
    (λ keep input written o before.
    let now = inv.goes keep input written o before in
    answer_halts keep c.loop-line.chain lines then input left more written (g.K.Sink.written c.loop-line.sink) (g.K.Sink.written c.answer_line.new.sink) o now.0 line stop now.1 out
    (c.in_err-answer_line.ensures.breaks keep (after (begun o) now.0) now.1.stands))
