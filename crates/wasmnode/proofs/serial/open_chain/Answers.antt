use Rattle.std.proofs.Common.{Err, ap, arith}
use Rattle.wasmnode.specs.Halts.{stop_of_line}
use Rattle.wasmnode.proofs.Halting.{HandedOut, handed_out, first_halts, missing_halts, opening_next, opening_here, opening_halts, passes_fresh}
use Rattle.wasmnode.proofs.Stopping.{err_is}
use Rattle.wasmnode.proofs.serial.open_chain.Goals as goal

pub loop-line-init : goal.loop-line-init
loop-line-init g c =
    let fresh = c.requires.fresh in
    record {
      end = search;
      counted = search;
      numbered = omega (arith, fresh.0);
      passes = passes_fresh c.args.lines.now (g.S.Source.left c.args.source.now) fresh.2 fresh.0 fresh.1;
      faults = omega arith;
    }

pub loop-line-preserved : goal.loop-line-preserved
loop-line-preserved g c =
    let inv = c.loop-line.invariant in
    let lines = c.loop-line.lines in
    let then = c.next.new.self in
    let line = c.in-Some.line in
    let left = g.S.Source.left c.loop-line.source in
    let more = g.S.Source.left c.next.new.source in
    let numbered = rw c.in-Some.is at c.in_ok-line.ensures.numbered in
    let counts = rw c.in-Some.is at c.in_ok-line.ensures.counts in
    let out : HandedOut lines then left more line =
    handed_out lines then left more line numbered counts (rw c.in-Some.is at c.in_ok-line.ensures.within) (rw c.in-Some.is at c.in_ok-line.ensures.line) (rw c.in-Some.is at c.in_ok-line.ensures.ended) inv.end c.in_ok-line.ensures.end in
    let told = rw c.in-Ok-None.field-0-is at c.in-Ok-None.ensures in
    record {
      end = c.in_ok-line.ensures.end;
      counted = (omega (arith, numbered.0, numbered.1, counts.0, inv.counted.0), counts.1);
      numbered = omega (arith, numbered.1);
      passes = opening_next (g.S.Source.left c.args.source.now) left more lines then line inv.passes out told;
      faults = omega (arith, inv.faults, c.in_ok-line.ensures.counted);
    }

pub returns-clause-halts : goal.returns-clause-halts
returns-clause-halts g c = λ w.
    let inv = c.loop-line.invariant in
    let told = c.in_ok-line.ensures in
    missing_halts c.args.keep c.loop-line.number (g.S.Source.left c.args.source.now) (g.S.Source.left c.loop-line.source) (g.S.Source.left c.next.new.source) w c.loop-line.lines inv.passes
    (rw c.in_default.is at told.none) (rw c.in_default.is at told.spent) inv.numbered

pub returns-in_err-line-clause-halts : goal.returns-in_err-line-clause-halts
returns-in_err-line-clause-halts g c =
    let inv = c.loop-line.invariant in
    let stop = c.in_err-line.field-0.0 in
    let told = c.in_err-line.ensures in
    err_is _ c.from_residual.result (stop_of_line stop) c.from_residual.ensures.1
    (λ w. first_halts c.args.keep (g.S.Source.left c.args.source.now) (g.S.Source.left c.loop-line.source) (g.S.Source.left c.next.new.source) w c.loop-line.lines stop inv.passes inv.end told.bad told.known
    (λ is. told.open (ap (λ s. Err s) is)) (λ is. told.unfed (ap (λ s. Err s) is)))

pub returns-in-Ok-Some-clause-opens : goal.returns-in-Ok-Some-clause-opens
returns-in-Ok-Some-clause-opens g c =
    let inv = c.loop-line.invariant in
    let lines = c.loop-line.lines in
    let then = c.next.new.self in
    let line = c.in-Some.line in
    let left = g.S.Source.left c.loop-line.source in
    let more = g.S.Source.left c.next.new.source in
    let numbered = rw c.in-Some.is at c.in_ok-line.ensures.numbered in
    let counts = rw c.in-Some.is at c.in_ok-line.ensures.counts in
    let out : HandedOut lines then left more line =
    handed_out lines then left more line numbered counts (rw c.in-Some.is at c.in_ok-line.ensures.within) (rw c.in-Some.is at c.in_ok-line.ensures.line) (rw c.in-Some.is at c.in_ok-line.ensures.ended) inv.end c.in_ok-line.ensures.end in
    let told = rw c.in-Ok-Some.field-0-is at c.in-Ok-Some.ensures in
    (told.0, told.2, opening_here told.0 (g.S.Source.left c.args.source.now) left more lines then line inv.passes out told.1)

pub returns-in-Err-clause-halts : goal.returns-in-Err-clause-halts
returns-in-Err-clause-halts g c = λ w.
    let inv = c.loop-line.invariant in
    let lines = c.loop-line.lines in
    let then = c.next.new.self in
    let line = c.in-Some.line in
    let left = g.S.Source.left c.loop-line.source in
    let more = g.S.Source.left c.next.new.source in
    let numbered = rw c.in-Some.is at c.in_ok-line.ensures.numbered in
    let counts = rw c.in-Some.is at c.in_ok-line.ensures.counts in
    let out : HandedOut lines then left more line =
    handed_out lines then left more line numbered counts (rw c.in-Some.is at c.in_ok-line.ensures.within) (rw c.in-Some.is at c.in_ok-line.ensures.line) (rw c.in-Some.is at c.in_ok-line.ensures.ended) inv.end c.in_ok-line.ensures.end in
    let stop = c.in-Err.stop in
    rw c.stop_of_parse.ensures (opening_halts c.args.keep (g.S.Source.left c.args.source.now) left more w lines then line stop inv.passes out c.in-Err.ensures)
