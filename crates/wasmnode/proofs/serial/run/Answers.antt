use Rattle.std.proofs.Common.{◌∙◌, sym, subst}
use Rattle.outside_io.specs.Pieces.{AppendsFront}
use Rattle.wasmnode.specs.Halts.{Halts}
use Rattle.wasmnode.specs.History.{begun}
use Rattle.wasmnode.proofs.Halting.{first_front, goes_first}
use Rattle.wasmnode.proofs.Stopping.{ok_so, err_so, err_is}
use Rattle.wasmnode.proofs.serial.run.Goals as goal

pub answer_lines-requires-clause-stands : goal.answer_lines-requires-clause-stands
answer_lines-requires-clause-stands g c =
    let opened = c.in_ok-start.ensures.opens in
    (c.args.keep, begun opened.0, opened.1.stands)

pub returns-clause-answered : goal.returns-clause-answered
returns-clause-answered g c =
    let opened = c.in_ok-start.ensures.opens in
    let o = opened.0 in
    let goes = goes_first c.args.keep _ _ _ _ _ _ o c.deref.result.now opened.1.stands opened.2 (c.deref.ensures.value ∙ opened.1.text) c.in_ok-write_line.ensures.ok in
    ok_so c.answer_lines.result (λ each. each c.args.keep (g.S.Source.left c.args.source.now) (g.K.Sink.written c.args.sink.now) o goes) c.answer_lines.ensures.answered

pub returns-clause-halts : goal.returns-clause-halts
returns-clause-halts g c =
    let opened = c.in_ok-start.ensures.opens in
    let o = opened.0 in
    let goes = goes_first c.args.keep _ _ _ _ _ _ o c.deref.result.now opened.1.stands opened.2 (c.deref.ensures.value ∙ opened.1.text) c.in_ok-write_line.ensures.ok in
    err_so c.answer_lines.result (λ stop each. each c.args.keep (g.S.Source.left c.args.source.now) (g.K.Sink.written c.args.sink.now) o goes) c.answer_lines.ensures.halts

pub returns-in_err-start-clause-halts : goal.returns-in_err-start-clause-halts
returns-in_err-start-clause-halts g c =
    err_is _ c.from_residual-in_err-start.result c.in_err-start.field-0.0 c.from_residual-in_err-start.ensures.1 (c.in_err-start.ensures.halts (g.K.Sink.written c.args.sink.now))

pub returns-in_err-write_line-clause-halts : goal.returns-in_err-write_line-clause-halts
returns-in_err-write_line-clause-halts g c =
    let opened = c.in_ok-start.ensures.opens in
    let o = opened.0 in
    let before = g.S.Source.left c.args.source.now in
    let left = g.S.Source.left c.open_chain.new.source in
    let old = g.K.Sink.written c.args.sink.now in
    let new = g.K.Sink.written c.write_line.new.sink in
    let told = c.in_err-write_line.ensures in
    let front = subst (AppendsFront old new) (c.deref.ensures.value ∙ opened.1.text) told.front in
    err_is _ c.from_residual-in_err-write_line.result c.in_err-write_line.field-0.0 c.from_residual-in_err-write_line.ensures.1
    (subst (Halts c.args.keep before left old new) (sym told.err) (first_front c.args.keep o before left c.open_chain.new.lines old new opened.2 c.in_ok-start.ensures.end front))
