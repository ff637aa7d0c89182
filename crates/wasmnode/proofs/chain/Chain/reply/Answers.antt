use Rattle.std.proofs.Common.{sym}
use Rattle.line_protocol.specs.Plain.{question_view, query_result_view}
use Rattle.wasmnode.proofs.Replies.{replied}
use Rattle.wasmnode.proofs.chain.Chain.reply.Goals as goal

pub returns : goal.returns
returns c = λ keep h stands.
    let q = question_view c.args.question.now in
    let is = c.in_ok-gas.ensures keep h stands q (sym c.deref.ensures.value) in
    replied keep h q c.args.self.now.height c.unwrap_or-height.result c.in_ok-gas.gas (query_result_view c.in_ok-gas.result) stands.height c.unwrap_or-height.ensures is
