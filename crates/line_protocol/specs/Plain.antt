-- The plain forms of what a line says and of what a query is answered.
use Rattle.line_protocol.specs.declared.line.Line as line_type
use Rattle.line_protocol.specs.declared.line.Line.TheVariants as lines
use Rattle.line_protocol.specs.declared.line.Question as question_type
use Rattle.line_protocol.specs.declared.reply.QueryResult as result_type
use Rattle.line_protocol.specs.declared.reply.QueryResult.TheVariants as results
use Rattle.line_protocol.specs.declared.reply.QueryReply as reply_type
use Rattle.chain_msgs.specs.Plain.{genesis_view, block_view, answer_view}
use Rattle.line_protocol.specs.Texts.{QueryResult, answer, out_of_gas, not_yet, pruned, QueryReply}
use Rattle.line_protocol.specs.Parts.{Question, Line, empty_line, genesis_line, block_line, query_line}

abbrev pub question_view : question_type.Question → Question
question_view q = record { line = q.line; client = q.client; height = q.height; request = q.request.items }

abbrev pub line_view : line_type.Line → Line
line_view lines.Empty = empty_line
line_view (lines.Genesis g) = genesis_line (genesis_view g)
line_view (lines.Block b) = block_line (block_view b)
line_view (lines.Query q) = query_line (question_view q)

abbrev pub query_result_view : result_type.QueryResult → QueryResult
query_result_view (results.Answer a) = answer (answer_view a)
query_result_view results.OutOfGas = out_of_gas
query_result_view (results.NotYet newest) = not_yet newest
query_result_view (results.Pruned oldest newest) = pruned oldest newest

abbrev pub reply_view : reply_type.QueryReply → QueryReply
reply_view r = record { line = r.line; client = r.client; n = r.n; height = r.height; gas = r.gas; result = query_result_view r.result }
