use Rattle.chain_records.specs.Records.{plain_code_info}
use Rattle.query_router.proofs.Whole.{text_of_whole, code_whole}
use Rattle.query_router.proofs.codes.code_answer.Goals as goal

pub returns : goal.returns
returns c = text_of_whole c.written.result _ _ c.written.ensures c.in_ok-value.ensures (code_whole c.args.prefix.now c.args.id (plain_code_info c.args.known.now))
