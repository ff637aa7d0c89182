use Rattle.chain_records.specs.Records.{plain_contract}
use Rattle.query_router.proofs.Whole.{text_of_whole, contract_whole}
use Rattle.query_router.proofs.contracts.contract_answer.Goals as goal

pub returns : goal.returns
returns c = text_of_whole c.written.result _ _ c.written.ensures c.in_ok-value.ensures (contract_whole c.args.prefix.now (plain_contract c.args.contract.now) c.args.pinned)
