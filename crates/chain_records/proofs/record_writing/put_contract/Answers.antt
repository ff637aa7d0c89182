use Rattle.chain_records.specs.Records.{plain_contract}
use Rattle.chain_records.proofs.RecordPuts.{contract_put}
use Rattle.chain_records.proofs.record_writing.put_contract.Goals as goal

pub returns : goal.returns
returns c =
    contract_put (plain_contract c.args.contract.now) _ _ _ _ _ c.in_ok-put_number.ensures (rw c.deref.ensures.value at c.in_ok-put_bytes.ensures) c.in_ok-put_optional.ensures c.in_ok-put.ensures
