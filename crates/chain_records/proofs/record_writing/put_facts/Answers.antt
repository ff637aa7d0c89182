use Rattle.chain_records.specs.Records.{plain_facts}
use Rattle.chain_records.proofs.RecordPuts.{facts_put}
use Rattle.chain_records.proofs.record_writing.put_facts.Goals as goal

pub returns : goal.returns
returns c =
    facts_put (plain_facts c.args.facts.now) _ _ _ _ _ _ _ _ c.in_ok-put.ensures c.in_ok-put-2.ensures c.in_ok-put_optional.ensures (rw c.deref.ensures.value at c.in_ok-put_list.ensures) c.in_ok-put_number.ensures c.in_ok-put_number-2.ensures c.in_ok-put_number-3.ensures
