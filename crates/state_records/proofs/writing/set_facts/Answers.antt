use Rattle.std.proofs.lemmas.Result.{on_ok_weaker}
use Rattle.chain_records.specs.Records.{plain_facts}
use Rattle.state_records.specs.Records.{with_facts}
use Rattle.state_records.proofs.Changing.{only_facts}
use Rattle.state_records.proofs.writing.set_facts.Goals as goal

pub returns-clause-ok : goal.returns-clause-ok
returns-clause-ok g c = on_ok_weaker c.set_record.result (λ puts maps s stands spelled. puts maps s (with_facts s (plain_facts c.args.facts)) stands spelled (only_facts s (plain_facts c.args.facts))) c.set_record.ensures.ok
