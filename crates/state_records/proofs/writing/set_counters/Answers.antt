use Rattle.std.proofs.lemmas.Result.{on_ok_weaker}
use Rattle.state_records.specs.Records.{with_counters}
use Rattle.state_records.proofs.Changing.{only_counters}
use Rattle.state_records.proofs.writing.set_counters.Goals as goal

pub returns-clause-ok : goal.returns-clause-ok
returns-clause-ok g c = on_ok_weaker c.set_record.result (λ puts maps s stands spelled. puts maps s (with_counters s c.args.counters) stands spelled (only_counters s c.args.counters)) c.set_record.ensures.ok
