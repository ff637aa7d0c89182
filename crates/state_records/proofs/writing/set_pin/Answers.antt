use Rattle.std.proofs.lemmas.Result.{on_ok_weaker}
use Rattle.state_records.specs.Records.{with_pin}
use Rattle.state_records.proofs.Changing.{only_pin}
use Rattle.state_records.proofs.writing.set_pin.Goals as goal

pub returns-clause-ok : goal.returns-clause-ok
returns-clause-ok g c = on_ok_weaker c.set_record.result (λ puts maps s stands spelled. puts maps s (with_pin s c.args.id) stands spelled (only_pin s c.args.id)) c.set_record.ensures.ok
