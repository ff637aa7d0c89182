use Rattle.std.proofs.lemmas.Result.{on_ok_weaker}
use Rattle.state_records.specs.Records.{without_pin}
use Rattle.state_records.proofs.Changing.{only_no_pin}
use Rattle.state_records.proofs.writing.remove_pin.Goals as goal

pub returns-clause-ok : goal.returns-clause-ok
returns-clause-ok g c = on_ok_weaker c.remove_record.result (λ puts maps s stands spelled. puts maps s (without_pin s c.args.id) stands spelled (only_no_pin s c.args.id)) c.remove_record.ensures.ok
