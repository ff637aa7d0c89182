use Rattle.std.proofs.Common.{◌∙◌, bytes_eq}
use Rattle.chain_records.specs.Records.{bytes_view}
use Rattle.contract_admin.proofs.Refused.{any_shown}
use Rattle.contract_admin.proofs.instantiation.is_among.Goals as goal

pub returns : goal.returns
returns c = c.any_same.ensures ∙ any_shown bytes_view (bytes_eq c.args.sender.now) c.args.addresses.now
