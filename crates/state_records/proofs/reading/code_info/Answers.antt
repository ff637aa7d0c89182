use Rattle.std.proofs.Common.{◌∙◌}
use Rattle.std.specs.Option.{option_map}
use Rattle.chain_records.specs.Records.{plain_code_info, plain_stored}
use Rattle.state_records.specs.Records.{info_at}
use Rattle.state_records.proofs.Found.{info_entry, info_is}
use Rattle.state_records.proofs.reading.code_info.Goals as goal

pub code_info_in-requires : goal.code_info_in-requires
code_info_in-requires g c =
    let t = c.requires in
    (info_at t.state c.args.id, c.in_ok-found.ensures t.map t.state t.stands t.spelled ∙ info_entry t.state c.args.id)

pub returns : goal.returns
returns g c = λ m s stands spelled.
    info_is s c.args.id (option_map plain_code_info c.code_info_in.result) (option_map plain_stored c.in_ok-found.found) (c.in_ok-found.ensures m s stands spelled) c.code_info_in.ensures
