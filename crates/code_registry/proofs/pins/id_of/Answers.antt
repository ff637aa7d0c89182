use Rattle.std.proofs.Common.{sym}
use Rattle.chain_records.specs.Keys.{plain_key, pin}
use Rattle.code_registry.proofs.pins.id_of.Goals as goal

pub number_of-requires : goal.number_of-requires
number_of-requires c = (c.requires.0, sym (c.bytes_tell_keys.ensures c.args.place.now (pin c.requires.0) (plain_key c.in-Ok.key) c.requires.1 c.in-Ok.ensures.ok))
