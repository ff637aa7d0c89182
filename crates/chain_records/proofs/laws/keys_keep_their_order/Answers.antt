use Rattle.chain_records.proofs.OrderLaws.{orders_codes, orders_code_infos, orders_pins, orders_kinds}
use Rattle.chain_records.proofs.laws.keys_keep_their_order.Goals as goal

pub returns : goal.returns
returns c = record { codes = orders_codes; code_infos = orders_code_infos; pins = orders_pins; kinds = orders_kinds }
