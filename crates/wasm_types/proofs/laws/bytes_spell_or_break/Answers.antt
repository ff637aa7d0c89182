use Rattle.wasm_types.proofs.TextLaws.{spells_once, is_the_spelled, breaks_or_spells}
use Rattle.wasm_types.proofs.laws.bytes_spell_or_break.Goals as goal

pub returns : goal.returns
returns c = record { once = spells_once; spelled = is_the_spelled; broken = breaks_or_spells }
