use Rattle.std.proofs.Common.{sym, ◌∙◌, map}
use Rattle.chain_addr.specs.Reading.{lower}
use Rattle.chain_addr.proofs.Writing.{text_is}
use Rattle.chain_addr.proofs.Recognizing.{is_bech32, all_same}
use Rattle.chain_addr.proofs.laws.texts_have_one_form.Goals as goal

pub returns-clause-lower : goal.returns-clause-lower
returns-clause-lower c = λ prefix text bytes at. text_is prefix bytes (map lower text) (is_bech32 prefix text bytes at)

pub returns-clause-normal : goal.returns-clause-normal
returns-clause-normal c = λ prefix text bytes same at. sym (all_same text same) ∙ text_is prefix bytes (map lower text) (is_bech32 prefix text bytes at)

pub returns-clause-one : goal.returns-clause-one
returns-clause-one c =
    λ prefix text other bytes at there. text_is prefix bytes (map lower text) (is_bech32 prefix text bytes at) ∙ sym (text_is prefix bytes (map lower other) (is_bech32 prefix other bytes there))
