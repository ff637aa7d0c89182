use Rattle.chain_addr.specs.Text.{text_of}
use Rattle.chain_addr.proofs.Writing.{is_text}
use Rattle.chain_addr.proofs.Recognizing.{read_back}
use Rattle.chain_addr.proofs.laws.texts_are_read_back.Goals as goal

pub returns : goal.returns
returns c = λ prefix bytes lawful small some few. read_back prefix bytes (text_of prefix bytes) lawful small some few (is_text prefix bytes small)
