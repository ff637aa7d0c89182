use Rattle.std.proofs.Common.{◌%◌, ◌∙◌, ap}
use Rattle.std.specs.List.{fold}
use Rattle.chain_addr.specs.Checksum.{step}
use Rattle.chain_addr.specs.Reading.{lower}
use Rattle.chain_addr.proofs.Joining.{remainder_of_text}
use Rattle.chain_addr.proofs.read.remainder_of.Goals as goal

pub returns : goal.returns
returns c =
    let name = c.args.name.now in
    remainder_of_text name c.args.characters.now c.after_high_bits.result c.after_low_bits.result _ c.after_high_bits.ensures
    (c.after_low_bits.ensures ∙ ap (λ s. fold (λ t x. step t (lower x % 32)) s name) c.step-state.ensures) c.after_characters.ensures
