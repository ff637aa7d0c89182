use Rattle.std.proofs.Common.{◌≡◌, ◌++◌, ◌∷◌, [], map, ◌∙◌, ap, string_bytes, arith}
use Rattle.chain_addr.specs.Checksum.{expanded, step}
use Rattle.chain_addr.specs.Letters.{letter_of}
use Rattle.chain_addr.specs.Bech32.{IsBech32}
use Rattle.std.specs.List.{fold}
use Rattle.chain_addr.proofs.Joining.{text_of_parts, remainder_of_parts}
use Rattle.chain_addr.proofs.Writing.{text_is}
use Rattle.chain_addr.proofs.bech32.encode.Goals as goal

pub returns : goal.returns
returns c =
    let prefix = c.args.prefix.now in
    let groups = c.in_ok-groups.groups.items in
    let check = c.closing_values-check.result in
    let begun : c.of_prefix.result ≡ fold step 1 (expanded prefix) = c.of_prefix.ensures ∙ ap (λ p. fold step 1 (expanded p)) c.as_bytes.ensures.value in
    let passed : c.after_values.result ≡ fold step c.of_prefix.result groups = c.after_values.ensures ∙ ap (fold step c.of_prefix.result) c.deref.ensures.value in
    let started : string_bytes c.push.new.self ≡ prefix ++ 49 ∷ [] = c.in_ok-push.ensures.bytes ∙ ap (λ e. string_bytes c.in_ok-text.text ++ e) (c.in_ok-push.ensures.ascii (omega arith)) ∙ ap (λ p. p ++ 49 ∷ []) c.in_ok-text.ensures.ok in
    let lettered : string_bytes c.push_letters.new.text ≡ (prefix ++ 49 ∷ []) ++ map letter_of groups =
    c.in_ok-push_letters.ensures ∙ ap (λ p. p ++ map letter_of c.deref-2.result.now) started ∙ ap (λ g. (prefix ++ 49 ∷ []) ++ map letter_of g) c.deref-2.ensures.value in
    let written : IsBech32 prefix c.args.bytes.now (string_bytes c.push_letters-2.new.text) = record {
      groups = groups;
      padding = c.in_ok-groups.ensures.0;
      check = check;
      grouped = c.in_ok-groups.ensures.1;
      six = c.closing_values-check.ensures.six;
      small = c.closing_values-check.ensures.small;
      sum = remainder_of_parts (expanded prefix) groups check c.of_prefix.result c.after_values.result begun passed c.closing_values-check.ensures.one;
      text_is = c.in_ok-push_letters-2.ensures ∙ ap (λ p. p ++ map letter_of check) lettered ∙ text_of_parts prefix groups check;
    } in
    record { bech32 = written; text = text_is prefix c.args.bytes.now _ written }
