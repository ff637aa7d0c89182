use Rattle.std.proofs.Common.{◌++◌, codes, ap, ◌∙◌}
use Rattle.line_protocol.proofs.Blocks.{around_body}
use Rattle.line_protocol.proofs.texts.digested_text.Goals as goal

pub returns : goal.returns
returns c = λ d is.
    let digest = c.deref.ensures.value ∙ c.in_ok-digest.ensures in
    let front = c.in_ok-extend_from_slice.ensures.items ∙ ap (λ l. l ++ codes "{\"block\":{\"body\":") c.in_ok-line.ensures.items in
    let body = c.in_ok-extend_from_slice-2.ensures.items ∙ (λ i. front i ++ is i) in
    let name = c.in_ok-extend_from_slice-3.ensures.items ∙ ap (λ l. l ++ codes ",\"digest\":") body in
    let value = c.in_ok-extend_from_slice-4.ensures.items ∙ (λ i. name i ++ digest i) in
    c.in_ok-extend_from_slice-5.ensures.items ∙ ap (λ l. l ++ codes "}}\n") value ∙ around_body d c.args.digest.now
