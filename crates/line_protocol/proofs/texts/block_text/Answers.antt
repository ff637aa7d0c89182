use Rattle.std.proofs.Common.{◌++◌, map, ap, ◌∙◌}
use Rattle.chain_msgs.specs.Plain.{result_view}
use Rattle.sha2.specs.Sha256.{sha256}
use Rattle.serde_json.specs.Written.{has_float, compact_text}
use Rattle.line_protocol.specs.Texts.{body_data}
use Rattle.line_protocol.proofs.Whole.{body_whole}
use Rattle.line_protocol.proofs.texts.block_text.Goals as goal

pub returns-clause-text : goal.returns-clause-text
returns-clause-text c =
    let results = map result_view c.args.results.now in
    let body = c.in_ok-body.ensures in
    let text = c.in_ok-text.ensures.text (ap has_float body ∙ body_whole c.args.height results) ∙ ap compact_text body in
    c.in_ok-digested_text.ensures (body_data c.args.height results) (c.deref-2.ensures.value ∙ text)

pub returns-clause-digest : goal.returns-clause-digest
returns-clause-digest c =
    let results = map result_view c.args.results.now in
    let body = c.in_ok-body.ensures in
    let text = c.in_ok-text.ensures.text (ap has_float body ∙ body_whole c.args.height results) ∙ ap compact_text body in
    c.chained_digest-digest.ensures ∙ ap (λ t. sha256 (c.args.last.now ++ t)) (c.deref.ensures.value ∙ text)
