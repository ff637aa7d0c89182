use Rattle.std.proofs.Common.{◌≡◌, List, ℕ, take, drop, length, ◌-◌, ◌∙◌, ap}
use Rattle.std.proofs.lemmas.List.{take_rest}
use Rattle.line_protocol.specs.Progress.{kept}
use Rattle.line_protocol.proofs.Feeds.{unfed_before, unfed_all, fed_at}
use Rattle.line_protocol.proofs.lines.Lines.find_feed.Goals as goal

-- the rest of the rest of a list, as slices give it
rest_of_rest : (buffer items : List ℕ) (start seen : ℕ) → buffer ≡ items
    → take (length (take (length buffer - start) (drop start buffer)) - seen) (drop seen (take (length buffer - start) (drop start buffer))) ≡ drop seen (drop start items)
rest_of_rest buffer items start seen is = take_rest _ seen ∙ ap (drop seen) (take_rest buffer start ∙ ap (drop start) is)

pub returns-in-Some : goal.returns-in-Some
returns-in-Some c =
    let lines = c.args.self.now in
    let hay = rest_of_rest _ _ lines.start c.args.seen c.deref.ensures.value in
    let found = fed_at (kept lines) _ c.args.seen c.in-Some.at hay c.in-Some.ensures.0.high c.in-Some.ensures.1 in
    (found.0, found.1, unfed_before (kept lines) _ c.args.seen c.in-Some.at hay c.in-Some.ensures.0.before)

pub returns-in-None : goal.returns-in-None
returns-in-None c =
    let lines = c.args.self.now in
    unfed_all (kept lines) _ c.args.seen c.requires (rest_of_rest _ _ lines.start c.args.seen c.deref.ensures.value) c.in-None.ensures
