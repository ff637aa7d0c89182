use Rattle.std.proofs.Common.{◌≡◌, ℕ, List, [], ◌∷◌, ◌++◌, sym, ap, ◌∙◌, append_assoc, arith}
use Rattle.std.proofs.lemmas.List.{nil_from_length}
use Rattle.gas_store.specs.Ends.{end_of}
use Rattle.gas_store.proofs.Prefixes.{end_middle, end_of_last}
use Rattle.gas_store.proofs.places.end_of.Goals as goal

pub returns-then-last-lt255 : goal.returns-then-last-lt255
returns-then-last-lt255 c =
    let gone = c.bytes.invariant.0 in
    let left = c.pop.new.self.items in
    let last = c.in-Some.last in
    let parts : c.args.prefix.now ≡ left ++ last ∷ gone = c.bytes.invariant.2 ∙ ap (λ (l : List ℕ). l ++ gone) c.in-Some.ensures.items ∙ append_assoc left (last ∷ []) gone in
    c.in_ok-push.ensures.items ∙ sym (end_middle left last gone c.if-last-lt255.true c.bytes.invariant.1) ∙ ap end_of (sym parts)

pub returns : goal.returns
returns c =
    let gone = c.bytes.invariant.0 in
    let none = c.in_default.ensures.cases in
    let nothing : c.bytes.end.items ≡ [] = nil_from_length c.bytes.end.items (omega (arith, c.bytes.end.ok.0, none.0)) in
    nil_from_length c.pop.new.self.items (omega (arith, c.pop.new.self.ok.0, none.1)) ∙ sym (ap end_of (c.bytes.invariant.2 ∙ ap (λ (l : List ℕ). l ++ gone) nothing) ∙ end_of_last gone c.bytes.invariant.1)
