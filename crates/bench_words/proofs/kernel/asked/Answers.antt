use Rattle.std.proofs.Common.{rules, ◌≡◌, ℕ, map, string_bytes, List, [], ◌∷◌, slice_index_or, sym, ◌∙◌, subst}
use Rattle.bench_words.specs.Words.{name_of, IsNumber}
use Rattle.bench_words.proofs.kernel.asked.Goals as goal

-- the second of two words
second_word : {W : Type 0} (f : W → List ℕ) (words : List W) (word : W) (x y : List ℕ) → map f words ≡ x ∷ y ∷ [] → word ≡ slice_index_or words 1 word → f word ≡ y
second_word f [] word x y both is = search rules
second_word f (a ∷ []) word x y both is = search rules
second_word f (a ∷ b ∷ words) word x y both is = search rules

pub returns-in_err-count-clause-known : goal.returns-in_err-count-clause-known
returns-in_err-count-clause-known c kernel count asks =
    let word = c.deref-2.ensures ∙ second_word string_bytes c.args.words.now c.count-item.result (name_of kernel) asks.0 asks.1 c.count-item.is in
    let read = c.number.ensures.known count (subst (λ w. IsNumber w count) (sym word) asks.2) in
    search rules
