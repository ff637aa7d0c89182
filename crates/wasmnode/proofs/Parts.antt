-- A list with commas, part by part.
use Rattle.std.proofs.Common.{◌≡◌, ℕ, ◌+◌, ◌<◌, Bool, false, List, [], ◌∷◌, ◌++◌, length, filter, sym, ap, ◌∙◌, append_assoc, arith}
use Rattle.std.specs.Prelude.{All, not, ◌==◌}
use Rattle.std.specs.List.{position_or_len, before_first, after_first, slice_split}
use Rattle.std.proofs.lemmas.List.{length-drop}
use Rattle.std.proofs.lemmas.List.Elements.{filter-append}
use Rattle.std.proofs.lemmas.List.Sums.{fails_before_first}
use Rattle.std.proofs.lemmas.List.Splits.{slice_split_none, slice_split_first}
use Rattle.wasmnode.specs.Words.{is_comma, caps_of}

abbrev pub is_kept : List ℕ → Bool
is_kept part = not (length part == 0)

-- the parts before are kept, and one more is now
pub one_part : (text rest : List ℕ) (old new : List (List ℕ)) → caps_of text ≡ old ++ caps_of rest → position_or_len is_comma rest < length rest → new ≡ old ++ filter is_kept (before_first is_comma rest ∷ []) → caps_of text ≡ new ++ caps_of (after_first is_comma rest)
one_part text rest old new so_far within kept =
    let front = filter is_kept (before_first is_comma rest ∷ []) in
    let split : caps_of rest ≡ front ++ caps_of (after_first is_comma rest) =
    ap (filter is_kept) (slice_split_first is_comma rest 0 within) ∙ filter-append is_kept (before_first is_comma rest ∷ []) (slice_split is_comma (after_first is_comma rest)) in
    so_far ∙ ap (λ (l : List (List ℕ)). old ++ l) split ∙ sym (append_assoc old front (caps_of (after_first is_comma rest))) ∙ ap (λ (l : List (List ℕ)). l ++ caps_of (after_first is_comma rest)) (sym kept)

pub shorter : (rest : List ℕ) → position_or_len is_comma rest < length rest → length (after_first is_comma rest) < length rest
shorter rest within = omega (arith, length-drop (position_or_len is_comma rest + 1) rest)

pub last_part : (text rest : List ℕ) (old new : List (List ℕ)) → caps_of text ≡ old ++ caps_of rest → position_or_len is_comma rest ≡ length rest → new ≡ old ++ filter is_kept (rest ∷ []) → new ≡ caps_of text
last_part text rest old new so_far none kept =
    let all : All (λ b. is_comma b ≡ false) rest = λ k d lt. fails_before_first is_comma rest k d (rw none lt) in
    kept ∙ ap (λ (l : List (List ℕ)). old ++ filter is_kept l) (sym (slice_split_none is_comma rest all)) ∙ sym so_far
