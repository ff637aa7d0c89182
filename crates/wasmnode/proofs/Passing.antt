-- What the bytes that were handed out say, with those behind them, after one line more.
use Rattle.std.proofs.Common.{◌≡◌, ◌<◌, ◌+◌, ◌-◌, ◌++◌, ◌∷◌, [], ℕ, true, List, Option, None, Some, length, inl, inr, refl, sym, ap, ◌∙◌, arith, append_assoc, append-nil, true≢false}
use Rattle.line_protocol.specs.declared.lines.Lines.{Lines}
use Rattle.line_protocol.specs.Forms.{Line, line_of}
use Rattle.line_protocol.specs.Lines.{Raw, raws_of, oversize, HandsOut}
use Rattle.line_protocol.specs.Progress.{kept, is_ended, number, size, waiting, KnowsEnd, IsEndedLine}
use Rattle.wasmnode.specs.Playing.{MayFollow, fed, Passed, Passes, behind}
use Rattle.wasmnode.specs.Reading.{Said, Opening, Entry, Rest, Reading, reading, reading_from, rest_of, later, first, read_as, opening_in, entry_in}
use Rattle.wasmnode.proofs.Inputs.{first_is}

-- ---- one line more

-- where a line was still to come, anything may follow what was handed out before
goes_on : (lines : Lines) (left after more : List ℕ) (r : Raw) → KnowsEnd lines (Some left) → raws_of (kept lines ++ left) ≡ r ∷ raws_of after → MayFollow lines more
unfolding raws_of
goes_on lines left after more r end is ended empty =
    let all : kept lines ++ left ≡ [] = rw (empty, end ended) refl in
    absurd (grind (arith, sym is ∙ ap raws_of all))

-- a line with its line feed
passed_fed : {A B : Type 0} (later : ℕ → ℕ → List Raw → A) (then : ℕ → ℕ → List Raw → B) (whole : A → Reading) (whole_then : B → Reading) (input left left_then : List ℕ) (lines lines_then : Lines) (r : Raw)
    → Passed later whole input left lines → KnowsEnd lines (Some left) → raws_of (kept lines ++ left) ≡ r ∷ raws_of (kept lines_then ++ left_then) → r.size ≡ length r.text + 1
    → ((raws : List Raw) → whole (later (number lines + 1) (size lines) (r ∷ raws)) ≡ whole_then (then (number lines_then + 1) (size lines_then) raws))
    → Passed then whole_then input left_then lines_then
passed_fed later then whole whole_then input left left_then lines lines_then r p end is feed turns =
    let line = first_is (kept lines ++ left) (kept lines_then ++ left_then) r is in
    let taken = r.text ++ 10 ∷ [] in
    record {
      gone = p.gone ++ taken;
      splits = p.splits ∙ ap (λ l. p.gone ++ l) (line.takes feed ∙ sym (append_assoc r.text (10 ∷ []) (kept lines_then ++ left_then))) ∙ sym (append_assoc p.gone taken (kept lines_then ++ left_then));
      ends = λ _. fed (p.gone ++ r.text) (sym (append_assoc p.gone r.text (10 ∷ [])));
      follows = λ more may.
          ap reading (append_assoc p.gone taken more ∙ ap (λ l. p.gone ++ l) (append_assoc r.text (10 ∷ []) more))
          ∙ p.follows (r.text ++ 10 ∷ more) (goes_on lines left (kept lines_then ++ left_then) (r.text ++ 10 ∷ more) r end is)
          ∙ ap (λ raws. whole (later (number lines + 1) (size lines) raws)) (line.again feed more) ∙ turns (raws_of more);
    }

-- the input's last line, without one
passed_last : {A B : Type 0} (later : ℕ → ℕ → List Raw → A) (then : ℕ → ℕ → List Raw → B) (whole : A → Reading) (whole_then : B → Reading) (input left left_then : List ℕ) (lines lines_then : Lines) (r : Raw)
    → Passed later whole input left lines → KnowsEnd lines (Some left) → raws_of (kept lines ++ left) ≡ r ∷ raws_of (kept lines_then ++ left_then) → r.size ≡ length r.text
    → is_ended lines_then ≡ true → kept lines_then ≡ []
    → ((raws : List Raw) → whole (later (number lines + 1) (size lines) (r ∷ raws)) ≡ whole_then (then (number lines_then + 1) (size lines_then) raws))
    → Passed then whole_then input left_then lines_then
passed_last later then whole whole_then input left left_then lines lines_then r p end is bare ended empty turns =
    let line = (first_is (kept lines ++ left) (kept lines_then ++ left_then) r is).all bare in
    record {
      gone = p.gone ++ r.text;
      splits = p.splits ∙ ap (λ l. p.gone ++ l) line.0 ∙ sym (append-nil (p.gone ++ r.text)) ∙ ap (λ l. (p.gone ++ r.text) ++ l) (sym line.1);
      ends = λ unended. absurd (true≢false (sym ended ∙ unended));
      follows = λ more may.
          let nothing_more = may ended empty in
          ap (λ l. reading ((p.gone ++ r.text) ++ l)) nothing_more ∙ ap reading (append-nil (p.gone ++ r.text))
          ∙ p.follows r.text (goes_on lines left (kept lines_then ++ left_then) r.text r end is)
          ∙ ap (λ raws. whole (later (number lines + 1) (size lines) raws)) (ap raws_of (sym line.0) ∙ is ∙ ap (λ l. r ∷ raws_of l) (line.1 ∙ sym nothing_more)) ∙ turns (raws_of more);
    }

pub passes_next : {A B : Type 0} (later : ℕ → ℕ → List Raw → A) (then : ℕ → ℕ → List Raw → B) (whole : A → Reading) (whole_then : B → Reading) (input left left_then : Option (List ℕ)) (lines lines_then : Lines) (r : Raw)
    → Passes later whole input left lines → KnowsEnd lines left → HandsOut (waiting lines left) (waiting lines_then left_then) r → IsEndedLine r lines_then
    → ((raws : List Raw) → whole (later (number lines + 1) (size lines) (r ∷ raws)) ≡ whole_then (then (number lines_then + 1) (size lines_then) raws))
    → Passes then whole_then input left_then lines_then
passes_next later then whole whole_then None left left_then lines lines_then r p end is ended turns = tt
passes_next later then whole whole_then (Some input) None left_then lines lines_then r p end is ended turns = absurd p
passes_next later then whole whole_then (Some input) (Some left) None lines lines_then r p end is ended turns = absurd is
passes_next later then whole whole_then (Some input) (Some left) (Some left_then) lines lines_then r p end is (inl feed) turns =
    passed_fed later then whole whole_then input left left_then lines lines_then r p end is feed turns
passes_next later then whole whole_then (Some input) (Some left) (Some left_then) lines lines_then r p end is (inr last) turns =
    passed_last later then whole whole_then input left left_then lines lines_then r p end is last.0 last.1 last.2 turns

-- ---- what a line says

-- a line that is within the limits, with its number and the bytes up to its end
pub record Handed (n m line before after : ℕ) (text : List ℕ) : Type 0 where
  pub here : line ≡ n + 1
  pub there : m ≡ line
  pub grows : before < after
  pub fits : oversize before (record { text = text; size = after - before }) ≡ None

abbrev pub raw : List ℕ → ℕ → ℕ → Raw
raw text before after = record { text = text; size = after - before }

abbrev pub numbered : {A : Type 0} → (Line → Said A) → ℕ → List ℕ → Said A
numbered in_line line text = read_as in_line (line_of line text)

pub rest_turns : (n m line before after : ℕ) (text : List ℕ) (raws : List Raw) (said : Said Entry) → Handed n m line before after text → numbered entry_in line text ≡ said
    → rest_of (n + 1) before (raw text before after ∷ raws) ≡ later line said (rest_of (m + 1) after raws)
rest_turns n m line before after text raws said h is =
    let grows = h.grows in
    let adds : before + (after - before) ≡ after = omega (arith, grows) in
    rw (sym h.here, h.there, h.fits, adds, is) refl

pub reading_turns : (n m line before after : ℕ) (text : List ℕ) (raws : List Raw) (said : Said Opening) → Handed n m line before after text → numbered opening_in line text ≡ said
    → reading_from (n + 1) before (raw text before after ∷ raws) ≡ first line said (reading_from (m + 1) after raws) (rest_of (m + 1) after raws)
reading_turns n m line before after text raws said h is =
    let grows = h.grows in
    let adds : before + (after - before) ≡ after = omega (arith, grows) in
    rw (sym h.here, h.there, h.fits, adds, is) refl

-- an entry stands behind those before it
pub behind_more : (entries : List Entry) (entry : Entry) (rest : Rest)
    → behind entries (record { entries = entry ∷ rest.entries; bad = rest.bad }) ≡ behind (entries ++ entry ∷ []) rest
behind_more entries entry rest = ap (λ l. record { entries = l; bad = rest.bad }) (sym (append_assoc entries (entry ∷ []) rest.entries))
