-- What is said of the first line of an input.
use Rattle.std.proofs.Common.{◌≡◌, ℕ, ◌+◌, ◌≤◌, Bool, true, false, cond, ltb, eqb, List, [], ◌∷◌, length, Option, Some, None, Result, Ok, Err, IfOk, IfSome, refl, sym, subst, ◌∙◌, arith}
use Rattle.std.proofs.KnownBytes.{Appends-nil}
use Rattle.std.proofs.lemmas.Bool.{lt-ltb, ltb-true, ltb-false}
use Rattle.std.specs.Io.KnownBytes.{Appends, IsAtEnd}
use Rattle.outside_io.specs.Pieces.{AppendsFront}
use Rattle.line_protocol.specs.declared.kind.BadKind.{BadKind}
use Rattle.line_protocol.specs.declared.kind.BadKind.TheVariants.{Total, Long}
use Rattle.line_protocol.specs.declared.lines.Lines.{Lines}
use Rattle.line_protocol.specs.Progress.{kept, waiting}
use Rattle.line_protocol.specs.Lines.{Raw, line_feed, max_line, max_input, with_first, raws_of, oversize, HandsOut, StopsAt}
use Rattle.wasmnode.specs.declared.checking.Answer.{Answer}
use Rattle.wasmnode.specs.Checking.{first_line, Checked, judged, unread, checked, check_answer, IsJudged, IsUnread, Checks, ChecksFront}
use Rattle.wasmnode.specs.Answers.{is_judged, IsAnswer, AnswersFirst}

-- ---- the first line

-- a line takes at most one byte more than it has
first_fits : (input : List ℕ) (raw : Raw) (later : List Raw) → raws_of input ≡ raw ∷ later → raw.size ≤ length raw.text + 1
unfolding raws_of
first_fits [] raw later e = absurd cc
first_fits (b ∷ input) raw later e = go (eqb b line_feed) (raws_of input) (λ r l f. first_fits input r l f) e
  where
    go : (t : Bool) (raws : List Raw) → ((r : Raw) (l : List Raw) → raws ≡ r ∷ l → r.size ≤ length r.text + 1)
        → cond t (record { text = []; size = 1 } ∷ raws) (with_first b raws) ≡ raw ∷ later → raw.size ≤ length raw.text + 1
    go true raws h e = let same : record { text = []; size = 1 } ≡ raw = cc in subst (λ (r : Raw). r.size ≤ length r.text + 1) same (omega arith)
    go false [] h e = let same : record { text = b ∷ []; size = 1 } ≡ raw = cc in subst (λ (r : Raw). r.size ≤ length r.text + 1) same (omega arith)
    go false (r ∷ raws) h e = let same : record { text = b ∷ r.text; size = r.size + 1 } ≡ raw = cc in subst (λ (r : Raw). r.size ≤ length r.text + 1) same (let fits = h r raws refl in omega (arith, fits))

abbrev is_long : List ℕ → Bool
is_long line = ltb max_line (length line)

-- a first line that is too large is too long
large_is_long : (before : List ℕ) (kind : BadKind) → StopsAt before 0 kind → is_long (first_line before) ≡ true
large_is_long before kind s =
    let fits = first_fits before s.raw s.later s.first in
    rw s.first (go fits (ltb max_input (0 + s.raw.size)) refl (ltb max_line (length s.raw.text)) refl s.large)
  where
    go : s.raw.size ≤ length s.raw.text + 1 → (t : Bool) → ltb max_input (0 + s.raw.size) ≡ t → (u : Bool) → ltb max_line (length s.raw.text) ≡ u
        → cond t (Some Total) (cond u (Some Long) None) ≡ Some kind → is_long s.raw.text ≡ true
    go fits t is true h e = h
    go fits true is false h e = let large = ltb-true max_input (0 + s.raw.size) is in lt-ltb max_line (length s.raw.text) (omega (arith, large, fits))
    go fits false is false h e = absurd cc

pub first_is_long : (caps : List (List ℕ)) (left : Option (List ℕ)) (kind : BadKind) (a : Answer) → IfSome left (λ bytes. StopsAt bytes 0 kind) → IsAnswer a (unread Long) → AnswersFirst a caps left
first_is_long caps None kind a s i = tt
first_is_long caps (Some input) kind a s i = rw (large_is_long input kind s) i

-- one that isn't fits its limit
pub first_fits_limit : (before : ℕ) (raw : Raw) → oversize before raw ≡ None → length raw.text ≤ max_line
first_fits_limit before raw e = go (ltb max_input (before + raw.size)) (ltb max_line (length raw.text)) refl e
  where
    go : (t u : Bool) → ltb max_line (length raw.text) ≡ u → cond t (Some Total) (cond u (Some Long) None) ≡ None → length raw.text ≤ max_line
    go true u is e = absurd cc
    go false true is e = absurd cc
    go false false is e = let le = ltb-false max_line (length raw.text) is in omega (arith, le)

pub first_handed : (caps : List (List ℕ)) (left after : Option (List ℕ)) (raw : Raw) (a : Answer) → HandsOut left after raw → IsAnswer a (checked caps raw.text) → AnswersFirst a caps left
first_handed caps None after raw a h i = tt
first_handed caps (Some input) None raw a h i = absurd h
first_handed caps (Some input) (Some rest) raw a h i = rw h i

pub no_line : (caps : List (List ℕ)) (left : Option (List ℕ)) (a : Answer) → IsAtEnd left → IsAnswer a (checked caps []) → AnswersFirst a caps left
unfolding raws_of
no_line caps None a e i = tt
no_line caps (Some input) a e i = rw e i

-- ---- what was written

judged_so : (c : Checked) → is_judged c ≡ true → IsJudged c
judged_so (judged refusal) e = tt
judged_so (unread kind) e = absurd cc

unread_so : (c : Checked) → is_judged c ≡ false → IsUnread c
unread_so (judged refusal) e = absurd cc
unread_so (unread kind) e = tt

pub checks_judged : (caps : List (List ℕ)) (left old new : Option (List ℕ)) (a : Answer) → AnswersFirst a caps left → (a.judged ≡ true) × Appends old new a.text.items → Checks caps left old new IsJudged
checks_judged caps None old new a f p = tt
checks_judged caps (Some input) old new a f p = (judged_so (checked caps (first_line input)) (sym f.1 ∙ p.0), subst (Appends old new) f.0 p.1)

pub checks_unread : (caps : List (List ℕ)) (left old new : Option (List ℕ)) (a : Answer) → AnswersFirst a caps left → (a.judged ≡ false) × Appends old new a.text.items → Checks caps left old new IsUnread
checks_unread caps None old new a f p = tt
checks_unread caps (Some input) old new a f p = (unread_so (checked caps (first_line input)) (sym f.1 ∙ p.0), subst (Appends old new) f.0 p.1)

pub checks_front : (caps : List (List ℕ)) (left old new : Option (List ℕ)) (a : Answer) → AnswersFirst a caps left → AppendsFront old new a.text.items → ChecksFront caps left old new
checks_front caps None old new a f p = tt
checks_front caps (Some input) old new a f p = subst (AppendsFront old new) f.0 p

-- nothing is a front
pub checks_nothing : (caps : List (List ℕ)) (left written : Option (List ℕ)) → ChecksFront caps left written written
checks_nothing caps None written = tt
checks_nothing caps (Some input) written = ([], check_answer (checked caps (first_line input)), refl, Appends-nil written)

-- an answer that was had is handed on
pub settled_so : {E F : Type 0} {P Q : Answer → Type 0} (had : Result Answer E) (result : Result Answer F) → IfOk result (λ a. had ≡ Ok a) → IfOk had P → ((a : Answer) → P a → Q a) → IfOk result Q
settled_so had (Err f) same p so = tt
settled_so {E} {F} {P} {Q} had (Ok a) same p so = so a (subst (λ (r : Result Answer E). IfOk r P) same p)

-- of fresh lines all that is left waits
pub waiting_fresh : (lines : Lines) (left : Option (List ℕ)) → kept lines ≡ [] → waiting lines left ≡ left
waiting_fresh lines None empty = refl
waiting_fresh lines (Some input) empty = rw empty refl
