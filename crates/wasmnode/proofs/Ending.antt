-- How a run ends: what the bytes that were handed out or taken say, and so what was written.
use Rattle.std.proofs.Common.{◌≡◌, ◌+◌, ◌++◌, ◌∷◌, [], ℕ, false, List, Option, None, Some, IfSome, length, take, refl, sym, ap, ◌∙◌, subst, arith, append_assoc, append-nil}
use Rattle.std.proofs.KnownBytes.{Appends-nil, Appends-trans}
use Rattle.std.proofs.Math.Seq.{take-append_seam}
use Rattle.std.specs.List.{concat}
use Rattle.std.specs.Io.KnownBytes.{Appends, Consumes, Keeps, IsAtEnd}
use Rattle.outside_io.specs.Pieces.{AppendsFront}
use Rattle.line_protocol.specs.declared.kind.BadKind.{BadKind}
use Rattle.line_protocol.specs.declared.kind.BadKind.TheVariants.{Missing}
use Rattle.line_protocol.specs.declared.lines.Lines.{Lines}
use Rattle.line_protocol.specs.declared.lines.LineStop.TheVariants as stops
use Rattle.line_protocol.specs.Gathering.{TakesUnfed, IsShown, IsUnfed}
use Rattle.line_protocol.specs.Lines.{Raw, raws_of, oversize, StopsAt}
use Rattle.line_protocol.specs.Progress.{kept, is_ended, number, size, waiting, KnowsEnd}
use Rattle.wasmnode.specs.Chain.{genesis_answer}
use Rattle.wasmnode.specs.Halts.{Answers, AnswersBad}
use Rattle.wasmnode.specs.History.{begun, script}
use Rattle.wasmnode.specs.Playing.{IsFed, none, fed, Passed, Passes, behind, after}
use Rattle.wasmnode.specs.Reading.{Opening, Entry, Bad, Rest, Reading, never, opens, reading, rest_of, reading_from}
use Rattle.wasmnode.specs.Run.{answers_of, bad_texts, texts_of}
use Rattle.wasmnode.specs.Statuses.{finished, WritesSome, WritesFinished}
use Rattle.wasmnode.proofs.Bridge.{script_of, script_append}
use Rattle.wasmnode.proofs.Inputs.{finished_unfed, finished_fed, unfed_any}

-- ---- what bytes say

front_empty : (xs ys : List ℕ) → xs ++ ys ≡ [] → xs ≡ []
front_empty [] ys is = refl
front_empty (x ∷ xs) ys is = absurd (grind (arith, is))

back_empty : (xs ys : List ℕ) → xs ++ ys ≡ [] → ys ≡ []
back_empty [] ys is = is
back_empty (x ∷ xs) ys is = absurd (grind (arith, is))

-- the whole input
pub all_follows : {A : Type 0} (later : ℕ → ℕ → List Raw → A) (whole : A → Reading) (input left : List ℕ) (lines : Lines) → Passed later whole input left lines → KnowsEnd lines (Some left)
    → reading input ≡ whole (later (number lines + 1) (size lines) (raws_of (kept lines ++ left)))
all_follows later whole input left lines p end =
    ap reading p.splits ∙ p.follows (kept lines ++ left) (λ ended empty. rw (empty, end ended) refl)

-- what was taken of it: what was handed out, what is kept, and what was taken since
taken_splits : (input gone held left more rest : List ℕ) → input ≡ gone ++ (held ++ left) → left ≡ more ++ rest → input ≡ (gone ++ (held ++ more)) ++ rest
taken_splits input gone held left more rest splits is =
    splits ∙ ap (λ l. gone ++ (held ++ l)) is ∙ ap (λ l. gone ++ l) (sym (append_assoc held more rest)) ∙ sym (append_assoc gone (held ++ more) rest)

taken_follows : {A : Type 0} (later : ℕ → ℕ → List Raw → A) (whole : A → Reading) (input left more rest : List ℕ) (lines : Lines) (p : Passed later whole input left lines) → KnowsEnd lines (Some left) → left ≡ more ++ rest
    → reading (p.gone ++ (kept lines ++ more)) ≡ whole (later (number lines + 1) (size lines) (raws_of (kept lines ++ more)))
taken_follows later whole input left more rest lines p end is =
    p.follows (kept lines ++ more) (λ ended empty. rw (empty, front_empty more rest (sym is ∙ end ended)) refl)

-- an input that ends so far, and so does what was taken of it
abbrev pub Stopped : Option (List ℕ) → Option (List ℕ) → Reading → Type 0
Stopped before after stopped = IfSome before (λ input. (reading input ≡ stopped) × (taken : List ℕ) × Consumes (Some input) after taken × (reading taken ≡ stopped))

-- what was taken without reading on
pub taken_known : {A : Type 0} (later : ℕ → ℕ → List Raw → A) (whole : A → Reading) (input left : List ℕ) (lines : Lines) → Passed later whole input left lines → KnowsEnd lines (Some left)
    → (taken : List ℕ) × Consumes (Some input) (Some left) taken × (reading taken ≡ whole (later (number lines + 1) (size lines) (raws_of (kept lines ++ []))))
taken_known later whole input left lines p end = (
  p.gone ++ (kept lines ++ []),
  taken_splits input p.gone (kept lines) left [] left p.splits refl,
  taken_follows later whole input left [] left lines p end refl,
)

-- where the line to come is too large
large_known : {A : Type 0} (later : ℕ → ℕ → List Raw → A) (whole : A → Reading) (input left more rest : List ℕ) (lines : Lines) (kind : BadKind) (stopped : Reading)
    → Passed later whole input left lines → KnowsEnd lines (Some left) → left ≡ more ++ rest → StopsAt (kept lines ++ left) (size lines) kind → StopsAt (kept lines ++ more) (size lines) kind
    → ((r : Raw) (raws : List Raw) → oversize (size lines) r ≡ Some kind → whole (later (number lines + 1) (size lines) (r ∷ raws)) ≡ stopped)
    → Stopped (Some input) (Some rest) stopped
large_known later whole input left more rest lines kind stopped p end is all some large = (
  all_follows later whole input left lines p end ∙ ap (λ l. whole (later (number lines + 1) (size lines) l)) all.first ∙ large all.raw all.later all.large,
  p.gone ++ (kept lines ++ more),
  taken_splits input p.gone (kept lines) left more rest p.splits is,
  taken_follows later whole input left more rest lines p end is ∙ ap (λ l. whole (later (number lines + 1) (size lines) l)) some.first ∙ large some.raw some.later some.large,
)

pub large_stops : {A : Type 0} (later : ℕ → ℕ → List Raw → A) (whole : A → Reading) (input left then : Option (List ℕ)) (lines : Lines) (number_of : ℕ) (kind : BadKind) (stopped : Reading)
    → Passes later whole input left lines → KnowsEnd lines left → IfSome (waiting lines left) (λ bytes. StopsAt bytes (size lines) kind) → IsShown left then (kept lines) (size lines) (stops.Bad number_of kind)
    → ((r : Raw) (raws : List Raw) → oversize (size lines) r ≡ Some kind → whole (later (number lines + 1) (size lines) (r ∷ raws)) ≡ stopped)
    → Stopped input then stopped
large_stops later whole None left then lines n kind stopped p end all some large = tt
large_stops later whole (Some input) None then lines n kind stopped p end all some large = absurd p
large_stops later whole (Some input) (Some left) None lines n kind stopped p end all some large = absurd some.1
large_stops later whole (Some input) (Some left) (Some rest) lines n kind stopped p end all some large =
    large_known later whole input left some.0 rest lines kind stopped p end some.1 all some.2 large

-- where a line that was handed out is refused
pub refused_stops : {A : Type 0} (later : ℕ → ℕ → List Raw → A) (input left : Option (List ℕ)) (lines : Lines) (stopped : Reading) → Passes later (λ _. stopped) input left lines → KnowsEnd lines left → Stopped input left stopped
refused_stops later None left lines stopped p end = tt
refused_stops later (Some input) None lines stopped p end = absurd p
refused_stops later (Some input) (Some left) lines stopped p end =
    let t = taken_known later (λ _. stopped) input left lines p end in
    (all_follows later (λ _. stopped) input left lines p end, t.0, t.1, t.2)

-- where no genesis came
missing_known : (input left then : List ℕ) (lines : Lines) → Passed reading_from (λ r. r) input left lines → kept lines ++ left ≡ [] → then ≡ left
    → Stopped (Some input) (Some then) (never (record { kind = Missing; line = number lines + 1 }))
unfolding raws_of
missing_known input left then lines p end keeps =
    let says : reading input ≡ never (record { kind = Missing; line = number lines + 1 }) =
    ap reading p.splits ∙ p.follows (kept lines ++ left) (λ ended empty. end) ∙ ap (λ l. reading_from (number lines + 1) (size lines) (raws_of l)) end in
    let nothing : left ≡ [] = back_empty (kept lines) left end in
    (says, input, sym (append-nil input) ∙ ap (λ l. input ++ l) (sym (keeps ∙ nothing)), says)

pub missing_stops : (input left then : Option (List ℕ)) (lines : Lines) → Passes reading_from (λ r. r) input left lines → IsAtEnd (waiting lines left) → Keeps left then
    → Stopped input then (never (record { kind = Missing; line = number lines + 1 }))
missing_stops None left then lines p end keeps = tt
missing_stops (Some input) None then lines p end keeps = absurd p
missing_stops (Some input) (Some left) None lines p end keeps = absurd keeps
missing_stops (Some input) (Some left) (Some then) lines p end keeps = missing_known input left then lines p end keeps

-- where a read failed: the lines that were finished in what was taken are those that were handed out
finished_gone : (gone more : List ℕ) → IsFed gone → IsUnfed more 0 (length more) → finished (gone ++ more) ≡ gone
finished_gone gone more (none empty) unfed = rw empty (finished_unfed more (unfed_any more unfed))
finished_gone gone more (fed front is) unfed =
    rw is (ap finished (append_assoc front (10 ∷ []) more) ∙ finished_fed front more (unfed_any more unfed))

abbrev pub Unfinished : Option (List ℕ) → Option (List ℕ) → Reading → Type 0
Unfinished before after so_far = IfSome before (λ input. (taken : List ℕ) × Consumes (Some input) after taken × (reading (finished taken) ≡ so_far))

pub unfinished : {A : Type 0} (later : ℕ → ℕ → List Raw → A) (whole : A → Reading) (input left then : Option (List ℕ)) (lines : Lines) → Passes later whole input left lines → is_ended lines ≡ false
    → TakesUnfed left then (kept lines) → Unfinished input then (whole (later (number lines + 1) (size lines) []))
unfolding raws_of
unfinished later whole None left then lines p unended unfed = tt
unfinished later whole (Some input) None then lines p unended unfed = absurd p
unfinished later whole (Some input) (Some left) None lines p unended unfed = absurd unfed.from
unfinished later whole (Some input) (Some left) (Some then) lines p unended unfed = (
  p.gone ++ (kept lines ++ unfed.taken),
  taken_splits input p.gone (kept lines) left unfed.taken then p.splits unfed.from,
  ap reading (finished_gone p.gone (kept lines ++ unfed.taken) (p.ends unended) unfed.unfed ∙ sym (append-nil p.gone)) ∙ p.follows [] (λ ended empty. refl),
)

-- ---- what answers them

-- the texts that answer a genesis and these entries
abbrev pub told : ℕ → Opening → List Entry → List (List ℕ)
told keep o entries = genesis_answer o.genesis ∷ script keep (begun o) entries

pub concat_append : (xs ys : List (List ℕ)) → concat (xs ++ ys) ≡ concat xs ++ concat ys
concat_append [] ys = refl
concat_append (x ∷ xs) ys = ap (λ l. x ++ l) (concat_append xs ys) ∙ sym (append_assoc x (concat xs) (concat ys))

answers_are : (keep : ℕ) (o : Opening) (rest : Rest) → answers_of keep (opens o rest) ≡ told keep o rest.entries
answers_are keep o rest = ap (λ l. genesis_answer o.genesis ∷ l) (sym (script_of keep o rest.entries))

abbrev pub ended : List Entry → Option Bad → Rest
ended entries bad = record { entries = entries; bad = bad }

-- nothing is left to be answered
pub answers_here : (keep : ℕ) (o : Opening) (entries : List Entry) (bytes : List ℕ) (bad : Option Bad) (old new : Option (List ℕ)) → reading bytes ≡ opens o (behind entries (ended [] bad))
    → Appends old new (concat (told keep o entries)) → Answers keep bytes old new bad
answers_here keep o entries bytes bad old new is wrote =
    let all = answers_are keep o (behind entries (ended [] bad)) ∙ ap (told keep o) (append-nil entries) in
    rw is (refl, subst (λ l. Appends old new (concat l)) (sym all) wrote)

-- what was answered is a front of what answers all
pub texts_begin : (keep : ℕ) (o : Opening) (entries : List Entry) (rest : Rest) (bytes : List ℕ) → reading bytes ≡ opens o (behind entries rest)
    → texts_of keep bytes ≡ told keep o entries ++ (script keep (after (begun o) entries) rest.entries ++ bad_texts rest.bad)
texts_begin keep o entries rest bytes is =
    let more = script keep (after (begun o) entries) rest.entries in
    rw is (ap (λ l. l ++ bad_texts rest.bad) (answers_are keep o (behind entries rest) ∙ ap (λ l. genesis_answer o.genesis ∷ l) (script_append keep (begun o) entries rest.entries))
    ∙ append_assoc (told keep o entries) more (bad_texts rest.bad))

pub some_of : (texts more all : List (List ℕ)) (old new : Option (List ℕ)) → all ≡ texts ++ more → Appends old new (concat texts) → (some : ℕ) × Appends old new (concat (take some all))
some_of texts more all old new is wrote =
    (length texts, subst (λ l. Appends old new (concat l)) (sym (ap (take (length texts)) is ∙ take-append_seam texts more)) wrote)

pub front_more : (old mid new : Option (List ℕ)) (xs ys zs all : List ℕ) → all ≡ xs ++ (ys ++ zs) → Appends old mid xs → AppendsFront mid new ys → AppendsFront old new all
front_more old mid new xs ys zs all is before front =
    let y = front.0 in
    let r = front.1 in (
      xs ++ y,
      r ++ zs,
      is ∙ ap (λ l. xs ++ (l ++ zs)) front.2 ∙ ap (λ l. xs ++ l) (append_assoc y r zs) ∙ sym (append_assoc xs y (r ++ zs)),
      Appends-trans old mid new xs y before front.3,
    )

-- ---- what was written

pub writes_bad : (keep : ℕ) (o : Opening) (entries : List Entry) (bad : Bad) (before then old new : Option (List ℕ)) → Stopped before then (opens o (behind entries (ended [] (Some bad))))
    → Appends old new (concat (told keep o entries)) → AnswersBad keep before then old new bad
writes_bad keep o entries bad None then old new s wrote = tt
writes_bad keep o entries bad (Some input) then old new s wrote =
    (answers_here keep o entries input (Some bad) old new s.0 wrote, s.1, s.2, answers_here keep o entries s.1 (Some bad) old new s.3 wrote)

never_here : (keep : ℕ) (bytes : List ℕ) (bad : Bad) (w : Option (List ℕ)) → reading bytes ≡ never bad → Answers keep bytes w w (Some bad)
never_here keep bytes bad w is = rw is (refl, Appends-nil w)

pub writes_never : (keep : ℕ) (bad : Bad) (before then w : Option (List ℕ)) → Stopped before then (never bad) → AnswersBad keep before then w w bad
writes_never keep bad None then w s = tt
writes_never keep bad (Some input) then w s = (never_here keep input bad w s.0, s.1, s.2, never_here keep s.1 bad w s.3)

pub writes_finished : (keep : ℕ) (o : Opening) (entries : List Entry) (before then old new : Option (List ℕ)) → Unfinished before then (opens o (behind entries (ended [] None)))
    → Appends old new (concat (told keep o entries)) → WritesFinished keep before then old new
writes_finished keep o entries None then old new u wrote = tt
writes_finished keep o entries (Some input) then old new u wrote =
    (u.0, u.1, rw u.2 refl, (answers_here keep o entries (finished u.0) None old new u.2 wrote).1)

pub writes_nothing : (keep : ℕ) (bad : Bad) (before then w : Option (List ℕ)) → bad.kind ≡ Missing → Unfinished before then (never bad) → WritesFinished keep before then w w
writes_nothing keep bad None then w is u = tt
writes_nothing keep bad (Some input) then w is u = (u.0, u.1, rw u.2 is, (never_here keep (finished u.0) bad w u.2).1)

pub writes_some : (keep : ℕ) (o : Opening) (entries : List Entry) (left before old new : Option (List ℕ)) (lines : Lines) → Passes rest_of (λ rest. opens o (behind entries rest)) before left lines → KnowsEnd lines left
    → Appends old new (concat (told keep o entries)) → WritesSome keep before old new
writes_some keep o entries left None old new lines p end wrote = tt
writes_some keep o entries None (Some input) old new lines p end wrote = absurd p
writes_some keep o entries (Some left) (Some input) old new lines p end wrote =
    let is = all_follows rest_of (λ rest. opens o (behind entries rest)) input left lines p end in
    let rest = rest_of (number lines + 1) (size lines) (raws_of (kept lines ++ left)) in
    let more = script keep (after (begun o) entries) rest.entries ++ bad_texts rest.bad in
    some_of (told keep o entries) more (texts_of keep input) old new (texts_begin keep o entries rest input is) wrote

pub writes_none : (keep : ℕ) (before w : Option (List ℕ)) → WritesSome keep before w w
writes_none keep None w = tt
writes_none keep (Some input) w = (0, Appends-nil w)

pub done_known : (keep : ℕ) (o : Opening) (entries : List Entry) (input left : List ℕ) (old new : Option (List ℕ)) (lines : Lines) → Passed rest_of (λ rest. opens o (behind entries rest)) input left lines → kept lines ++ left ≡ []
    → Appends old new (concat (told keep o entries)) → Answers keep input old new None
unfolding raws_of
done_known keep o entries input left old new lines p end wrote =
    let says : reading input ≡ opens o (behind entries (ended [] None)) =
    ap reading p.splits ∙ p.follows (kept lines ++ left) (λ is_end empty. end) ∙ ap (λ l. opens o (behind entries (rest_of (number lines + 1) (size lines) (raws_of l)))) end in
    answers_here keep o entries input None old new says wrote
