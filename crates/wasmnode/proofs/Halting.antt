-- A run's stops and statuses, and the lines between: what was written at each.
use Rattle.std.proofs.Common.{◌≡◌, ◌≢◌, ◌≤◌, ◌<◌, ◌+◌, ◌++◌, ◌∷◌, [], ℕ, false, List, Option, None, Some, refl, sym, ap, ◌∙◌, subst, arith, append_assoc, append-nil, inl, inr}
use Rattle.std.proofs.KnownBytes.{Appends-nil, Appends-trans, Appends-kept}
use Rattle.std.proofs.lemmas.List.Sums.{fold-append}
use Rattle.std.specs.List.{concat}
use Rattle.std.specs.Io.KnownBytes.{Appends, Keeps, IsAtEnd}
use Rattle.outside_io.specs.Cause.{Rose}
use Rattle.outside_io.specs.Pieces.{AppendsFront}
use Rattle.line_protocol.specs.declared.kind.BadKind.{BadKind}
use Rattle.line_protocol.specs.declared.kind.BadKind.TheVariants.{Missing}
use Rattle.line_protocol.specs.declared.line.ParseStop.{ParseStop}
use Rattle.line_protocol.specs.declared.line.ParseStop.TheVariants as parses
use Rattle.line_protocol.specs.declared.lines.Lines.{Lines}
use Rattle.line_protocol.specs.declared.lines.RawLine.{RawLine}
use Rattle.line_protocol.specs.declared.lines.LineStop.{LineStop}
use Rattle.line_protocol.specs.declared.lines.LineStop.TheVariants as stops
use Rattle.line_protocol.specs.Gathering.{TakesUnfed, IsShown, IsBad}
use Rattle.line_protocol.specs.Lines.{raws_of, max_input, oversize, HandsOut}
use Rattle.line_protocol.specs.Progress.{kept, is_ended, number, size, waiting, taken_line, KnowsEnd, IsEndedLine}
use Rattle.line_protocol.specs.Texts.{line_text, bad_data}
use Rattle.wasmnode.specs.declared.chain.Chain as chain_type
use Rattle.wasmnode.specs.declared.status.Status.{Status}
use Rattle.wasmnode.specs.declared.status.Status.TheVariants as statuses
use Rattle.wasmnode.specs.declared.stop.Stop.{Stop}
use Rattle.wasmnode.specs.declared.stop.Stop.TheVariants.{Bad, NoMemory, ReadFault, WriteFault}
use Rattle.wasmnode.specs.Chain.{genesis_answer}
use Rattle.wasmnode.specs.Halts.{Answers, Answered, AnswersBad, Halts, Ends, Refuses, stop_of_line, stop_of_parse}
use Rattle.wasmnode.specs.History.{begun, entry_text, entry_next, script}
use Rattle.wasmnode.specs.Playing.{none, Passed, Passes, Goes, Follows, Breaks, behind, after}
use Rattle.wasmnode.specs.Reading.{Said, nothing, says, refused, Opening, Entry, Rest, Reading, never, opens, reading, rest_of, reading_from, bad_of, opening_in, entry_in}
use Rattle.wasmnode.specs.Reading as model
use Rattle.wasmnode.specs.Run.{answers_of, bad_texts, texts_of}
use Rattle.wasmnode.specs.Said.{IsRefused}
use Rattle.wasmnode.specs.Standing.{StandsFor}
use Rattle.wasmnode.specs.Statuses.{Writes, WritesSome, WritesFront, IsComplete}
use Rattle.wasmnode.proofs.Bridge.{script_append}
use Rattle.wasmnode.proofs.Ending.{all_follows, large_stops, refused_stops, missing_stops, unfinished, told, ended, texts_begin, some_of, front_more, concat_append, taken_known, done_known, writes_bad, writes_never, writes_finished, writes_nothing, writes_some, writes_none}
use Rattle.wasmnode.proofs.Passing.{Handed, numbered, passes_next, rest_turns, reading_turns, behind_more}

abbrev bad : BadKind → ℕ → model.Bad
bad kind line = record { kind = kind; line = line }

abbrev goes_whole : Opening → List Entry → Rest → Reading
goes_whole o entries = λ rest. opens o (behind entries rest)

-- a line was handed out, and the end is known before and after
pub record HandedOut (lines then : Lines) (left more : Option (List ℕ)) (line : RawLine) : Type 0 where
  pub handed : Handed (number lines) (number then) line.number (size lines) (size then) line.bytes.items
  pub hands : HandsOut (waiting lines left) (waiting then more) (taken_line lines then line)
  pub ends : IsEndedLine (taken_line lines then line) then
  pub end : KnowsEnd lines left
  pub end_then : KnowsEnd then more

pub handed_out : (lines then : Lines) (left more : Option (List ℕ)) (line : RawLine) → (line.number ≡ number lines + 1) × (number then ≡ line.number) → (size lines < size then) × (size then ≤ max_input)
    → oversize (size lines) (taken_line lines then line) ≡ None → HandsOut (waiting lines left) (waiting then more) (taken_line lines then line) → IsEndedLine (taken_line lines then line) then
    → KnowsEnd lines left → KnowsEnd then more → HandedOut lines then left more line
handed_out lines then left more line numbered counts fits hands ends end end_then = record {
  handed = record { here = numbered.0; there = numbered.1; grows = counts.0; fits = fits };
  hands = hands;
  ends = ends;
  end = end;
  end_then = end_then;
}

-- ---- before the genesis

pub first_halts : (keep : ℕ) (input left then w : Option (List ℕ)) (lines : Lines) (stop : LineStop) → Passes reading_from (λ r. r) input left lines → KnowsEnd lines left
    → IsBad (waiting lines left) (size lines) (number lines + 1) stop → IsShown left then (kept lines) (size lines) stop
    → (stop ≡ stops.ReadFault → is_ended lines ≡ false) → (stop ≡ stops.ReadFault → TakesUnfed left then (kept lines)) → Halts keep input then w w (stop_of_line stop)
first_halts keep input left then w lines (stops.Bad n kind) p end is shown unended unfed =
    let b = bad kind (number lines + 1) in
    let s = large_stops reading_from (λ r. r) input left then lines n kind (never b) p end is.2 shown (λ r raws large. rw large refl) in
    subst (λ k. AnswersBad keep input then w w (bad kind k)) (sym is.0) (writes_never keep b input then w s)
first_halts keep input left then w lines stops.ReadFault p end is shown unended unfed =
    writes_nothing keep (bad Missing (number lines + 1)) input then w refl (unfinished reading_from (λ r. r) input left then lines p (unended refl) (unfed refl))
first_halts keep input left then w lines stops.NoMemory p end is shown unended unfed = writes_none keep input w

pub missing_halts : (keep n : ℕ) (input left then w : Option (List ℕ)) (lines : Lines) → Passes reading_from (λ r. r) input left lines → IsAtEnd (waiting lines left) → Keeps left then → n ≡ number lines + 1
    → Halts keep input then w w (Bad n Missing)
missing_halts keep n input left then w lines p end keeps is =
    subst (λ k. AnswersBad keep input then w w (bad Missing k)) (sym is) (writes_never keep (bad Missing (number lines + 1)) input then w (missing_stops input left then lines p end keeps))

-- an empty line
pub opening_next : (input left more : Option (List ℕ)) (lines then : Lines) (line : RawLine) → Passes reading_from (λ r. r) input left lines → HandedOut lines then left more line
    → numbered opening_in line.number line.bytes.items ≡ nothing → Passes reading_from (λ r. r) input more then
opening_next input left more lines then line p h is =
    passes_next reading_from reading_from (λ r. r) (λ r. r) input left more lines then (taken_line lines then line) p h.end h.hands h.ends (λ raws. reading_turns _ _ _ _ _ _ raws nothing h.handed is)

-- the genesis
pub opening_here : (o : Opening) (input left more : Option (List ℕ)) (lines then : Lines) (line : RawLine) → Passes reading_from (λ r. r) input left lines → HandedOut lines then left more line
    → numbered opening_in line.number line.bytes.items ≡ says o → Passes rest_of (opens o) input more then
opening_here o input left more lines then line p h is =
    passes_next reading_from rest_of (λ r. r) (opens o) input left more lines then (taken_line lines then line) p h.end h.hands h.ends (λ raws. reading_turns _ _ _ _ _ _ raws (says o) h.handed is)

pub opening_halts : (keep : ℕ) (input left more w : Option (List ℕ)) (lines then : Lines) (line : RawLine) (stop : ParseStop) → Passes reading_from (λ r. r) input left lines → HandedOut lines then left more line
    → IsRefused stop (numbered opening_in line.number line.bytes.items) → Halts keep input more w w (stop_of_parse line.number stop)
opening_halts keep input left more w lines then line (parses.Bad kind) p h is =
    let b = bad kind line.number in
    let q : Passes reading_from (λ _. never b) input more then =
    passes_next reading_from reading_from (λ r. r) (λ _. never b) input left more lines then (taken_line lines then line) p h.end h.hands h.ends (λ raws. reading_turns _ _ _ _ _ _ raws (refused kind) h.handed is) in
    writes_never keep b input more w (refused_stops reading_from input more then (never b) q h.end_then)
opening_halts keep input left more w lines then line parses.NoMemory p h is = writes_none keep input w

-- ---- after the genesis

told_more : (keep : ℕ) (o : Opening) (entries : List Entry) (entry : Entry) → told keep o (entries ++ entry ∷ []) ≡ told keep o entries ++ entry_text keep (after (begun o) entries) entry ∷ []
told_more keep o entries entry = ap (λ l. genesis_answer o.genesis ∷ l) (script_append keep (begun o) entries (entry ∷ []))

concat_last : (texts : List (List ℕ)) (text : List ℕ) → concat (texts ++ text ∷ []) ≡ concat texts ++ text
concat_last texts text = concat_append texts (text ∷ []) ∙ ap (λ l. concat texts ++ l) (append-nil text)

-- what follows a line
goes_said : (keep : ℕ) (chain next : chain_type.Chain) (lines then : Lines) (input left more old mid new : Option (List ℕ)) (o : Opening) (entries : List Entry) (line : RawLine) (said : Said Entry)
    → Goes keep chain lines input left old mid o entries → HandedOut lines then left more line → numbered entry_in line.number line.bytes.items ≡ said → Follows keep (after (begun o) entries) said next mid new
    → (now : List Entry) × Goes keep next then input more old new o now
goes_said keep chain next lines then input left more old mid new o entries line nothing g h is f =
    let whole = goes_whole o entries in (
      entries,
      record {
        stands = f.0;
        passes = passes_next rest_of rest_of whole whole input left more lines then (taken_line lines then line) g.passes h.end h.hands h.ends (λ raws. ap whole (rest_turns _ _ _ _ _ _ raws nothing h.handed is));
        wrote = Appends-kept old mid new (concat (told keep o entries)) g.wrote f.1;
      },
    )
goes_said keep chain next lines then input left more old mid new o entries line (says entry) g h is f =
    let whole = goes_whole o entries in (
      entries ++ entry ∷ [],
      record {
        stands = subst (StandsFor keep next) (sym (fold-append entry_next (begun o) entries (entry ∷ []))) f.0;
        passes = passes_next rest_of rest_of whole (goes_whole o (entries ++ entry ∷ [])) input left more lines then (taken_line lines then line) g.passes h.end h.hands h.ends
            (λ raws. ap whole (rest_turns _ _ _ _ _ _ raws (says entry) h.handed is) ∙ ap (opens o) (behind_more entries entry (rest_of (number then + 1) (size then) raws)));
        wrote = subst (Appends old new) (sym (ap concat (told_more keep o entries entry) ∙ concat_last (told keep o entries) (entry_text keep (after (begun o) entries) entry)))
            (Appends-trans old mid new (concat (told keep o entries)) (entry_text keep (after (begun o) entries) entry) g.wrote f.1);
      },
    )
goes_said keep chain next lines then input left more old mid new o entries line (refused kind) g h is f = absurd f

pub goes_next : (keep : ℕ) (chain next : chain_type.Chain) (lines then : Lines) (input left more old mid new : Option (List ℕ)) (o : Opening) (entries : List Entry) (line : RawLine)
    → Goes keep chain lines input left old mid o entries → HandedOut lines then left more line → Follows keep (after (begun o) entries) (numbered entry_in line.number line.bytes.items) next mid new
    → (now : List Entry) × Goes keep next then input more old new o now
goes_next keep chain next lines then input left more old mid new o entries line g h f =
    goes_said keep chain next lines then input left more old mid new o entries line (numbered entry_in line.number line.bytes.items) g h refl f

-- no line is left
pub goes_done : (keep : ℕ) (chain : chain_type.Chain) (lines : Lines) (input left old new : Option (List ℕ)) (o : Opening) (entries : List Entry) → Goes keep chain lines input left old new o entries → IsAtEnd (waiting lines left)
    → Answered keep input old new
goes_done keep chain lines None left old new o entries g end = tt
goes_done keep chain lines (Some input) None old new o entries g end = absurd g.passes
goes_done keep chain lines (Some input) (Some left) old new o entries g end = done_known keep o entries input left old new lines g.passes end g.wrote

-- no line could be had
pub line_halts : (keep : ℕ) (chain : chain_type.Chain) (lines : Lines) (input left then old new : Option (List ℕ)) (o : Opening) (entries : List Entry) (stop : LineStop)
    → Goes keep chain lines input left old new o entries → KnowsEnd lines left → IsBad (waiting lines left) (size lines) (number lines + 1) stop → IsShown left then (kept lines) (size lines) stop
    → (stop ≡ stops.ReadFault → is_ended lines ≡ false) → (stop ≡ stops.ReadFault → TakesUnfed left then (kept lines)) → Halts keep input then old new (stop_of_line stop)
line_halts keep chain lines input left then old new o entries (stops.Bad n kind) g end is shown unended unfed =
    let b = bad kind (number lines + 1) in
    let whole = goes_whole o entries in
    let s = large_stops rest_of whole input left then lines n kind (whole (ended [] (Some b))) g.passes end is.2 shown (λ r raws large. rw large refl) in
    subst (λ k. AnswersBad keep input then old new (bad kind k)) (sym is.0) (writes_bad keep o entries b input then old new s g.wrote)
line_halts keep chain lines input left then old new o entries stops.ReadFault g end is shown unended unfed =
    writes_finished keep o entries input then old new (unfinished rest_of (goes_whole o entries) input left then lines g.passes (unended refl) (unfed refl)) g.wrote
line_halts keep chain lines input left then old new o entries stops.NoMemory g end is shown unended unfed =
    writes_some keep o entries left input old new lines g.passes end g.wrote

-- a text was written in part
front_of : (keep : ℕ) (o : Opening) (entries : List Entry) (entry : Entry) (bytes : List ℕ) (rest : Rest) (old mid new : Option (List ℕ)) → reading bytes ≡ goes_whole o (entries ++ entry ∷ []) rest
    → Appends old mid (concat (told keep o entries)) → AppendsFront mid new (entry_text keep (after (begun o) entries) entry) → AppendsFront old new (concat (texts_of keep bytes))
front_of keep o entries entry bytes rest old mid new is wrote front =
    let text = entry_text keep (after (begun o) entries) entry in
    let more = script keep (after (begun o) (entries ++ entry ∷ [])) rest.entries ++ bad_texts rest.bad in
    let all : concat (texts_of keep bytes) ≡ concat (told keep o entries) ++ (text ++ concat more) =
    ap concat (texts_begin keep o (entries ++ entry ∷ []) rest bytes is ∙ ap (λ l. l ++ more) (told_more keep o entries entry)) ∙ concat_append (told keep o entries ++ text ∷ []) more
    ∙ ap (λ l. l ++ concat more) (concat_last (told keep o entries) text) ∙ append_assoc (concat (told keep o entries)) text (concat more) in
    front_more old mid new (concat (told keep o entries)) text (concat more) (concat (texts_of keep bytes)) all wrote front

front_known : (keep : ℕ) (o : Opening) (entries : List Entry) (entry : Entry) (input left : List ℕ) (lines : Lines) (old mid new : Option (List ℕ)) → Passed rest_of (goes_whole o (entries ++ entry ∷ [])) input left lines → KnowsEnd lines (Some left)
    → Appends old mid (concat (told keep o entries)) → AppendsFront mid new (entry_text keep (after (begun o) entries) entry) → WritesFront keep (Some input) (Some left) old new
front_known keep o entries entry input left lines old mid new p end wrote front =
    let whole = goes_whole o (entries ++ entry ∷ []) in
    let t = taken_known rest_of whole input left lines p end in
    let all = rest_of (number lines + 1) (size lines) (raws_of (kept lines ++ left)) in
    let some = rest_of (number lines + 1) (size lines) (raws_of (kept lines ++ [])) in
    (front_of keep o entries entry input all old mid new (all_follows rest_of whole input left lines p end) wrote front, t.0, t.1, front_of keep o entries entry t.0 some old mid new t.2 wrote front)

writes_front : (keep : ℕ) (o : Opening) (entries : List Entry) (entry : Entry) (input left : Option (List ℕ)) (lines : Lines) (old mid new : Option (List ℕ)) → Passes rest_of (goes_whole o (entries ++ entry ∷ [])) input left lines → KnowsEnd lines left
    → Appends old mid (concat (told keep o entries)) → AppendsFront mid new (entry_text keep (after (begun o) entries) entry) → WritesFront keep input left old new
writes_front keep o entries entry None left lines old mid new p end wrote front = tt
writes_front keep o entries entry (Some input) None lines old mid new p end wrote front = absurd p
writes_front keep o entries entry (Some input) (Some left) lines old mid new p end wrote front = front_known keep o entries entry input left lines old mid new p end wrote front

-- the genesis' text was
first_of : (keep : ℕ) (o : Opening) (bytes : List ℕ) (rest : Rest) (old new : Option (List ℕ)) → reading bytes ≡ opens o rest → AppendsFront old new (genesis_answer o.genesis) → AppendsFront old new (concat (texts_of keep bytes))
first_of keep o bytes rest old new is front =
    let more = script keep (begun o) rest.entries ++ bad_texts rest.bad in
    front_more old old new [] (genesis_answer o.genesis) (concat more) (concat (texts_of keep bytes)) (ap concat (texts_begin keep o [] rest bytes is)) (Appends-nil old) front

first_known : (keep : ℕ) (o : Opening) (input left : List ℕ) (lines : Lines) (old new : Option (List ℕ)) → Passed rest_of (opens o) input left lines → KnowsEnd lines (Some left)
    → AppendsFront old new (genesis_answer o.genesis) → WritesFront keep (Some input) (Some left) old new
first_known keep o input left lines old new p end front =
    let t = taken_known rest_of (opens o) input left lines p end in
    let all = rest_of (number lines + 1) (size lines) (raws_of (kept lines ++ left)) in
    let some = rest_of (number lines + 1) (size lines) (raws_of (kept lines ++ [])) in
    (first_of keep o input all old new (all_follows rest_of (opens o) input left lines p end) front, t.0, t.1, first_of keep o t.0 some old new t.2 front)

pub first_front : (keep : ℕ) (o : Opening) (input left : Option (List ℕ)) (lines : Lines) (old new : Option (List ℕ)) → Passes rest_of (opens o) input left lines → KnowsEnd lines left
    → AppendsFront old new (genesis_answer o.genesis) → WritesFront keep input left old new
first_front keep o None left lines old new p end front = tt
first_front keep o (Some input) None lines old new p end front = absurd p
first_front keep o (Some input) (Some left) lines old new p end front = first_known keep o input left lines old new p end front

-- a line wasn't answered
pub answer_halts : (keep : ℕ) (chain : chain_type.Chain) (lines then : Lines) (input left more old mid new : Option (List ℕ)) (o : Opening) (entries : List Entry) (line : RawLine) (stop : Stop)
    → Goes keep chain lines input left old mid o entries → HandedOut lines then left more line
    → Breaks keep (after (begun o) entries) line.number (numbered entry_in line.number line.bytes.items) mid new stop → Halts keep input more old new stop
answer_halts keep chain lines then input left more old mid new o entries line (Bad n kind) g h b =
    let whole = goes_whole o entries in
    let stopped = whole (ended [] (Some (bad kind line.number))) in
    let q : Passes rest_of (λ _. stopped) input more then =
    passes_next rest_of rest_of whole (λ _. stopped) input left more lines then (taken_line lines then line) g.passes h.end h.hands h.ends (λ raws. ap whole (rest_turns _ _ _ _ _ _ raws (refused kind) h.handed b.1)) in
    let wrote = Appends-kept old mid new (concat (told keep o entries)) g.wrote b.2 in
    subst (λ k. AnswersBad keep input more old new (bad kind k)) (sym b.0) (writes_bad keep o entries (bad kind line.number) input more old new (refused_stops rest_of input more then stopped q h.end_then) wrote)
answer_halts keep chain lines then input left more old mid new o entries line NoMemory g h b =
    writes_some keep o entries left input old new lines g.passes h.end (Appends-kept old mid new (concat (told keep o entries)) g.wrote b)
answer_halts keep chain lines then input left more old mid new o entries line ReadFault g h b = absurd b
answer_halts keep chain lines then input left more old mid new o entries line WriteFault g h b =
    let whole = goes_whole o entries in
    let q : Passes rest_of (goes_whole o (entries ++ b.0 ∷ [])) input more then =
    passes_next rest_of rest_of whole (goes_whole o (entries ++ b.0 ∷ [])) input left more lines then (taken_line lines then line) g.passes h.end h.hands h.ends
    (λ raws. ap whole (rest_turns _ _ _ _ _ _ raws (says b.0) h.handed b.1) ∙ ap (opens o) (behind_more entries b.0 (rest_of (number then + 1) (size then) raws))) in
    writes_front keep o entries b.0 input more then old mid new q h.end_then g.wrote b.2

-- ---- the bad line's text

bad_text_is : (keep : ℕ) (bytes : List ℕ) (b : model.Bad) → bad_of (reading bytes) ≡ Some b → texts_of keep bytes ≡ answers_of keep (reading bytes) ++ line_text (bad_data b.kind b.line) ∷ []
bad_text_is keep bytes b is = ap (λ x. answers_of keep (reading bytes) ++ bad_texts x) is

pub bad_written : (keep : ℕ) (before then old mid new : Option (List ℕ)) (b : model.Bad) → AnswersBad keep before then old mid b → Appends mid new (line_text (bad_data b.kind b.line)) → Writes keep before old new (λ x. x ≢ None)
bad_written keep None then old mid new b a wrote = tt
bad_written keep (Some input) then old mid new b a wrote =
    let is = a.0.0 in
    let text = line_text (bad_data b.kind b.line) in (
      λ none. absurd (grind (arith, sym is ∙ none)),
      subst (Appends old new) (sym (ap concat (bad_text_is keep input b is) ∙ concat_last (answers_of keep (reading input)) text)) (Appends-trans old mid new (concat (answers_of keep (reading input))) text a.0.1 wrote),
    )

pub bad_kept : (keep : ℕ) (before then old mid new : Option (List ℕ)) (b : model.Bad) → AnswersBad keep before then old mid b → Keeps mid new → WritesSome keep before old new
bad_kept keep None then old mid new b a keeps = tt
bad_kept keep (Some input) then old mid new b a keeps =
    let texts = answers_of keep (reading input) in
    some_of texts _ (texts_of keep input) old new (bad_text_is keep input b a.0.0) (Appends-kept old mid new (concat texts) a.0.1 keeps)

bad_front_of : (keep : ℕ) (bytes : List ℕ) (old mid new : Option (List ℕ)) (b : model.Bad) → Answers keep bytes old mid (Some b) → AppendsFront mid new (line_text (bad_data b.kind b.line)) → AppendsFront old new (concat (texts_of keep bytes))
bad_front_of keep bytes old mid new b a front =
    let texts = answers_of keep (reading bytes) in
    let text = line_text (bad_data b.kind b.line) in
    front_more old mid new (concat texts) text [] (concat (texts_of keep bytes)) (ap concat (bad_text_is keep bytes b a.0) ∙ concat_append texts (text ∷ [])) a.1 front

pub bad_front : (keep : ℕ) (before then old mid new : Option (List ℕ)) (b : model.Bad) → AnswersBad keep before then old mid b → AppendsFront mid new (line_text (bad_data b.kind b.line)) → WritesFront keep before then old new
bad_front keep None then old mid new b a front = tt
bad_front keep (Some input) then old mid new b a front =
    (bad_front_of keep input old mid new b a.0 front, a.1, a.2, bad_front_of keep a.1 old mid new b a.3 front)

-- no line was bad
pub all_written : (keep : ℕ) (before old new : Option (List ℕ)) → Answered keep before old new → Writes keep before old new (λ x. x ≡ None)
all_written keep None old new a = tt
all_written keep (Some input) old new a =
    let texts = answers_of keep (reading input) in
    (a.0, subst (λ l. Appends old new (concat l)) (sym (ap (λ x. texts ++ bad_texts x) a.0 ∙ append-nil texts)) a.1)

-- what was added of the bad line's text tells the status
pub refuse_ends : (keep : ℕ) (before then old mid new : Option (List ℕ)) (b : model.Bad) (status : Status) → AnswersBad keep before then old mid b → Refuses (line_text (bad_data b.kind b.line)) mid new status
    → Ends keep before then old new status
refuse_ends keep before then old mid new b statuses.BadLine a r = bad_written keep before then old mid new b a r
refuse_ends keep before then old mid new b statuses.NoMemory a r = bad_kept keep before then old mid new b a r
refuse_ends keep before then old mid new b statuses.WriteFault a r = bad_front keep before then old mid new b a r
refuse_ends keep before then old mid new b statuses.Done a r = absurd r
refuse_ends keep before then old mid new b statuses.Usage a r = absurd r
refuse_ends keep before then old mid new b statuses.ReadFault a r = absurd r

-- ---- as a run begins

fresh_says : (n before : ℕ) (more : List ℕ) → n ≡ 0 → before ≡ 0 → reading more ≡ reading_from (n + 1) before (raws_of more)
unfolding reading
fresh_says n before more no_line no_byte = rw (no_line, no_byte) refl

pub passes_fresh : (lines : Lines) (left : Option (List ℕ)) → kept lines ≡ [] → number lines ≡ 0 → size lines ≡ 0 → Passes reading_from (λ r. r) left left lines
passes_fresh lines None empty no_line no_byte = tt
passes_fresh lines (Some input) empty no_line no_byte = record {
  gone = [];
  splits = rw empty refl;
  ends = λ _. none refl;
  follows = λ more may. fresh_says (number lines) (size lines) more no_line no_byte;
}

-- the genesis was answered
pub goes_first : (keep : ℕ) (chain : chain_type.Chain) (lines : Lines) (input left old new : Option (List ℕ)) (o : Opening) (text : List ℕ) → StandsFor keep chain (begun o) → Passes rest_of (opens o) input left lines
    → text ≡ genesis_answer o.genesis → Appends old new text → Goes keep chain lines input left old new o []
goes_first keep chain lines input left old new o text stands passes is wrote = record {
  stands = stands;
  passes = passes;
  wrote = subst (Appends old new) (is ∙ sym (append-nil (genesis_answer o.genesis))) wrote;
}

-- ---- statuses

pub ends_as : (keep : ℕ) (before then old new : Option (List ℕ)) (status wanted : Status) → Ends keep before then old new status → status ≡ wanted → Ends keep before then old new wanted
ends_as keep before then old new status wanted ends is = subst (Ends keep before then old new) is ends

pub completes : (keep : ℕ) (before then old new : Option (List ℕ)) (r0 r1 w0 w1 : ℕ) (status : Status) → Ends keep before then old new status → (status ≡ statuses.ReadFault → Rose r0 r1) → (status ≡ statuses.WriteFault → Rose w0 w1)
    → IsComplete before r0 r1 w0 w1 status
completes keep None then old new r0 r1 w0 w1 status ends read write = tt
completes keep (Some input) then old new r0 r1 w0 w1 statuses.Done ends read write = λ good unread unwritten. inl refl
completes keep (Some input) then old new r0 r1 w0 w1 statuses.Usage ends read write = absurd ends
completes keep (Some input) then old new r0 r1 w0 w1 statuses.BadLine ends read write = λ good unread unwritten. absurd (ends.0 good)
completes keep (Some input) then old new r0 r1 w0 w1 statuses.NoMemory ends read write = λ good unread unwritten. inr refl
completes keep (Some input) then old new r0 r1 w0 w1 statuses.ReadFault ends read write = λ good unread unwritten. absurd (unread (read refl))
completes keep (Some input) then old new r0 r1 w0 w1 statuses.WriteFault ends read write = λ good unread unwritten. absurd (unwritten (write refl))
