-- What the gathered bytes say of the bytes that were waiting before.
use Rattle.std.proofs.Common.{subst, Result, Ok, Err, IfErr, IsErrAnd, inr, true, ◌∷◌, ◌≡◌, ℕ, suc, ◌+◌, ◌-◌, ◌<◌, ◌≤◌, ◌⊎◌, Option, None, Some, List, [], ◌++◌, length, get_or, take, drop, refl, sym, ap, ◌∙◌, arith, length-take, append-nil, append_assoc, add-one}
use Rattle.std.proofs.KnownBytes.{Consumes-trans}
use Rattle.std.specs.Io.KnownBytes.{IsAtEnd, Keeps, prepend_known}
use Rattle.line_protocol.specs.declared.kind.BadKind.{BadKind}
use Rattle.line_protocol.specs.declared.kind.BadKind.TheVariants.{Total, Long}
use Rattle.line_protocol.specs.declared.lines.LineStop.{LineStop}
use Rattle.line_protocol.specs.declared.lines.LineStop.TheVariants.{Bad, ReadFault, NoMemory}
use Rattle.line_protocol.specs.declared.lines.RawLine.{RawLine}
use Rattle.line_protocol.specs.declared.lines.Lines.{Lines}
use Rattle.line_protocol.specs.Outcome.{IfLine, IfNoLine}
use Rattle.line_protocol.specs.Progress.{kept, IsEndedLine}
use Rattle.line_protocol.specs.Gathering.{IsUnfed, Draws, TakesUnfed, IsSizeStop, IsBad, IsShown}
use Rattle.line_protocol.specs.Lines.{raws_of, HandsOut, too_large, oversize, StopsAt}
use Rattle.line_protocol.proofs.Feeds.{raws-fed, raws-rest}
use Rattle.std.proofs.lemmas.Bool.Decides.{nat_tests}

-- the bytes that were waiting are the gathered ones and what is left
drawn_whole : (xs ys x y taken : List ℕ) → xs ≡ taken ++ ys → y ≡ x ++ taken → x ++ xs ≡ y ++ ys
drawn_whole xs ys x y taken from onto = ap (λ l. x ++ l) from ∙ sym (append_assoc x taken ys) ∙ ap (λ l. l ++ ys) (sym onto)

take_len : (y : List ℕ) (at : ℕ) → at ≤ length y → length (take at y) ≡ at
take_len y at within = simp length-take (omega arith)

pub line_fed : (a b : Option (List ℕ)) (x y text rest : List ℕ) (at size : ℕ) → Draws a b x y → at < length y → get_or y at 0 ≡ 10 → IsUnfed y 0 at
    → text ≡ take at y → rest ≡ drop (at + 1) y → size ≡ at + 1 → HandsOut (prepend_known x a) (prepend_known rest b) (record { text = text; size = size })
line_fed None b x y text rest at size drawn within fed unfed is_text is_rest is_size = tt
line_fed (Some xs) None x y text rest at size drawn within fed unfed is_text is_rest is_size = absurd drawn.from
line_fed (Some xs) (Some ys) x y text rest at size drawn within fed unfed is_text is_rest is_size =
    ap raws_of (drawn_whole xs ys x y drawn.taken drawn.from drawn.onto) ∙ raws-fed y ys at within fed unfed
    ∙ rw (is_text, is_rest, is_size, add-one) refl

pub line_rest : (a b : Option (List ℕ)) (x y text rest : List ℕ) (size : ℕ) → Draws a b x y → IsAtEnd b → 0 < length y → IsUnfed y 0 (length y)
    → text ≡ y → rest ≡ [] → size ≡ length y → HandsOut (prepend_known x a) (prepend_known rest b) (record { text = text; size = size })
unfolding raws_of
line_rest None b x y text rest size drawn end some unfed is_text is_rest is_size = tt
line_rest (Some xs) None x y text rest size drawn end some unfed is_text is_rest is_size = absurd drawn.from
line_rest (Some xs) (Some ys) x y text rest size drawn end some unfed is_text is_rest is_size =
    ap raws_of (drawn_whole xs ys x y drawn.taken drawn.from drawn.onto ∙ ap (λ l. y ++ l) end ∙ append-nil y) ∙ raws-rest y some unfed
    ∙ rw (is_text, is_rest, is_size, end) refl

large_at : (y : List ℕ) (before at : ℕ) (kind : BadKind) → at ≤ length y → too_large before at (at + 1) ≡ Some kind → oversize before (record { text = take at y; size = suc at }) ≡ Some kind
large_at y before at kind within large =
    let one : suc at ≡ at + 1 = omega arith in
    ap (λ n. too_large before n (suc at)) (take_len y at within) ∙ ap (λ n. too_large before at n) one ∙ large

too_large_kind : (before len size : ℕ) (kind : BadKind) → too_large before len size ≡ Some kind → (kind ≡ Total) ⊎ (kind ≡ Long)
too_large_kind before len size kind large = grind (arith, nat_tests)

-- a line that a line feed ends, and that is too large
stops_fed : (y more : List ℕ) (before at : ℕ) (kind : BadKind) → at < length y → get_or y at 0 ≡ 10 → IsUnfed y 0 at → too_large before at (at + 1) ≡ Some kind → StopsAt (y ++ more) before kind
stops_fed y more before at kind within fed unfed large = record {
  raw = record { text = take at y; size = suc at };
  later = raws_of (drop (suc at) y ++ more);
  first = raws-fed y more at within fed unfed;
  large = large_at y before at kind (omega arith) large;
}

-- the input's last line, where it is too large
stops_last : (y : List ℕ) (before : ℕ) (kind : BadKind) → 0 < length y → IsUnfed y 0 (length y) → too_large before (length y) (length y) ≡ Some kind → StopsAt y before kind
stops_last y before kind some unfed large = record {
  raw = record { text = y; size = length y };
  later = [];
  first = raws-rest y some unfed;
  large = large;
}

pub bad_fed : (a b : Option (List ℕ)) (x y : List ℕ) (before at number : ℕ) (stop : LineStop) → Draws a b x y → at < length y → get_or y at 0 ≡ 10 → IsUnfed y 0 at
    → IsSizeStop before at (at + 1) number stop → IsBad (prepend_known x a) before number stop
bad_fed a b x y before at number NoMemory drawn within fed unfed stopped = tt
bad_fed a b x y before at number ReadFault drawn within fed unfed stopped = tt
bad_fed None b x y before at number (Bad n kind) drawn within fed unfed stopped = (stopped.0, too_large_kind before at (at + 1) kind stopped.1, tt)
bad_fed (Some xs) None x y before at number (Bad n kind) drawn within fed unfed stopped = absurd drawn.from
bad_fed (Some xs) (Some ys) x y before at number (Bad n kind) drawn within fed unfed stopped = (
  stopped.0,
  too_large_kind before at (at + 1) kind stopped.1,
  rw (drawn_whole xs ys x y drawn.taken drawn.from drawn.onto) (stops_fed y ys before at kind within fed unfed stopped.1),
)

pub shown_fed : (a b : Option (List ℕ)) (x y : List ℕ) (before at number : ℕ) (stop : LineStop) → Draws a b x y → at < length y → get_or y at 0 ≡ 10 → IsUnfed y 0 at
    → IsSizeStop before at (at + 1) number stop → IsShown a b x before stop
shown_fed a b x y before at number NoMemory drawn within fed unfed stopped = tt
shown_fed a b x y before at number ReadFault drawn within fed unfed stopped = tt
shown_fed a b x y before at number (Bad n kind) drawn within fed unfed stopped =
    (drawn.taken, drawn.from, subst (λ l. StopsAt l before kind) (append-nil y ∙ drawn.onto) (stops_fed y [] before at kind within fed unfed stopped.1))

pub bad_rest : (a b : Option (List ℕ)) (x y : List ℕ) (before number : ℕ) (stop : LineStop) → Draws a b x y → IsAtEnd b → 0 < length y → IsUnfed y 0 (length y)
    → IsSizeStop before (length y) (length y) number stop → IsBad (prepend_known x a) before number stop
bad_rest a b x y before number NoMemory drawn end some unfed stopped = tt
bad_rest a b x y before number ReadFault drawn end some unfed stopped = tt
bad_rest None b x y before number (Bad n kind) drawn end some unfed stopped = (stopped.0, too_large_kind before (length y) (length y) kind stopped.1, tt)
bad_rest (Some xs) None x y before number (Bad n kind) drawn end some unfed stopped = absurd drawn.from
bad_rest (Some xs) (Some ys) x y before number (Bad n kind) drawn end some unfed stopped = (
  stopped.0,
  too_large_kind before (length y) (length y) kind stopped.1,
  rw (drawn_whole xs ys x y drawn.taken drawn.from drawn.onto ∙ ap (λ l. y ++ l) end ∙ append-nil y) (stops_last y before kind some unfed stopped.1),
)

shown_rest : (a b : Option (List ℕ)) (x y : List ℕ) (before number : ℕ) (stop : LineStop) → Draws a b x y → 0 < length y → IsUnfed y 0 (length y)
    → IsSizeStop before (length y) (length y) number stop → IsShown a b x before stop
shown_rest a b x y before number NoMemory drawn some unfed stopped = tt
shown_rest a b x y before number ReadFault drawn some unfed stopped = tt
shown_rest a b x y before number (Bad n kind) drawn some unfed stopped =
    (drawn.taken, drawn.from, subst (λ l. StopsAt l before kind) drawn.onto (stops_last y before kind some unfed stopped.1))

-- a stop seen from later bytes is one of the earlier
pub bad_drawn : (a b : Option (List ℕ)) (x y : List ℕ) (before number : ℕ) (stop : LineStop) → Draws a b x y → IsBad (prepend_known y b) before number stop → IsBad (prepend_known x a) before number stop
bad_drawn a b x y before number NoMemory drawn bad = tt
bad_drawn a b x y before number ReadFault drawn bad = tt
bad_drawn None b x y before number (Bad n kind) drawn bad = (bad.0, bad.1, tt)
bad_drawn (Some xs) None x y before number (Bad n kind) drawn bad = absurd drawn.from
bad_drawn (Some xs) (Some ys) x y before number (Bad n kind) drawn bad = (bad.0, bad.1, rw (drawn_whole xs ys x y drawn.taken drawn.from drawn.onto) bad.2)

drawn_more : (x y taken more : List ℕ) → y ≡ x ++ taken → x ++ (taken ++ more) ≡ y ++ more
drawn_more x y taken more onto = sym (append_assoc x taken more) ∙ ap (λ l. l ++ more) (sym onto)

pub TakesUnfed-drawn : (a b c : Option (List ℕ)) (x y : List ℕ) → Draws a b x y → TakesUnfed b c y → TakesUnfed a c x
TakesUnfed-drawn a b c x y drawn more = record {
  taken = drawn.taken ++ more.taken;
  from = Consumes-trans a b c drawn.taken more.taken drawn.from more.from;
  unfed = rw (drawn_more x y drawn.taken more.taken drawn.onto) more.unfed;
}

-- a refusal that later bytes show is shown by the earlier and those taken in between
pub shown_drawn : (a b c : Option (List ℕ)) (x y : List ℕ) (before : ℕ) (stop : LineStop) → Draws a b x y → IsShown b c y before stop → IsShown a c x before stop
shown_drawn a b c x y before NoMemory drawn shown = tt
shown_drawn a b c x y before ReadFault drawn shown = tt
shown_drawn a b c x y before (Bad n kind) drawn (more, from, stops) =
    (drawn.taken ++ more, Consumes-trans a b c drawn.taken more drawn.from from, rw (drawn_more x y drawn.taken more drawn.onto) stops)

-- the input's last line, as a look for it gives it
pub lines_rest : (r : Result (Option RawLine) LineStop) (a b : Option (List ℕ)) (x y rest : List ℕ) (size : ℕ) → Draws a b x y → IsAtEnd b → IsUnfed y 0 (length y)
    → IfLine r (λ _. 0 < length y) → IfLine r (λ line. line.bytes.items ≡ y) → IfLine r (λ _. rest ≡ []) → IfLine r (λ _. size ≡ length y)
    → IfLine r (λ line. HandsOut (prepend_known x a) (prepend_known rest b) (record { text = line.bytes.items; size = size }))
lines_rest (Err stop) a b x y rest size drawn end unfed some is_text is_rest is_size = tt
lines_rest (Ok None) a b x y rest size drawn end unfed some is_text is_rest is_size = tt
lines_rest (Ok (Some line)) a b x y rest size drawn end unfed some is_text is_rest is_size = line_rest a b x y _ rest size drawn end some unfed is_text is_rest is_size

-- what a line took of the input, where it took so much
pub taken_size : (r : Result (Option RawLine) LineStop) (old mid new n : ℕ) → mid ≡ old → IfLine r (λ _. new ≡ mid + n) → IfLine r (λ _. new - old ≡ n)
taken_size (Err stop) old mid new n same grown = tt
taken_size (Ok None) old mid new n same grown = tt
taken_size (Ok (Some line)) old mid new n same grown = omega arith

-- the refusal of the input's last line
pub stops_rest : (r : Result (Option RawLine) LineStop) (a b : Option (List ℕ)) (x y : List ℕ) (before number : ℕ) → Draws a b x y → IsAtEnd b → IsUnfed y 0 (length y)
    → IfErr r (λ _. 0 < length y) → IfErr r (IsSizeStop before (length y) (length y) number) → IfErr r (IsBad (prepend_known x a) before number)
stops_rest (Ok next) a b x y before number drawn end unfed some stopped = tt
stops_rest (Err stop) a b x y before number drawn end unfed some stopped = bad_rest a b x y before number stop drawn end some unfed stopped

pub shows_rest : (r : Result (Option RawLine) LineStop) (a b : Option (List ℕ)) (x y : List ℕ) (before number : ℕ) → Draws a b x y → IsUnfed y 0 (length y)
    → IfErr r (λ _. 0 < length y) → IfErr r (IsSizeStop before (length y) (length y) number) → IfErr r (IsShown a b x before)
shows_rest (Ok next) a b x y before number drawn unfed some stopped = tt
shows_rest (Err stop) a b x y before number drawn unfed some stopped = shown_rest a b x y before number stop drawn some unfed stopped

pub bad_at : (waiting : Option (List ℕ)) (stop : LineStop) {before before' number number' : ℕ} → before ≡ before' → number ≡ number' → IsBad waiting before number stop
    → IsBad waiting before' number' stop
bad_at waiting stop same same' bad = rw (← same, ← same') bad

-- a line that a line feed ended
pub fed_size : (y text : List ℕ) (at size : ℕ) → at < length y → text ≡ take at y → size ≡ at + 1 → size ≡ length text + 1
fed_size y text at size within is_text is_size =
    let len : length text ≡ at = ap length is_text ∙ take_len y at (omega arith) in
    omega arith

-- the input's last line, where the input ended it
pub ended_rest : (r : Result (Option RawLine) LineStop) (lines : Lines) (y : List ℕ) (size : ℕ) → lines.ended ≡ true → IfLine r (λ line. line.bytes.items ≡ y) → IfLine r (λ _. kept lines ≡ []) → IfLine r (λ _. size ≡ length y)
    → IfLine r (λ line. IsEndedLine (record { text = line.bytes.items; size = size }) lines)
ended_rest (Err stop) lines y size ended is_text is_rest is_size = tt
ended_rest (Ok None) lines y size ended is_text is_rest is_size = tt
ended_rest (Ok (Some line)) lines y size ended is_text is_rest is_size = inr (is_size ∙ ap length (sym is_text), ended, is_rest)

none_before : (front more : List ℕ) → front ++ more ≡ [] → front ≡ []
none_before [] more none = refl
none_before (b ∷ front) more none = absurd cc

-- where nothing was gathered, nothing was kept before
pub nothing_kept : (r : Result (Option RawLine) LineStop) (a b : Option (List ℕ)) (x y : List ℕ) → Draws a b x y → IfNoLine r (y ≡ []) → IfNoLine r (x ≡ [])
nothing_kept (Err stop) a b x y drawn none = tt
nothing_kept (Ok (Some line)) a b x y drawn none = tt
nothing_kept (Ok None) a b x y drawn none = none_before x drawn.taken (sym drawn.onto ∙ none)

none_behind : (front more : List ℕ) → front ++ more ≡ [] → more ≡ []
none_behind [] more none = none
none_behind (b ∷ front) more none = absurd cc

nothing_taken : (a b : Option (List ℕ)) (x y : List ℕ) → Draws a b x y → y ≡ [] → Keeps a b
nothing_taken None b x y drawn none = tt
nothing_taken (Some xs) None x y drawn none = absurd drawn.from
nothing_taken (Some xs) (Some ys) x y drawn none = sym (drawn.from ∙ ap (λ l. l ++ ys) (none_behind x drawn.taken (sym drawn.onto ∙ none)))

-- nor was anything taken
pub spent_rest : (r : Result (Option RawLine) LineStop) (a b : Option (List ℕ)) (x y : List ℕ) → Draws a b x y → IfNoLine r (y ≡ []) → IfNoLine r (Keeps a b)
spent_rest (Err stop) a b x y drawn none = tt
spent_rest (Ok (Some line)) a b x y drawn none = tt
spent_rest (Ok None) a b x y drawn none = nothing_taken a b x y drawn none

-- what holds of a stop holds of a result that is its error
pub err_is : (P : LineStop → Type 0) (r : Result (Option RawLine) LineStop) (stop : LineStop) → IsErrAnd r (λ found. found ≡ stop) → P stop → IfErr r P
err_is P (Ok next) stop same holds = tt
err_is P (Err found) stop same holds = rw same holds
