-- The size of a line that is too long to keep, from the bytes that were passed.
use Rattle.std.proofs.Common.{◌≡◌, ℕ, zero, suc, ◌+◌, ◌-◌, ◌<◌, ◌≤◌, inl, inr, Option, None, Some, IfSome, List, [], ◌∷◌, ◌++◌, length, get_or, take, drop, refl, sym, ap, ◌∙◌, arith, length-append, length-take, append-nil, append_assoc}
use Rattle.std.proofs.lemmas.Bool.{cases_lt}
use Rattle.std.proofs.lemmas.List.{get_or_append_left, get_or-append_right}
use Rattle.std.proofs.KnownBytes.{Consumes-trans}
use Rattle.std.specs.Io.KnownBytes.{Consumes, IsAtEnd}
use Rattle.memchr.specs.Find.{Passes, is_byte, NoneBefore, Nowhere}
use Rattle.line_protocol.specs.Gathering.{IsUnfed, IsSkipped, IsPassed, Measures}
use Rattle.line_protocol.specs.Lines.{Raw, raws_of, max_input, with_first}
use Rattle.line_protocol.proofs.Feeds.{raws-fed, raws-rest, unfed_tail, after_other, unfed_before, unfed_len, fed_at}

pub unfed_append : (a b : List ℕ) (n : ℕ) → IsUnfed a 0 (length a) → IsUnfed b 0 n → IsUnfed (a ++ b) 0 (length a + n)
unfed_append a b n front back k low high fed = elim (cases_lt k (length a)) [
  | inl h ↦ front k low h (sym (get_or_append_left a b 0 k h) ∙ fed)
  | inr h ↦ back (k - length a) (omega arith) (omega arith) (sym (get_or-append_right a b (length a) k 0 refl h) ∙ fed)
]

-- the first line has at least the bytes that have no line feed
record IsLonger (bytes : List ℕ) (least : ℕ) : Type 0 where
  raw : Raw
  later : List Raw
  first : raws_of bytes ≡ raw ∷ later
  text : least ≤ length raw.text
  size : least ≤ raw.size

longer_first : (b : ℕ) (bytes : List ℕ) (least : ℕ) → (raws_of (b ∷ bytes) ≡ with_first b (raws_of bytes)) → IsLonger bytes least → IsLonger (b ∷ bytes) (suc least)
longer_first b bytes least is below = record {
  raw = record { text = b ∷ below.raw.text; size = below.raw.size + 1 };
  later = below.later;
  first = is ∙ ap (with_first b) below.first;
  text = omega (arith, below.text);
  size = omega (arith, below.size);
}

single : (b : ℕ) (raws : List Raw) (bytes : List ℕ) → raws_of (b ∷ bytes) ≡ with_first b raws → IsLonger (b ∷ bytes) 1
single b [] bytes is = record { raw = record { text = b ∷ []; size = 1 }; later = []; first = is; text = omega arith; size = omega arith }
single b (raw ∷ raws) bytes is = record { raw = record { text = b ∷ raw.text; size = raw.size + 1 }; later = raws; first = is; text = omega arith; size = omega arith }

longer : (a b : List ℕ) → 0 < length a → IsUnfed a 0 (length a) → IsLonger (a ++ b) (length a)
unfolding raws_of
longer [] b some unfed = absurd (omega arith)
longer (x ∷ []) b some unfed = single x (raws_of b) b (after_other x (raws_of b) (unfed zero (omega arith) (omega arith)))
longer (x ∷ y ∷ a) b some unfed =
    longer_first x (y ∷ a ++ b) (length (y ∷ a)) (after_other x (raws_of (y ∷ a ++ b)) (unfed zero (omega arith) (omega arith))) (longer (y ∷ a) b (omega arith) (unfed_tail x (y ∷ a) (length (y ∷ a)) unfed))

-- ---- lines that begin with bytes that have no line feed

bare : (front taken : List ℕ) (len : ℕ) → length front ≡ len → IsUnfed front 0 len → IsUnfed taken 0 (length taken) → IsUnfed (front ++ taken) 0 (length (front ++ taken))
bare front taken len is unfed rest =
    let whole : IsUnfed front 0 (length front) = rw is unfed in
    unfed_len _ _ _ (length-append front taken) (unfed_append front taken (length taken) whole rest)

-- no more bytes stand behind them
rest_measures : (front taken : List ℕ) (before len size : ℕ) → 0 < len → length front ≡ len → IsUnfed front 0 len → IsUnfed taken 0 (length taken) → size ≡ len + length taken
    → Measures (front ++ taken) before len size
rest_measures front taken before len size some is unfed rest counted =
    let all : length (front ++ taken) ≡ length front + length taken = length-append front taken in
    record {
      raw = record { text = front ++ taken; size = length (front ++ taken) };
      later = [];
      first = raws-rest (front ++ taken) (omega (arith, all)) (bare front taken len is unfed rest);
      long = omega (arith, all);
      size = inl (omega (arith, all, counted));
    }

-- the input is too large already
over_measures : (front taken more : List ℕ) (before len size : ℕ) → 0 < len → length front ≡ len → IsUnfed front 0 len → IsUnfed taken 0 (length taken) → size ≡ len + length taken
    → max_input < before + size → Measures (front ++ (taken ++ more)) before len size
over_measures front taken more before len size some is unfed rest counted over =
    let all : length (front ++ taken) ≡ length front + length taken = length-append front taken in
    let found = longer (front ++ taken) more (omega (arith, all)) (bare front taken len is unfed rest) in
    record {
      raw = found.raw;
      later = found.later;
      first = ap raws_of (sym (append_assoc front taken more)) ∙ found.first;
      long = omega (arith, all, found.text);
      size = inr (over, omega (arith, all, found.size, counted));
    }

-- the next bytes have a line feed
fed_measures : (front taken hay more : List ℕ) (before len size at : ℕ) → 0 < len → length front ≡ len → IsUnfed front 0 len → IsUnfed taken 0 (length taken) → size ≡ len + length taken
    → NoneBefore (Passes (is_byte 10) hay) 0 (length hay) at → Passes (is_byte 10) hay at → Measures (front ++ (taken ++ (hay ++ more))) before len (size + at + 1)
fed_measures front taken hay more before len size at some is unfed rest counted none fed =
    let ahead = front ++ taken in
    let all : length ahead ≡ length front + length taken = length-append front taken in
    let whole : front ++ (taken ++ (hay ++ more)) ≡ (ahead ++ hay) ++ more = sym (append_assoc front taken (hay ++ more)) ∙ sym (append_assoc ahead hay more) in
    let early = unfed_append ahead hay at (bare front taken len is unfed rest) (unfed_len hay at (0 + at) (omega arith) (unfed_before hay hay 0 at refl none.before)) in
    let there = fed_at hay hay 0 at refl none.high fed in
    let size_is : length (ahead ++ hay) ≡ length ahead + length hay = length-append ahead hay in
    let byte : get_or (ahead ++ hay) (length ahead + at) 0 ≡ 10 = get_or-append_right ahead hay (length ahead) (length ahead + at) 0 refl (omega arith) ∙ ap (λ n. get_or hay n 0) (omega arith) ∙ there.1 in
    rw whole (record {
      raw = record { text = take (length ahead + at) (ahead ++ hay); size = suc (length ahead + at) };
      later = raws_of (drop (suc (length ahead + at)) (ahead ++ hay) ++ more);
      first = raws-fed (ahead ++ hay) more (length ahead + at) (omega (arith, size_is, there.0)) byte early;
      long = simp length-take (omega (arith, all, size_is, there.0));
      size = inl (omega (arith, all, counted));
    })

-- ---- what was passed, of all that the source had and of what was taken

abbrev pub IsMeasured : Option (List ℕ) → ℕ → ℕ → ℕ → Type 0
IsMeasured left before len n = IfSome left (λ l. (front : List ℕ) → length front ≡ len → IsUnfed front 0 len → Measures (front ++ l) before len n)

-- the source is at its end
pub measured_rest : (a b c : Option (List ℕ)) (before len size : ℕ) → 0 < len → IsSkipped a b len size → Consumes b c [] → IsAtEnd c → IsMeasured a before len size
measured_rest None b c before len size some skipped from end = tt
measured_rest (Some x) None c before len size some skipped from end = absurd skipped.from
measured_rest (Some x) (Some y) None before len size some skipped from end = absurd from
measured_rest (Some x) (Some y) (Some z) before len size some skipped from end = λ front is unfed.
    let whole : x ≡ skipped.taken = skipped.from ∙ ap (λ l. skipped.taken ++ l) (from ∙ end) ∙ append-nil skipped.taken in
    rw whole (rest_measures front skipped.taken before len size some is unfed skipped.unfed skipped.counted)

pub passed_rest : (a b c : Option (List ℕ)) (before len size : ℕ) → 0 < len → IsSkipped a b len size → Consumes b c [] → IsPassed a c before len size
passed_rest a b c before len size some skipped from = record {
  taken = skipped.taken ++ [];
  from = Consumes-trans a b c skipped.taken [] skipped.from from;
  measured = λ front is unfed. rw (append-nil skipped.taken) (rest_measures front skipped.taken before len size some is unfed skipped.unfed skipped.counted);
}

-- the input is too large already
pub measured_over : (a b : Option (List ℕ)) (before len size : ℕ) → 0 < len → IsSkipped a b len size → max_input < before + size → IsMeasured a before len size
measured_over None b before len size some skipped over = tt
measured_over (Some x) None before len size some skipped over = absurd skipped.from
measured_over (Some x) (Some y) before len size some skipped over = λ front is unfed.
    rw skipped.from (over_measures front skipped.taken y before len size some is unfed skipped.unfed skipped.counted over)

pub passed_over : (a b : Option (List ℕ)) (before len size : ℕ) → 0 < len → IsSkipped a b len size → max_input < before + size → IsPassed a b before len size
passed_over a b before len size some skipped over = record {
  taken = skipped.taken;
  from = skipped.from;
  measured = λ front is unfed.
      rw (← append-nil skipped.taken) (over_measures front skipped.taken [] before len size some is unfed skipped.unfed skipped.counted over);
}

-- the next bytes have a line feed
pub measured_fed : (a b c : Option (List ℕ)) (before len size at : ℕ) (read hay : List ℕ) → 0 < len → IsSkipped a b len size → Consumes b c read → hay ≡ read
    → NoneBefore (Passes (is_byte 10) hay) 0 (length hay) at → Passes (is_byte 10) hay at → IsMeasured a before len (size + at + 1)
measured_fed None b c before len size at read hay some skipped from same none fed = tt
measured_fed (Some x) None c before len size at read hay some skipped from same none fed = absurd skipped.from
measured_fed (Some x) (Some y) None before len size at read hay some skipped from same none fed = absurd from
measured_fed (Some x) (Some y) (Some z) before len size at read hay some skipped from same none fed = λ front is unfed.
    let whole : x ≡ skipped.taken ++ (hay ++ z) = skipped.from ∙ ap (λ l. skipped.taken ++ l) (from ∙ ap (λ l. l ++ z) (sym same)) in
    rw whole (fed_measures front skipped.taken hay z before len size at some is unfed skipped.unfed skipped.counted none fed)

pub passed_fed : (a b c : Option (List ℕ)) (before len size at : ℕ) (read hay : List ℕ) → 0 < len → IsSkipped a b len size → Consumes b c read → hay ≡ read
    → NoneBefore (Passes (is_byte 10) hay) 0 (length hay) at → Passes (is_byte 10) hay at → IsPassed a c before len (size + at + 1)
passed_fed a b c before len size at read hay some skipped from same none fed = record {
  taken = skipped.taken ++ read;
  from = Consumes-trans a b c skipped.taken read skipped.from from;
  measured = λ front is unfed.
      let whole : read ≡ hay ++ [] = sym same ∙ sym (append-nil hay) in
      rw whole (fed_measures front skipped.taken hay [] before len size at some is unfed skipped.unfed skipped.counted none fed);
}

unfed_read : (hay read : List ℕ) → hay ≡ read → Nowhere (Passes (is_byte 10) hay) 0 (length hay) → IsUnfed read 0 (length read)
unfed_read hay read same none = rw (sym same) (unfed_len hay (length hay) (0 + length hay) (omega arith) (unfed_before hay hay 0 (length hay) refl none))

-- the next bytes have none
pub skipped_on : (a b c : Option (List ℕ)) (len size : ℕ) (read hay : List ℕ) → IsSkipped a b len size → Consumes b c read → hay ≡ read → Nowhere (Passes (is_byte 10) hay) 0 (length hay)
    → IsSkipped a c len (size + length read)
skipped_on a b c len size read hay skipped from same none = record {
  taken = skipped.taken ++ read;
  from = Consumes-trans a b c skipped.taken read skipped.from from;
  counted = omega (arith, skipped.counted, length-append skipped.taken read);
  unfed = unfed_len _ _ _ (length-append skipped.taken read) (unfed_append skipped.taken read (length read) skipped.unfed (unfed_read hay read same none));
}
