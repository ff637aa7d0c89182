-- A text of bech32 under a lawful prefix has no fault, and a text that has no fault is one of bech32, in lower case.
use Rattle.std.proofs.Common.{◌≡◌, ℕ, suc, ◌+◌, ◌-◌, ◌*◌, ◌/◌, ◌%◌, ◌<◌, ◌≤◌, ◌^◌, Bool, true, false, not, ◌&&◌, ◌||◌, cond, List, [], ◌∷◌, ◌++◌, All, length, get_or, map, take, drop, Option, Some, None, unwrap_or, option_map, refl, sym, ◌∙◌, ap, subst, arith, length-append, append_assoc, take-append-drop, length-drop}
use Rattle.std.specs.Prelude.{◌==◌, nat_lt, nat_le, is_some, position, find, reverse, option_and_then}
use Rattle.std.specs.List.{list_all, position_or_len, range_with_len}
use Rattle.std.specs.Option.{option_or}
use Rattle.std.specs.Str.{bytes_eq}
use Rattle.std.proofs.lemmas.Bool.{lt-ltb, le-ltb, le-leb, ltb-true, ltb-false, eqb-true}
use Rattle.std.proofs.lemmas.Bool.Decides.{nat_tests}
use Rattle.std.proofs.lemmas.List.{length-reverse, get_or-reverse, get_or_at, get_or-append-add, get_or-map, drop_more, take_at, drop_at, take-map, map-append, length-map}
use Rattle.std.proofs.lemmas.List.Elements.{All-head, All-tail, All-cons, All-append}
use Rattle.std.proofs.lemmas.List.FromFn.{get_or-range_with_len}
use Rattle.std.proofs.lemmas.List.Quantifiers.{position-Some}
use Rattle.std.proofs.lemmas.List.Sums.{position_or_len_is, fails_before_first, AllPass-from_list_all}
use Rattle.std.proofs.lemmas.Slice.Eq.{bytes_eq-Decides}
use Rattle.chain_addr.specs.declared.fault.AddrKind.TheVariants as kinds
use Rattle.chain_addr.specs.declared.fault.Misread.{Misread}
use Rattle.chain_addr.specs.Address.{bytes_in, bytes_of, sized, address_of}
use Rattle.chain_addr.specs.Bech32.{IsBech32}
use Rattle.chain_addr.specs.Checksum.{remainder, expanded}
use Rattle.chain_addr.specs.Groups.{number, IsGrouped}
use Rattle.chain_addr.specs.Letters.{letters, letter_of, IsPrefix}
use Rattle.chain_addr.specs.Reading.{is_upper, lower, is_letter, place_of, value_of, is_printable, is_data, after_separator, bad_character, is_other_case, mixed_after, mixed_letter, before, after, remainder_of, misread, fault_of_parts, fault_after, fault_of, groups_of}
use Rattle.chain_addr.proofs.Addressing.{AreBytes, is_grouped, has_address}
use Rattle.chain_addr.proofs.Lettering.{both_first, both_second}
use Rattle.chain_addr.proofs.Ungrouping.{values_small}

both : (a b : Bool) → a ≡ true → b ≡ true → (a && b) ≡ true
both true b p q = q
both false b p q = absurd cc

not_true : (b : Bool) → not b ≡ true → b ≡ false
not_true true p = absurd cc
not_true false p = refl

not_false : (b : Bool) → not b ≡ false → b ≡ true
not_false true p = refl
not_false false p = absurd cc

not_eqb : (a b : ℕ) (t : Bool) → (a == b) ≡ t → (a ≡ b → ⊥) → t ≡ false
not_eqb a b true e apart = absurd (apart (eqb-true a b e))
not_eqb a b false e apart = refl

-- ---- the first place that passes a test

-- a test that no element passes has no place
no_place : (p : ℕ → Bool) (xs : List ℕ) → All (λ x. p x ≡ false) xs → position p xs ≡ None
no_place p xs none =
    let n = length xs in
    let end : position_or_len p xs ≡ n = position_or_len_is p xs n 0 (omega arith) (λ k h. none k 0 h) (λ h. absurd (omega arith)) in
    ap (λ (k : ℕ). cond (nat_lt k n) (Some k) None) end ∙ ap (λ (b : Bool). cond b (Some n) None) (le-ltb n n (omega arith))

is_out : (b : Bool) (k : ℕ) → cond b (Some k) None ≡ None → b ≡ false
is_out true k none = absurd cc
is_out false k none = refl

-- and where it has none, no element passes
none_passes : (p : ℕ → Bool) (xs : List ℕ) → position p xs ≡ None → All (λ x. p x ≡ false) xs
none_passes p xs none k d h =
    let past = ltb-false (position_or_len p xs) (length xs) (is_out (nat_lt (position_or_len p xs) (length xs)) (position_or_len p xs) none) in
    fails_before_first p xs k d (omega arith)

-- ---- letters

-- what a test finds of all letters holds of the letters of groups
all_letters : (p : ℕ → Bool) → list_all p letters ≡ true → (groups : List ℕ) → All (λ g. g < 32) groups → All (λ c. p c ≡ true) (map letter_of groups)
all_letters p all [] small = λ k d h. absurd (omega arith)
all_letters p all (g ∷ groups) small =
    All-cons (λ c. p c ≡ true) (letter_of g) (map letter_of groups) (AllPass-from_list_all p letters all g 0 (All-head (λ g. g < 32) g groups small))
    (all_letters p all groups (All-tail (λ g. g < 32) g groups small))

no_letters : (p : ℕ → Bool) → list_all (λ c. not (p c)) letters ≡ true → (groups : List ℕ) → All (λ g. g < 32) groups → All (λ c. p c ≡ false) (map letter_of groups)
no_letters p none groups small k d h = not_true (p (get_or (map letter_of groups) k d)) (all_letters (λ c. not (p c)) none groups small k d h)

value_back : (v : ℕ) → v < 32 → value_of (letter_of v) ≡ v
value_back v small =
    let table : map value_of letters ≡ range_with_len 0 32 = refl in
    sym (get_or-map value_of letters v 0 0 small) ∙ ap (λ (l : List ℕ). get_or l v 0) table ∙ get_or-range_with_len 0 32 v 0 small ∙ omega arith

values_back : (groups : List ℕ) → All (λ g. g < 32) groups → map value_of (map letter_of groups) ≡ groups
values_back [] small = refl
values_back (g ∷ groups) small =
    ap (λ (v : ℕ). v ∷ map value_of (map letter_of groups)) (value_back g (All-head (λ g. g < 32) g groups small)) ∙ ap (λ (l : List ℕ). g ∷ l) (values_back groups (All-tail (λ g. g < 32) g groups small))

letter_at : (c : ℕ) (o : Option ℕ) → place_of c ≡ o → is_some o ≡ true → lower c ≡ letter_of (unwrap_or o 0)
letter_at c None at some = absurd cc
letter_at c (Some i) at some = sym (eqb-true (letter_of i) (lower c) (position-Some (λ letter. letter == lower c) letters i 0 at).1)

letter_back : (c : ℕ) → is_data c ≡ true → lower c ≡ letter_of (value_of c)
letter_back c d = letter_at c (place_of c) refl (both_second (is_printable c) (is_some (place_of c)) d)

letters_back : (cs : List ℕ) → All (λ c. is_data c ≡ true) cs → map lower cs ≡ map letter_of (map value_of cs)
letters_back [] good = refl
letters_back (c ∷ cs) good =
    ap (λ (l : ℕ). l ∷ map lower cs) (letter_back c (All-head (λ c. is_data c ≡ true) c cs good)) ∙ ap (λ (l : List ℕ). letter_of (value_of c) ∷ l) (letters_back cs (All-tail (λ c. is_data c ≡ true) c cs good))

-- ---- the letters of a prefix

not_upper : (c : ℕ) → 97 ≤ c → is_upper c ≡ false
not_upper c h = grind (arith, nat_tests)

same_lower : (c : ℕ) → 97 ≤ c → lower c ≡ c
same_lower c h = ap (λ (b : Bool). cond b (c + 32) c) (not_upper c h)

a_letter : (c : ℕ) → 97 ≤ c → c ≤ 122 → is_letter c ≡ true
a_letter c low high = ap (λ (x : ℕ). nat_le 97 x && nat_le x 122) (same_lower c low) ∙ both (nat_le 97 c) (nat_le c 122) (le-leb 97 c low) (le-leb c 122 high)

printed : (c : ℕ) → 97 ≤ c → c ≤ 122 → is_printable c ≡ true
printed c low high = both (nat_le 33 c) (nat_le c 126) (le-leb 33 c (omega arith)) (le-leb c 126 (omega arith))

pub all_same : (xs : List ℕ) → All (λ c. lower c ≡ c) xs → map lower xs ≡ xs
all_same [] same = refl
all_same (x ∷ xs) same = ap (λ (c : ℕ). c ∷ map lower xs) (All-head (λ c. lower c ≡ c) x xs same) ∙ ap (λ (l : List ℕ). x ∷ l) (all_same xs (All-tail (λ c. lower c ≡ c) x xs same))

prefix_same : (prefix : List ℕ) → IsPrefix prefix → map lower prefix ≡ prefix
prefix_same prefix lawful = all_same prefix (λ k d h. same_lower (get_or prefix k d) (lawful.lower k d h).0)

-- ---- the last `1`

behind : (name cs : List ℕ) (i j : ℕ) → i ≡ length name + suc j → get_or (name ++ 49 ∷ cs) i 0 ≡ get_or cs j 0
behind name cs i j e = ap (λ (k : ℕ). get_or (name ++ 49 ∷ cs) k 0) e ∙ get_or-append-add name (49 ∷ cs) (suc j) 0

separated : (name cs : List ℕ) → All (λ c. (c == 49) ≡ false) cs → after_separator (name ++ 49 ∷ cs) ≡ Some (length cs)
separated name cs others =
    let text = name ++ 49 ∷ cs in
    let n = length cs in
    let is_one = λ (c : ℕ). c == 49 in
    let len : length text ≡ length name + suc n = length-append name (49 ∷ cs) in
    let size : length (reverse text) ≡ length text = length-reverse text in
    let at : position_or_len is_one (reverse text) ≡ n =
    position_or_len_is is_one (reverse text) n 0 (omega arith)
    (λ k h. ap is_one (get_or-reverse text k 0 (omega arith) ∙ behind name cs (length text - 1 - k) (n - 1 - k) (omega arith)) ∙ others (n - 1 - k) 0 (omega arith))
    (λ h. ap is_one (get_or-reverse text n 0 (omega arith) ∙ get_or_at name 49 cs 0 (length text - 1 - n) (omega arith))) in
    ap (λ (k : ℕ). cond (nat_lt k (length (reverse text))) (Some k) None) at ∙ ap (λ (b : Bool). cond b (Some n) None) (lt-ltb n (length (reverse text)) (omega arith))

-- the characters behind the last `1` of such a text, and those before it
after_is : (name cs : List ℕ) → after (length cs) (name ++ 49 ∷ cs) ≡ cs
after_is name cs =
    let len : length (name ++ 49 ∷ cs) ≡ length name + suc (length cs) = length-append name (49 ∷ cs) in
    let one : length (name ++ 49 ∷ []) ≡ length (name ++ 49 ∷ cs) - length cs = length-append name (49 ∷ []) ∙ omega arith in
    ap (drop (length (name ++ 49 ∷ cs) - length cs)) (sym (append_assoc name (49 ∷ []) cs)) ∙ drop_at (name ++ 49 ∷ []) cs _ one

before_is : (name cs : List ℕ) → before (length cs) (name ++ 49 ∷ cs) ≡ name
before_is name cs =
    let len : length (name ++ 49 ∷ cs) ≡ length name + suc (length cs) = length-append name (49 ∷ cs) in
    take_at name (49 ∷ cs) (length (name ++ 49 ∷ cs) - length cs - 1) (omega arith)

-- ---- a text of bech32 has no fault

abbrev text_at : List ℕ → List ℕ → List ℕ
text_at prefix values = prefix ++ 49 ∷ map letter_of values

good_characters : (prefix values : List ℕ) → IsPrefix prefix → All (λ v. v < 32) values → bad_character (length (text_at prefix values) - length (map letter_of values)) (text_at prefix values) ≡ None
good_characters prefix values lawful small =
    let cs = map letter_of values in
    let text = text_at prefix values in
    let start = length text - length cs in
    let len : length text ≡ length prefix + suc (length cs) = length-append prefix (49 ∷ cs) in
    let one : length (prefix ++ 49 ∷ []) ≡ start = length-append prefix (49 ∷ []) ∙ omega arith in
    let front : take start text ≡ prefix ++ 49 ∷ [] = ap (take start) (sym (append_assoc prefix (49 ∷ []) cs)) ∙ take_at (prefix ++ 49 ∷ []) cs start one in
    let unprinted = λ (c : ℕ). not (is_printable c) in
    let foreign = λ (c : ℕ). not (is_data c) in
    let good : All (λ c. unprinted c ≡ false) (prefix ++ 49 ∷ []) =
    All-append (λ c. unprinted c ≡ false) prefix (49 ∷ []) (λ k d h. ap not (printed (get_or prefix k d) (lawful.lower k d h).0 (lawful.lower k d h).1))
    (All-cons (λ c. unprinted c ≡ false) 49 [] refl (λ k d h. absurd (omega arith))) in
    let named : position unprinted (take start text) ≡ None = ap (position unprinted) front ∙ no_place unprinted (prefix ++ 49 ∷ []) good in
    let lettered : position foreign (drop start text) ≡ None =
    ap (position foreign) (after_is prefix cs) ∙ no_place foreign cs (λ k d h. ap not (all_letters is_data refl values small k d h)) in
    ap (λ (o : Option ℕ). option_or o (option_map (λ (k : ℕ). start + k) (position foreign (drop start text)))) named ∙ ap (λ (o : Option ℕ). option_or None (option_map (λ (k : ℕ). start + k) o)) lettered

no_mixed : (prefix values : List ℕ) → IsPrefix prefix → All (λ v. v < 32) values → mixed_letter (text_at prefix values) ≡ None
no_mixed [] values lawful small = absurd (let some = lawful.some in omega arith)
no_mixed (c ∷ rest) values lawful small =
    let text = text_at (c ∷ rest) values in
    let first = lawful.lower 0 0 (omega arith) in
    let found : find is_letter text ≡ Some c = ap (λ (b : Bool). cond b (Some c) (find is_letter (text_at rest values))) (a_letter c first.0 first.1) in
    let low : All (λ x. is_upper x ≡ false) text =
    All-append (λ x. is_upper x ≡ false) (c ∷ rest) (49 ∷ map letter_of values) (λ k d h. not_upper (get_or (c ∷ rest) k d) (lawful.lower k d h).0)
    (All-cons (λ x. is_upper x ≡ false) 49 (map letter_of values) refl (no_letters is_upper refl values small)) in
    ap (mixed_after text) found
    ∙ no_place (is_other_case c) text (λ k d h. ap (λ (b : Bool). cond b (is_letter (get_or text k d) && not (is_upper (get_or text k d))) (is_upper (get_or text k d))) (not_upper c first.0) ∙ low k d h)

no_part : (short few sum name : Bool) (a b c : Misread) → short ≡ false → few ≡ false → sum ≡ true → name ≡ true
    → cond (short || few) (Some a) (cond (not sum) (Some b) (cond (not name) (Some c) None)) ≡ None
no_part true few sum name a b c s f h k = absurd cc
no_part false true sum name a b c s f h k = absurd cc
no_part false false false name a b c s f h k = absurd cc
no_part false false true false a b c s f h k = absurd cc
no_part false false true true a b c s f h k = refl

good_parts : (prefix groups check : List ℕ) → IsPrefix prefix → All (λ v. v < 32) (groups ++ check) → length check ≡ 6 → remainder (expanded prefix ++ groups ++ check) ≡ 1
    → fault_of_parts prefix (text_at prefix (groups ++ check)) (length (map letter_of (groups ++ check))) ≡ None
good_parts prefix groups check lawful small six sum =
    let cs = map letter_of (groups ++ check) in
    let text = text_at prefix (groups ++ check) in
    let n = length cs in
    let some = lawful.some in
    let len : length text ≡ length prefix + suc n = length-append prefix (49 ∷ cs) in
    let count : n ≡ length groups + 6 = length-map (groups ++ check) letter_of ∙ length-append groups check ∙ ap (λ (k : ℕ). length groups + k) six in
    let apart : (length text ≡ n + 1 → ⊥) = λ e. omega arith in
    let short : (length text == n + 1) ≡ false = not_eqb (length text) (n + 1) (length text == n + 1) refl apart in
    let few : nat_lt n 6 ≡ false = le-ltb n 6 (omega arith) in
    let name : map lower (before n text) ≡ prefix = ap (map lower) (before_is prefix cs) ∙ prefix_same prefix lawful in
    let values : map value_of (after n text) ≡ groups ++ check = ap (map value_of) (after_is prefix cs) ∙ values_back (groups ++ check) small in
    let whole : remainder_of (before n text) (after n text) ≡ 1 =
    ap (λ (p : List ℕ). remainder (expanded p ++ map value_of (after n text))) name ∙ ap (λ (v : List ℕ). remainder (expanded prefix ++ v)) values
    ∙ ap remainder (sym (append_assoc (expanded prefix) groups check)) ∙ sum in
    let summed : (remainder_of (before n text) (after n text) == 1) ≡ true = ap (λ (x : ℕ). x == 1) whole in
    let named : bytes_eq (map lower (before n text)) prefix ≡ true = (bytes_eq-Decides (map lower (before n text)) prefix).1 name in
    no_part (length text == n + 1) (nat_lt n 6) (remainder_of (before n text) (after n text) == 1) (bytes_eq (map lower (before n text)) prefix) _ _ _ short few summed named

no_ones : (values : List ℕ) → All (λ v. v < 32) values → All (λ c. (c == 49) ≡ false) (map letter_of values)
no_ones values small = no_letters (λ c. c == 49) refl values small

no_fault : (prefix groups check : List ℕ) → IsPrefix prefix → All (λ v. v < 32) (groups ++ check) → length check ≡ 6 → length groups ≤ 103 → remainder (expanded prefix ++ groups ++ check) ≡ 1
    → fault_of prefix (text_at prefix (groups ++ check)) ≡ None
unfolding fault_of
no_fault prefix groups check lawful small six many sum =
    let cs = map letter_of (groups ++ check) in
    let text = text_at prefix (groups ++ check) in
    let n = length cs in
    let few = lawful.few in
    let len : length text ≡ length prefix + suc n = length-append prefix (49 ∷ cs) in
    let count : n ≡ length groups + 6 = length-map (groups ++ check) letter_of ∙ length-append groups check ∙ ap (λ (k : ℕ). length groups + k) six in
    let fits : nat_lt 256 (length text) ≡ false = le-ltb 256 (length text) (omega arith) in
    let last : after_separator text ≡ Some n = separated prefix cs (no_ones (groups ++ check) small) in
    let rest = λ (o : Option ℕ). option_or (option_or (misread kinds.Character (bad_character (length text - unwrap_or o 0) text)) (misread kinds.Mixed (mixed_letter text))) (fault_after prefix text o) in
    ap (λ (b : Bool). cond b (misread kinds.TooLong (Some 0)) (rest (after_separator text))) fits
    ∙ ap rest last
    ∙ ap (λ (o : Option ℕ). option_or (option_or (misread kinds.Character o) (misread kinds.Mixed (mixed_letter text))) (fault_of_parts prefix text n)) (good_characters prefix (groups ++ check) lawful small)
    ∙ ap (λ (o : Option ℕ). option_or (option_or None (misread kinds.Mixed o)) (fault_of_parts prefix text n)) (no_mixed prefix (groups ++ check) lawful small)
    ∙ good_parts prefix groups check lawful small six sum

groups_are : (prefix groups check : List ℕ) → All (λ v. v < 32) (groups ++ check) → All (λ v. v < 32) groups → length check ≡ 6 → groups_of (text_at prefix (groups ++ check)) ≡ groups
unfolding groups_of
groups_are prefix groups check small front six =
    let cs = map letter_of (groups ++ check) in
    let text = text_at prefix (groups ++ check) in
    let n = length cs in
    let count : n ≡ length groups + 6 = length-map (groups ++ check) letter_of ∙ length-append groups check ∙ ap (λ (k : ℕ). length groups + k) six in
    let last : after_separator text ≡ Some n = separated prefix cs (no_ones (groups ++ check) small) in
    ap (λ (o : Option ℕ). map value_of (take (unwrap_or o 0 - 6) (after (unwrap_or o 0) text))) last
    ∙ ap (λ (l : List ℕ). map value_of (take (n - 6) l)) (after_is prefix cs)
    ∙ ap (map value_of) (take-map letter_of (n - 6) (groups ++ check) ∙ ap (map letter_of) (take_at groups check (n - 6) (omega arith)))
    ∙ values_back groups front

-- the text of the bytes of an address is read back
pub read_back : (prefix bytes text : List ℕ) → IsPrefix prefix → AreBytes bytes → 1 ≤ length bytes → length bytes ≤ 64 → IsBech32 prefix bytes text → address_of prefix text ≡ Some bytes
read_back prefix bytes text lawful small some few b =
    let at = text_at prefix (b.groups ++ b.check) in
    let values = All-append (λ v. v < 32) b.groups b.check b.grouped.small b.small in
    let bits = b.grouped.bits in
    let padded = b.grouped.few in
    let fault = no_fault prefix b.groups b.check lawful values b.six (omega arith) b.sum in
    let grouped = subst (λ g. IsGrouped bytes g b.padding) (sym (groups_are prefix b.groups b.check values b.grouped.small b.six)) b.grouped in
    ap (address_of prefix) b.text_is ∙ has_address prefix at bytes small (fault, (b.padding, grouped), some, few)

-- ---- a text that has no fault

-- what a text has that has no fault, so many characters after the last `1`
record Parted (prefix text : List ℕ) (n : ℕ) : Type 0 where
  last : after_separator text ≡ Some n
  good : position (λ c. not (is_data c)) (after n text) ≡ None
  six : 6 ≤ n
  sum : remainder_of (before n text) (after n text) ≡ 1
  name : map lower (before n text) ≡ prefix

cond_none : (b : Bool) (a : Misread) (r : Option Misread) → cond b (Some a) r ≡ None → r ≡ None
cond_none true a r none = absurd cc
cond_none false a r none = none

or_none : (A : Type 0) (a b : Option A) → option_or a b ≡ None → (a ≡ None) × (b ≡ None)
or_none A None b none = (refl, none)
or_none A (Some x) b none = absurd cc

map_none : (A : Type 0) (f : ℕ → A) (o : Option ℕ) → option_map f o ≡ None → o ≡ None
map_none A f None none = refl
map_none A f (Some k) none = absurd cc

parts_none : (short few sum name : Bool) (a b c : Misread) → cond (short || few) (Some a) (cond (not sum) (Some b) (cond (not name) (Some c) None)) ≡ None
    → (few ≡ false) × (sum ≡ true) × (name ≡ true)
parts_none true few sum name a b c none = absurd cc
parts_none false true sum name a b c none = absurd cc
parts_none false false false name a b c none = absurd cc
parts_none false false true false a b c none = absurd cc
parts_none false false true true a b c none = (refl, refl, refl)

parted_at : (prefix text : List ℕ) (o : Option ℕ) → after_separator text ≡ o → bad_character (length text - unwrap_or o 0) text ≡ None → fault_after prefix text o ≡ None → (n : ℕ) × Parted prefix text n
parted_at prefix text None last good none = absurd cc
parted_at prefix text (Some n) last good none =
    let parts = parts_none (length text == n + 1) (nat_lt n 6) (remainder_of (before n text) (after n text) == 1) (bytes_eq (map lower (before n text)) prefix) _ _ _ none in
    let start = length text - n in
    let foreign = position (λ c. not (is_data c)) (drop start text) in
    let characters = or_none ℕ (position (λ c. not (is_printable c)) (take start text)) (option_map (λ k. start + k) foreign) good in (
      n,
      record {
        last = last;
        good = map_none ℕ (λ k. start + k) foreign characters.1;
        six = ltb-false n 6 parts.0;
        sum = eqb-true (remainder_of (before n text) (after n text)) 1 parts.1;
        name = (bytes_eq-Decides (map lower (before n text)) prefix).0 parts.2;
      },
    )

parted : (prefix text : List ℕ) → fault_of prefix text ≡ None → (n : ℕ) × Parted prefix text n
unfolding fault_of
parted prefix text none =
    let last = after_separator text in
    let bad = bad_character (length text - unwrap_or last 0) text in
    let early = option_or (misread kinds.Character bad) (misread kinds.Mixed (mixed_letter text)) in
    let rest = or_none Misread early (fault_after prefix text last) (cond_none (nat_lt 256 (length text)) _ _ none) in
    let character = or_none Misread (misread kinds.Character bad) (misread kinds.Mixed (mixed_letter text)) rest.0 in
    parted_at prefix text last refl (map_none Misread (λ at. record { kind = kinds.Character; at = at }) bad character.0) rest.1

some_is : (b : Bool) (x y : List ℕ) → cond b (Some x) None ≡ Some y → (b ≡ true) × (x ≡ y)
some_is true x y e = (refl, cc)
some_is false x y e = absurd cc

taken_apart : (o : Option Misread) (r : Option (List ℕ)) (bytes : List ℕ) → cond (is_some o) None (option_and_then sized r) ≡ Some bytes → (o ≡ None) × (r ≡ Some bytes)
taken_apart (Some fault) r bytes e = absurd cc
taken_apart None None bytes e = absurd cc
taken_apart None (Some found) bytes e = (refl, ap Some (some_is (nat_le 1 (length found) && nat_le (length found) 64) found bytes e).1)

grouped_from : (groups bytes : List ℕ) → All (λ group. group < 32) groups → bytes_of groups ≡ Some bytes → (padding : ℕ) × IsGrouped bytes groups padding
grouped_from groups bytes small e =
    let padding = 5 * length groups % 8 in
    let few = nat_lt padding 5 in
    let whole = number 32 groups % 2 ^ padding == 0 in
    let found = some_is (few && whole) (bytes_in (5 * length groups / 8) (number 32 groups / 2 ^ padding)) bytes e in (
      padding,
      subst (λ bs. IsGrouped bs groups padding) found.1
          (is_grouped groups (5 * length groups / 8) padding small (ltb-true padding 5 (both_first few whole found.0)) (omega arith) (eqb-true _ _ (both_second few whole found.0))),
    )

-- the parts of a text around its last `1`
split_text : (text : List ℕ) (n : ℕ) → after_separator text ≡ Some n → (text ≡ before n text ++ 49 ∷ after n text) × (length (after n text) ≡ n)
split_text text n last =
    let place = position-Some (λ c. c == 49) (reverse text) n 0 last in
    let size : length (reverse text) ≡ length text = length-reverse text in
    let within : n < length (reverse text) = place.0 in
    let here : n < length text = omega arith in
    let m = length text - n - 1 in
    let same : m ≡ length text - 1 - n = omega arith in
    let next : m + 1 ≡ length text - n = omega arith in
    let one : get_or text m 0 ≡ 49 = ap (λ (i : ℕ). get_or text i 0) same ∙ sym (get_or-reverse text n 0 here) ∙ eqb-true (get_or (reverse text) n 0) 49 place.1 in (
      sym (take-append-drop m text) ∙ ap (λ (l : List ℕ). take m text ++ l) (drop_more text m 0 (omega arith) ∙ ap (λ (c : ℕ). c ∷ drop (m + 1) text) one ∙ ap (λ (i : ℕ). 49 ∷ drop i text) next),
      length-drop (length text - n) text ∙ omega arith,
    )

groups_at : (text : List ℕ) (n : ℕ) → after_separator text ≡ Some n → groups_of text ≡ map value_of (take (n - 6) (after n text))
unfolding groups_of
groups_at text n last = ap (λ (o : Option ℕ). map value_of (take (unwrap_or o 0 - 6) (after (unwrap_or o 0) text))) last

bech32_of : (prefix text bytes : List ℕ) (n padding : ℕ) → Parted prefix text n → IsGrouped bytes (groups_of text) padding → IsBech32 prefix bytes (map lower text)
bech32_of prefix text bytes n padding p g =
    let cs = after n text in
    let groups = map value_of (take (n - 6) cs) in
    let check = map value_of (drop (n - 6) cs) in
    let split = split_text text n p.last in
    let size : length cs ≡ n = split.1 in
    let many = p.six in
    let good : All (λ c. is_data c ≡ true) cs = λ k d h. not_false (is_data (get_or cs k d)) (none_passes (λ c. not (is_data c)) cs p.good k d h) in
    let values : map value_of cs ≡ groups ++ check = ap (map value_of) (sym (take-append-drop (n - 6) cs)) ∙ map-append value_of (take (n - 6) cs) (drop (n - 6) cs) in
    record {
      groups = groups;
      padding = padding;
      check = check;
      grouped = subst (λ l. IsGrouped bytes l padding) (groups_at text n p.last) g;
      six = length-map (drop (n - 6) cs) value_of ∙ length-drop (n - 6) cs ∙ omega arith;
      small = values_small (drop (n - 6) cs);
      sum = ap remainder (append_assoc (expanded prefix) groups check) ∙ ap (λ (v : List ℕ). remainder (expanded prefix ++ v)) (sym values)
          ∙ ap (λ (q : List ℕ). remainder (expanded q ++ map value_of cs)) (sym p.name) ∙ p.sum;
      text_is = ap (map lower) split.0 ∙ map-append lower (before n text) (49 ∷ cs) ∙ ap (λ (q : List ℕ). q ++ 49 ∷ map lower cs) p.name
          ∙ ap (λ (l : List ℕ). prefix ++ 49 ∷ l) (letters_back cs good ∙ ap (map letter_of) values);
    }

groups_small : (text : List ℕ) → All (λ group. group < 32) (groups_of text)
unfolding groups_of
groups_small text = values_small _

-- a text of an address is one of bech32, in lower case
pub is_bech32 : (prefix text bytes : List ℕ) → address_of prefix text ≡ Some bytes → IsBech32 prefix bytes (map lower text)
unfolding address_of
is_bech32 prefix text bytes e =
    let apart = taken_apart (fault_of prefix text) (bytes_of (groups_of text)) bytes e in
    let p = parted prefix text apart.0 in
    let g = grouped_from (groups_of text) bytes (groups_small text) apart.1 in
    bech32_of prefix text bytes p.0 g.0 p.1 g.1
