-- A text of bech32 is determined by its prefix and its bytes.
use Rattle.std.proofs.Common.{◌≡◌, ℕ, zero, suc, ◌+◌, ◌-◌, ◌*◌, ◌/◌, ◌%◌, ◌<◌, ◌≤◌, ◌^◌, List, [], ◌∷◌, ◌++◌, All, length, map, fold, bit_xor, refl, sym, ◌∙◌, ap, subst, arith}
use Rattle.std.proofs.Math.Nat.{mod-eq_of_lt}
use Rattle.std.proofs.lemmas.Nat.{pow-add, shr-shr, mod-pow-add, shl_below, mul-le}
use Rattle.std.proofs.lemmas.List.Elements.{All-head, All-tail, All-cons}
use Rattle.std.proofs.lemmas.List.Sums.{fold-append}
use Rattle.chain_addr.specs.Bech32.{IsBech32}
use Rattle.chain_addr.specs.Checksum.{step, remainder, expanded}
use Rattle.chain_addr.specs.Groups.{number, IsGrouped}
use Rattle.chain_addr.specs.Letters.{letter_of}
use Rattle.chain_addr.specs.Text.{groups_in, group_count, in_groups, checksum, text_of}
use Rattle.chain_addr.proofs.Addressing.{after_bytes, after_groups, AreBytes}
use Rattle.chain_addr.proofs.Closing.{closed, closing_number}

-- ---- a number and its groups of five bits

more_bits : (n len : ℕ) → n / 2 ^ (5 * suc len) ≡ n / 2 ^ (5 * len) / 32
more_bits n len =
    let e : 5 * suc len ≡ 5 * len + 5 = omega arith in
    ap (λ k. n / 2 ^ k) e ∙ sym (shr-shr n (5 * len) 5)

-- the groups that follow stand below the number before them
below : (n : ℕ) (groups : List ℕ) → All (λ g. g < 32) groups → after_groups n groups / 2 ^ (5 * length groups) ≡ n
below n [] small = omega arith
below n (d ∷ groups) small =
    let first = All-head (λ g. g < 32) d groups small in
    let rest : after_groups (n * 32 + d) groups / 2 ^ (5 * length groups) ≡ n * 32 + d = below (n * 32 + d) groups (All-tail (λ g. g < 32) d groups small) in
    let whole = more_bits (after_groups (n * 32 + d) groups) (length groups) ∙ ap (λ x. x / 32) rest in
    let last : (n * 32 + d) / 32 ≡ n = omega (arith, first) in
    whole ∙ last

groups_back : (n : ℕ) (groups : List ℕ) → All (λ g. g < 32) groups → groups_in (length groups) (after_groups n groups) ≡ groups
groups_back n [] small = refl
groups_back n (d ∷ groups) small =
    let first = All-head (λ g. g < 32) d groups small in
    let rest = All-tail (λ g. g < 32) d groups small in
    let here : after_groups (n * 32 + d) groups / 2 ^ (5 * length groups) % 32 ≡ d = ap (λ x. x % 32) (below (n * 32 + d) groups rest) ∙ omega (arith, first) in
    ap (λ x. x ∷ groups_in (length groups) (after_groups (n * 32 + d) groups)) here ∙ ap (λ l. d ∷ l) (groups_back (n * 32 + d) groups rest)

groups_length : (count n : ℕ) → length (groups_in count n) ≡ count
groups_length zero n = refl
groups_length (suc count) n = ap suc (groups_length count n)

groups_small : (count n : ℕ) → All (λ g. g < 32) (groups_in count n)
groups_small zero n = λ k d h. absurd (omega arith)
groups_small (suc count) n = All-cons (λ g. g < 32) (n / 2 ^ (5 * count) % 32) (groups_in count n) (omega arith) (groups_small count n)

joins : (n d unit low : ℕ) → (n * 32 + d) * unit + low ≡ n * (32 * unit) + (d * unit + low)
joins n d unit low = omega arith

number_of_groups : (m count n : ℕ) → after_groups m (groups_in count n) ≡ m * 2 ^ (5 * count) + n % 2 ^ (5 * count)
number_of_groups m zero n = omega arith
number_of_groups m (suc count) n =
    let d = n / 2 ^ (5 * count) % 32 in
    let unit = 2 ^ (5 * count) in
    let e : 5 + 5 * count ≡ 5 * suc count = omega arith in
    number_of_groups (m * 32 + d) count n ∙ joins m d unit (n % unit)
    ∙ ap (λ x. m * x + (d * unit + n % unit)) (sym (pow-add 2 5 (5 * count)))
    ∙ ap (λ x. m * 2 ^ (5 + 5 * count) + x) (sym (mod-pow-add n 5 (5 * count))) ∙ ap (λ k. m * 2 ^ k + n % 2 ^ k) e

-- bytes make a number of so many bits
raised : (n b unit : ℕ) → b < 256 → (n * 256 + b + 1) * unit ≤ (n + 1) * (256 * unit)
raised n b unit small =
    let le : (n * 256 + b + 1) ≤ (n + 1) * 256 = omega (arith, small) in
    let m = mul-le (n * 256 + b + 1) unit ((n + 1) * 256) unit le (omega arith) in
    let same : ((n + 1) * 256) * unit ≡ (n + 1) * (256 * unit) = omega arith in
    subst (λ x. (n * 256 + b + 1) * unit ≤ x) same m

bytes_below : (n : ℕ) (bytes : List ℕ) → AreBytes bytes → after_bytes n bytes + 1 ≤ (n + 1) * 2 ^ (8 * length bytes)
bytes_below n [] small = omega arith
bytes_below n (b ∷ bytes) small =
    let first = All-head (λ b. b < 256) b bytes small in
    let rest = bytes_below (n * 256 + b) bytes (All-tail (λ b. b < 256) b bytes small) in
    let unit = 2 ^ (8 * length bytes) in
    let up = raised n b unit first in
    let e : 8 + 8 * length bytes ≡ 8 * length (b ∷ bytes) = omega arith in
    let wide : (n + 1) * (256 * unit) ≡ (n + 1) * 2 ^ (8 * length (b ∷ bytes)) = ap (λ x. (n + 1) * x) (sym (pow-add 2 8 (8 * length bytes)) ∙ ap (λ k. 2 ^ k) e) in
    omega (arith, rest, up, wide)

number_below : (bytes : List ℕ) → AreBytes bytes → number 256 bytes < 2 ^ (8 * length bytes)
number_below bytes small = let h = bytes_below 0 bytes small in omega (arith, h)

-- ---- the groups of bytes

are_groups : (bytes groups : List ℕ) (padding : ℕ) → IsGrouped bytes groups padding → groups ≡ in_groups bytes
are_groups bytes groups padding g =
    let bits = g.bits in
    let few = g.few in
    let n = number 256 bytes in
    let count : length groups ≡ group_count bytes = omega (arith, bits, few) in
    let filled : padding ≡ 5 * group_count bytes - 8 * length bytes = omega (arith, bits, few) in
    sym (groups_back 0 groups g.small) ∙ ap (groups_in (length groups)) g.same ∙ ap (λ k. groups_in k (n * 2 ^ padding)) count
    ∙ ap (λ p. groups_in (group_count bytes) (n * 2 ^ p)) filled

pub are_grouped : (bytes : List ℕ) → AreBytes bytes → IsGrouped bytes (in_groups bytes) (5 * group_count bytes - 8 * length bytes)
are_grouped bytes small =
    let count = group_count bytes in
    let padding = 5 * count - 8 * length bytes in
    let n = number 256 bytes * 2 ^ padding in
    let bits : 8 * length bytes + padding ≡ 5 * count = omega arith in
    let low : n < 2 ^ (5 * count) = subst (λ k. n < 2 ^ k) bits (shl_below (number 256 bytes) (8 * length bytes) padding (number_below bytes small)) in
    let all : n % 2 ^ (5 * count) ≡ n = mod-eq_of_lt low in
    let same = number_of_groups 0 count n in
    record {
      small = groups_small count n;
      few = omega arith;
      bits = let l = groups_length count n in omega arith;
      same = omega (arith, same, all);
    }

-- ---- the checksum

abbrev zeros : List ℕ
zeros = 0 ∷ 0 ∷ 0 ∷ 0 ∷ 0 ∷ 0 ∷ []

check_is : (s : ℕ) (check : List ℕ) → length check ≡ 6 → All (λ g. g < 32) check → fold step s check ≡ 1 → check ≡ groups_in 6 (bit_xor (fold step s zeros) 1)
check_is s [] six small one = absurd (omega arith)
check_is s (a ∷ []) six small one = absurd (omega arith)
check_is s (a ∷ b ∷ []) six small one = absurd (omega arith)
check_is s (a ∷ b ∷ c ∷ []) six small one = absurd (omega arith)
check_is s (a ∷ b ∷ c ∷ d ∷ []) six small one = absurd (omega arith)
check_is s (a ∷ b ∷ c ∷ d ∷ e ∷ []) six small one = absurd (omega arith)
check_is s (a ∷ b ∷ c ∷ d ∷ e ∷ f ∷ []) six small one =
    let check = a ∷ b ∷ c ∷ d ∷ e ∷ f ∷ [] in
    let same : number 32 check ≡ bit_xor (fold step s zeros) 1 =
    closing_number s a b c d e f (small 0 0 (omega arith)) (small 1 0 (omega arith)) (small 2 0 (omega arith)) (small 3 0 (omega arith)) (small 4 0 (omega arith)) (small 5 0 (omega arith)) one in
    sym (groups_back 0 check small) ∙ ap (groups_in 6) same
check_is s (a ∷ b ∷ c ∷ d ∷ e ∷ f ∷ g ∷ check) six small one = absurd (omega arith)

-- what the checksum of values has in its groups
abbrev closing : List ℕ → ℕ
closing values = bit_xor (remainder (values ++ zeros)) 1

checksum_closes : (values : List ℕ) → remainder (values ++ checksum values) ≡ 1
checksum_closes values =
    let s = remainder values in
    fold-append step 1 values (checksum values)
    ∙ closed s (closing values) _ _ _ _ _ _ (ap (λ z. bit_xor z 1) (fold-append step 1 values zeros)) refl refl refl refl refl refl

-- ---- the text

-- a text of bech32 is the text of its prefix and its bytes
pub text_is : (prefix bytes text : List ℕ) → IsBech32 prefix bytes text → text ≡ text_of prefix bytes
unfolding text_of
text_is prefix bytes text b =
    let values = expanded prefix ++ b.groups in
    let s = remainder values in
    let one : fold step s b.check ≡ 1 = sym (fold-append step 1 values b.check) ∙ b.sum in
    let check : b.check ≡ checksum values = check_is s b.check b.six b.small one ∙ ap (λ z. groups_in 6 (bit_xor z 1)) (sym (fold-append step 1 values zeros)) in
    b.text_is ∙ ap (λ c. prefix ++ 49 ∷ map letter_of (b.groups ++ c)) check
    ∙ ap (λ g. prefix ++ 49 ∷ map letter_of (g ++ checksum (expanded prefix ++ g))) (are_groups bytes b.groups b.padding b.grouped)

-- and that text is one of bech32
pub is_text : (prefix bytes : List ℕ) → AreBytes bytes → IsBech32 prefix bytes (text_of prefix bytes)
unfolding text_of
is_text prefix bytes small = record {
  groups = in_groups bytes;
  padding = 5 * group_count bytes - 8 * length bytes;
  check = checksum (expanded prefix ++ in_groups bytes);
  grouped = are_grouped bytes small;
  six = groups_length 6 (closing (expanded prefix ++ in_groups bytes));
  small = groups_small 6 (closing (expanded prefix ++ in_groups bytes));
  sum = checksum_closes (expanded prefix ++ in_groups bytes);
  text_is = refl;
}
