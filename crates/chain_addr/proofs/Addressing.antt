-- The bytes that groups of five bits stand for are those that have their bits.
use Rattle.std.proofs.Common.{◌≡◌, ℕ, zero, suc, ◌+◌, ◌*◌, ◌/◌, ◌%◌, ◌<◌, ◌≤◌, ◌^◌, ◌⊎◌, inl, inr, Bool, true, false, cond, ◌&&◌, List, [], ◌∷◌, All, length, fold, Option, Some, None, Result, Ok, Err, refl, sym, ◌∙◌, ap, subst, arith}
use Rattle.std.specs.Prelude.{◌==◌, nat_lt, nat_le, is_some, option_and_then, IfOk, IfErr}
use Rattle.std.specs.Global.{Vec}
use Rattle.std.proofs.Math.Nat.{mul-mod_left, mod-eq_of_lt}
use Rattle.std.proofs.lemmas.Bool.{lt-ltb, le-leb, ltb-true, leb-true, eqb-true}
use Rattle.std.proofs.lemmas.Nat.{pow-add, shr-shr, shl-shr, shr_split, shr_below, mod-pow-add, mul-le}
use Rattle.std.proofs.lemmas.List.Elements.{All-head, All-tail}
use Rattle.chain_addr.specs.declared.fault.AddrKind.{AddrKind}
use Rattle.chain_addr.specs.declared.fault.AddrKind.TheVariants as kinds
use Rattle.chain_addr.specs.declared.fault.AddrFault.{AddrFault}
use Rattle.chain_addr.specs.declared.fault.AddrFault.TheVariants as faults
use Rattle.chain_addr.specs.declared.fault.Misread.{Misread}
use Rattle.chain_addr.specs.Groups.{number, IsGrouped}
use Rattle.chain_addr.specs.Address.{bytes_in, bytes_of, sized, address_of, Decodes}
use Rattle.chain_addr.specs.Reading.{groups_of, IsLateFault, ReadsAs}
use Rattle.chain_addr.proofs.Ungrouping.{values_small}

-- the digits that follow, in base 256 and in base 32
abbrev pub after_bytes : ℕ → List ℕ → ℕ
after_bytes n bytes = fold (λ n digit. n * 256 + digit) n bytes

abbrev pub after_groups : ℕ → List ℕ → ℕ
after_groups n groups = fold (λ n digit. n * 32 + digit) n groups

abbrev pub AreBytes : List ℕ → Type 0
AreBytes bytes = All (λ b. b < 256) bytes

more_bits : (n len : ℕ) → n / 2 ^ (8 * suc len) ≡ n / 2 ^ (8 * len) / 256
more_bits n len =
    let e : 8 * suc len ≡ 8 * len + 8 = omega arith in
    ap (λ k. n / 2 ^ k) e ∙ sym (shr-shr n (8 * len) 8)

-- the bytes that follow stand below the number before them
below : (n : ℕ) (bytes : List ℕ) → AreBytes bytes → after_bytes n bytes / 2 ^ (8 * length bytes) ≡ n
below n [] small = omega arith
below n (b ∷ bytes) small =
    let first = All-head (λ b. b < 256) b bytes small in
    let rest : after_bytes (n * 256 + b) bytes / 2 ^ (8 * length bytes) ≡ n * 256 + b = below (n * 256 + b) bytes (All-tail (λ b. b < 256) b bytes small) in
    let whole = more_bits (after_bytes (n * 256 + b) bytes) (length bytes) ∙ ap (λ x. x / 256) rest in
    let last : (n * 256 + b) / 256 ≡ n = omega (arith, first) in
    whole ∙ last

pub bytes_back : (n : ℕ) (bytes : List ℕ) → AreBytes bytes → bytes_in (length bytes) (after_bytes n bytes) ≡ bytes
bytes_back n [] small = refl
bytes_back n (b ∷ bytes) small =
    let first = All-head (λ b. b < 256) b bytes small in
    let rest = All-tail (λ b. b < 256) b bytes small in
    let here : after_bytes (n * 256 + b) bytes / 2 ^ (8 * length bytes) % 256 ≡ b = ap (λ x. x % 256) (below (n * 256 + b) bytes rest) ∙ omega (arith, first) in
    ap (λ x. x ∷ bytes_in (length bytes) (after_bytes (n * 256 + b) bytes)) here ∙ ap (λ l. b ∷ l) (bytes_back (n * 256 + b) bytes rest)

pub bytes_length : (count n : ℕ) → length (bytes_in count n) ≡ count
bytes_length zero n = refl
bytes_length (suc count) n = ap suc (bytes_length count n)

joins : (n b unit low : ℕ) → (n * 256 + b) * unit + low ≡ n * (256 * unit) + (b * unit + low)
joins n b unit low = omega arith

pub number_of_bytes : (m count n : ℕ) → after_bytes m (bytes_in count n) ≡ m * 2 ^ (8 * count) + n % 2 ^ (8 * count)
number_of_bytes m zero n = omega arith
number_of_bytes m (suc count) n =
    let b = n / 2 ^ (8 * count) % 256 in
    let unit = 2 ^ (8 * count) in
    let e : 8 + 8 * count ≡ 8 * suc count = omega arith in
    number_of_bytes (m * 256 + b) count n ∙ joins m b unit (n % unit)
    ∙ ap (λ x. m * x + (b * unit + n % unit)) (sym (pow-add 2 8 (8 * count)))
    ∙ ap (λ x. m * 2 ^ (8 + 8 * count) + x) (sym (mod-pow-add n 8 (8 * count))) ∙ ap (λ k. m * 2 ^ k + n % 2 ^ k) e

-- groups of five bits make a number of so many bits
raised : (n d unit : ℕ) → d < 32 → (n * 32 + d + 1) * unit ≤ (n + 1) * (32 * unit)
raised n d unit small =
    let le : (n * 32 + d + 1) ≤ (n + 1) * 32 = omega (arith, small) in
    let m = mul-le (n * 32 + d + 1) unit ((n + 1) * 32) unit le (omega arith) in
    let same : ((n + 1) * 32) * unit ≡ (n + 1) * (32 * unit) = omega arith in
    subst (λ x. (n * 32 + d + 1) * unit ≤ x) same m

groups_below : (n : ℕ) (groups : List ℕ) → All (λ g. g < 32) groups → after_groups n groups + 1 ≤ (n + 1) * 2 ^ (5 * length groups)
groups_below n [] small = omega arith
groups_below n (d ∷ groups) small =
    let first = All-head (λ g. g < 32) d groups small in
    let rest = groups_below (n * 32 + d) groups (All-tail (λ g. g < 32) d groups small) in
    let unit = 2 ^ (5 * length groups) in
    let up = raised n d unit first in
    let e : 5 + 5 * length groups ≡ 5 * length (d ∷ groups) = omega arith in
    let wide : (n + 1) * (32 * unit) ≡ (n + 1) * 2 ^ (5 * length (d ∷ groups)) = ap (λ x. (n + 1) * x) (sym (pow-add 2 5 (5 * length groups)) ∙ ap (λ k. 2 ^ k) e) in
    omega (arith, rest, up, wide)

pub number_below : (groups : List ℕ) → All (λ g. g < 32) groups → number 32 groups < 2 ^ (5 * length groups)
number_below groups small = let h = groups_below 0 groups small in omega (arith, h)

-- ---- from groups to bytes

pub taken : (few whole : Bool) (some : Option (List ℕ)) → few ≡ true → whole ≡ true → cond (few && whole) some None ≡ some
taken true true some f w = refl
taken true false some f w = absurd cc
taken false whole some f w = absurd cc

pub left_out : (few whole : Bool) (some : Option (List ℕ)) → (few ≡ true → whole ≡ true → ⊥) → cond (few && whole) some None ≡ None
left_out true true some never = absurd (never refl refl)
left_out true false some never = refl
left_out false whole some never = refl

pub bytes_found : (bytes groups : List ℕ) (padding : ℕ) → IsGrouped bytes groups padding → bytes_of groups ≡ Some (bytes_in (length bytes) (number 256 bytes))
bytes_found bytes groups padding g =
    let bits = g.bits in
    let few = g.few in
    let left : 5 * length groups % 8 ≡ padding = omega (arith, bits, few) in
    let whole : 5 * length groups / 8 ≡ length bytes = omega (arith, bits, few) in
    let n = number 256 bytes in
    let none : n * 2 ^ padding % 2 ^ padding ≡ 0 = mul-mod_left n (2 ^ padding) in
    let back : n * 2 ^ padding / 2 ^ padding ≡ n = shl-shr n padding in
    rw (left, whole, g.same, back, none) (taken (nat_lt padding 5) true _ (lt-ltb padding 5 few) refl)

pub bytes_are : (bytes groups : List ℕ) (padding : ℕ) → AreBytes bytes → IsGrouped bytes groups padding → bytes_of groups ≡ Some bytes
bytes_are bytes groups padding small g = bytes_found bytes groups padding g ∙ ap Some (bytes_back 0 bytes small)

pub is_grouped : (groups : List ℕ) (count padding : ℕ) → All (λ group. group < 32) groups → padding < 5 → 5 * length groups ≡ 8 * count + padding → number 32 groups % 2 ^ padding ≡ 0
    → IsGrouped (bytes_in count (number 32 groups / 2 ^ padding)) groups padding
is_grouped groups count padding small few bits none =
    let n = number 32 groups in
    let e : 5 * length groups ≡ 8 * count + padding = bits in
    let high : n / 2 ^ padding < 2 ^ (8 * count) = shr_below n (8 * count) padding (subst (λ k. n < 2 ^ k) e (number_below groups small)) in
    let all = number_of_bytes 0 count (n / 2 ^ padding) in
    let low : n / 2 ^ padding % 2 ^ (8 * count) ≡ n / 2 ^ padding = mod-eq_of_lt high in
    let split = shr_split n padding in
    record {
      small = small;
      few = few;
      bits = rw (bytes_length count (n / 2 ^ padding)) bits;
      same =
          let whole : number 256 (bytes_in count (n / 2 ^ padding)) ≡ n / 2 ^ padding = omega (arith, all, low) in
          sym (ap (λ x. x * 2 ^ padding) whole ∙ omega (arith, split, none));
    }

pub bytes_none : (groups : List ℕ) → All (λ group. group < 32) groups → ((bytes : List ℕ) (padding : ℕ) → IsGrouped bytes groups padding → ⊥) → bytes_of groups ≡ None
bytes_none groups small never =
    let padding = 5 * length groups % 8 in
    left_out (nat_lt padding 5) (number 32 groups % 2 ^ padding == 0) _ (λ few whole.
    never (bytes_in (5 * length groups / 8) (number 32 groups / 2 ^ padding)) padding
    (is_grouped groups (5 * length groups / 8) padding small (ltb-true padding 5 few) (omega arith) (eqb-true _ _ whole)))

-- ---- from a text to bytes

is_sized : (bytes : List ℕ) → 1 ≤ length bytes → length bytes ≤ 64 → sized bytes ≡ Some bytes
is_sized bytes some few = taken (nat_le 1 (length bytes)) (nat_le (length bytes) 64) (Some bytes) (le-leb _ _ some) (le-leb _ _ few)

is_not_sized : (bytes : List ℕ) → (length bytes ≡ 0) ⊎ (64 < length bytes) → sized bytes ≡ None
is_not_sized bytes (inl none) =
    left_out (nat_le 1 (length bytes)) (nat_le (length bytes) 64) (Some bytes) (λ some few. let a = leb-true 1 (length bytes) some in omega arith)
is_not_sized bytes (inr many) =
    left_out (nat_le 1 (length bytes)) (nat_le (length bytes) 64) (Some bytes) (λ some few. let a = leb-true (length bytes) 64 few in omega arith)

groups_small : (text : List ℕ) → All (λ group. group < 32) (groups_of text)
unfolding groups_of
groups_small text = values_small _

pub has_address : (prefix text bytes : List ℕ) → AreBytes bytes → ReadsAs prefix text (Ok bytes) → address_of prefix text ≡ Some bytes
unfolding address_of
has_address prefix text bytes small r =
    ap (λ (f : Option Misread). cond (is_some f) None (option_and_then sized (bytes_of (groups_of text)))) r.0
    ∙ ap (option_and_then sized) (bytes_are bytes (groups_of text) r.1.0 small r.1.1) ∙ is_sized bytes r.2 r.3

late : (kind : AddrKind) (groups : List ℕ) → All (λ group. group < 32) groups → IsLateFault kind groups → option_and_then sized (bytes_of groups) ≡ None
late kinds.Padding groups small fault = ap (option_and_then sized) (bytes_none groups small fault)
late kinds.Length groups small fault =
    let bytes = bytes_in (length fault.0) (number 256 fault.0) in
    let long : length bytes ≡ length fault.0 = bytes_length (length fault.0) (number 256 fault.0) in
    ap (option_and_then sized) (bytes_found fault.0 groups fault.1 fault.2) ∙ is_not_sized bytes (subst (λ (l : ℕ). (l ≡ 0) ⊎ (64 < l)) (sym long) fault.3)
late kinds.TooLong groups small fault = absurd fault
late kinds.Character groups small fault = absurd fault
late kinds.Mixed groups small fault = absurd fault
late kinds.Separator groups small fault = absurd fault
late kinds.Checksum groups small fault = absurd fault
late kinds.Prefix groups small fault = absurd fault

pub has_none : (prefix text : List ℕ) (fault : Misread) → ReadsAs prefix text (Err fault) → address_of prefix text ≡ None
unfolding address_of
has_none prefix text fault (inl first) = ap (λ (f : Option Misread). cond (is_some f) None (option_and_then sized (bytes_of (groups_of text)))) first
has_none prefix text fault (inr r) =
    ap (λ (f : Option Misread). cond (is_some f) None (option_and_then sized (bytes_of (groups_of text)))) r.0
    ∙ late fault.kind (groups_of text) (groups_small text) r.2

pub decoded : (prefix text bytes : List ℕ) (result : Result (Vec ℕ) AddrFault) → ReadsAs prefix text (Ok bytes) → AreBytes bytes → IfOk result (λ copy. copy.items ≡ bytes) → IfErr result (λ fault. fault ≡ faults.NoMemory) → Decodes result (address_of prefix text)
decoded prefix text bytes (Ok copy) reads small same stop = has_address prefix text bytes small reads ∙ ap Some (sym same)
decoded prefix text bytes (Err fault) reads small same stop = rw stop tt
