-- Groups of five bits that become bytes.
use Rattle.std.proofs.Common.{◌≡◌, ℕ, ◌+◌, ◌*◌, ◌/◌, ◌%◌, ◌<◌, ◌≤◌, ◌^◌, List, [], ◌∷◌, ◌++◌, All, map, Some, None, unwrap_or, true, false, cond, length, length-append, refl, sym, ◌∙◌, ap, subst, arith}
use Rattle.std.proofs.lemmas.Nat.{pow-add, pow_pos, shr_split, mod_below, mod_low}
use Rattle.chain_addr.specs.Groups.{number, IsGrouped}
use Rattle.std.specs.Prelude.{nat_lt, ◌==◌}
use Rattle.std.specs.List.{position_or_len}
use Rattle.std.proofs.lemmas.List.Elements.{All-cons}
use borrow.Author.Tests.{ltb-true}
use Rattle.chain_addr.specs.Letters.{letters}
use Rattle.chain_addr.specs.Reading.{lower, value_of}
use Rattle.chain_addr.proofs.Grouping.{number-push}

-- the bytes and the bits that wait have the bits of the groups
pub record Unpacking (bytes : List ℕ) (waiting bits : ℕ) (groups : List ℕ) : Type 0 where
  pub few : bits < 8
  pub waits : waiting < 2 ^ bits
  pub lengths : 8 * length bytes + bits ≡ 5 * length groups
  pub same : number 256 bytes * 2 ^ bits + waiting ≡ number 32 groups

arith_in : (m n whole wider waiting group : ℕ) → whole * 32 ≡ wider → n * whole + waiting ≡ m → n * wider + (waiting * 32 + group) ≡ m * 32 + group
arith_in m n whole wider waiting group e h = rw (← e, ← h) (omega arith)

-- a group waits behind the bits
pub group_in : (bytes : List ℕ) (waiting bits group : ℕ) (groups : List ℕ) → group < 32 → bits < 3 → Unpacking bytes waiting bits groups → Unpacking bytes (waiting * 32 + group) (bits + 5) (groups ++ group ∷ [])
group_in bytes waiting bits group groups small few h = record {
  few = omega arith;
  waits = let w = h.waits in rw pow-add (omega arith);
  lengths = let l = h.lengths in let n = length-append groups (group ∷ []) in omega arith;
  same = arith_in (number 32 groups) (number 256 bytes) (2 ^ bits) (2 ^ (bits + 5)) waiting group (sym (pow-add 2 bits 5)) h.same ∙ sym (number-push 32 groups group);
}

arith_out : (n byte u whole left all : ℕ) → whole ≡ 256 * u → byte * u + left ≡ all → (n * 256 + byte) * u + left ≡ n * whole + all
arith_out n byte u whole left all e split = rw (e, ← split) (omega arith)

-- a group and the bits that wait make a byte, and some bits are left
pub byte_out : (bytes : List ℕ) (waiting bits more group : ℕ) (groups : List ℕ) → bits + 5 ≡ 8 + more → bits < 8 → Unpacking bytes waiting bits groups
    → Unpacking (bytes ++ ((waiting * 32 + group) / 2 ^ more) ∷ []) ((waiting * 32 + group) % 2 ^ more) more (groups ++ group ∷ [])
byte_out bytes waiting bits more group groups e few h =
    let all = waiting * 32 + group in
    let byte = all / 2 ^ more in
    let wider : 2 ^ bits * 32 ≡ 2 ^ (8 + more) = sym (pow-add 2 bits 5) ∙ ap (λ k. 2 ^ k) e in
    record {
      few = omega arith;
      waits = mod_below all (2 ^ more) (pow_pos more);
      lengths = let l = h.lengths in let n = length-append groups (group ∷ []) in let m = length-append bytes (byte ∷ []) in omega arith;
      same = ap (λ n. n * 2 ^ more + all % 2 ^ more) (number-push 256 bytes byte)
          ∙ arith_out (number 256 bytes) byte (2 ^ more) (2 ^ (8 + more)) (all % 2 ^ more) all (pow-add 2 8 more) (shr_split all more)
          ∙ arith_in (number 32 groups) (number 256 bytes) (2 ^ bits) (2 ^ (8 + more)) waiting group wider h.same ∙ sym (number-push 32 groups group);
    }

-- fewer than five bits 0 are left
pub unpacked : (bytes : List ℕ) (waiting bits : ℕ) (groups : List ℕ) → All (λ group. group < 32) groups → bits < 5 → waiting ≡ 0 → Unpacking bytes waiting bits groups → IsGrouped bytes groups bits
unpacked bytes waiting bits groups small few none h = record {
  small = small;
  few = few;
  bits = sym h.lengths;
  same = let s = h.same in omega arith;
}

-- five bits or more are left: no bytes have these groups
pub too_many : (bytes : List ℕ) (waiting bits : ℕ) (groups : List ℕ) → 5 ≤ bits → Unpacking bytes waiting bits groups → (found : List ℕ) (padding : ℕ) → IsGrouped found groups padding → ⊥
too_many bytes waiting bits groups many h found padding g = let l = h.lengths in let m = g.bits in let f = g.few in let e = h.few in omega arith

-- a bit 1 is left
pub not_zero : (bytes : List ℕ) (waiting bits : ℕ) (groups : List ℕ) → bits < 5 → (waiting ≡ 0 → ⊥) → Unpacking bytes waiting bits groups → (found : List ℕ) (padding : ℕ) → IsGrouped found groups padding → ⊥
not_zero bytes waiting bits groups few some h found padding g =
    let l = h.lengths in let m = g.bits in let f = g.few in
    let same : padding ≡ bits = omega arith in
    let here = mod_low (number 256 bytes) bits waiting h.waits in
    let there = mod_low (number 256 found) bits 0 (pow_pos bits) in
    let is : number 256 found * 2 ^ bits + 0 ≡ number 256 bytes * 2 ^ bits + waiting =
    (let e : number 256 found * 2 ^ padding ≡ number 32 groups = sym g.same in let a = subst (λ k. number 256 found * 2 ^ k ≡ number 32 groups) same e in let s = h.same in omega arith) in
    some (sym here ∙ ap (λ n. n % 2 ^ bits) (sym is) ∙ there)

value_small : (c : ℕ) → value_of c < 32
value_small c =
    let n = position_or_len (λ l. l == lower c) letters in
    elim (nat_lt n (length letters)) as (λ b. nat_lt n (length letters) ≡ b → unwrap_or (cond b (Some n) None) 0 < 32) [
      | true ↦ λ e. ltb-true n 32 e
      | false ↦ λ _. omega arith
    ] refl

-- each character stands for a group of five bits
pub values_small : (characters : List ℕ) → All (λ group. group < 32) (map value_of characters)
values_small [] = λ k d h. absurd (omega arith)
values_small (c ∷ characters) = All-cons (λ group. group < 32) (value_of c) (map value_of characters) (value_small c) (values_small characters)
