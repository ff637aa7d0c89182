-- Bits that wait between bytes and groups.
use Rattle.std.proofs.Common.{◌≡◌, ℕ, ◌+◌, ◌-◌, ◌*◌, ◌/◌, ◌%◌, ◌<◌, ◌^◌, List, [], ◌∷◌, ◌++◌, All, length, length-append, sym, ◌∙◌, ap, subst, arith}
use Rattle.std.proofs.lemmas.Nat.{pow-add, pow_pos, shr_split, shl_below, mod_below}
use Rattle.std.proofs.lemmas.Grind.{common_steps}
use Rattle.std.proofs.lemmas.List.Sums.{fold-append}
use Rattle.chain_addr.specs.Groups.{number, IsGrouped, MovesOut}

pub number-push : (base : ℕ) (digits : List ℕ) (digit : ℕ) → number base (digits ++ digit ∷ []) ≡ number base digits * base + digit
number-push base digits digit = fold-append _ 0 digits (digit ∷ [])

-- the groups and the bits that wait have the bits of the bytes
pub record Holding (groups : List ℕ) (waiting bits : ℕ) (bytes : List ℕ) : Type 0 where
  pub small : All (λ group. group < 32) groups
  pub waits : waiting < 2 ^ bits
  pub lengths : 5 * length groups + bits ≡ 8 * length bytes
  pub same : number 32 groups * 2 ^ bits + waiting ≡ number 256 bytes

arith_moves : (n group u whole waiting left : ℕ) → whole ≡ 32 * u → group * u + left ≡ waiting → (n * 32 + group) * u + left ≡ n * whole + waiting
arith_moves n group u whole waiting left e split = rw (e, ← split) (omega arith)

pub moves : (old new : List ℕ) (waiting more group left : ℕ) → group ≡ waiting / 2 ^ more → left ≡ waiting % 2 ^ more → new ≡ old ++ group ∷ [] → (All (λ group. group < 32) old → All (λ group. group < 32) new) → MovesOut old new waiting more left
moves old new waiting more group left g l n small = record {
  longer = ap length n ∙ length-append old (group ∷ []);
  small = small;
  few = subst (λ x. x < 2 ^ more) (sym l) (mod_below waiting (2 ^ more) (pow_pos more));
  same = ap (λ x. number 32 x * 2 ^ more + left) n ∙ ap (λ x. x * 2 ^ more + left) (number-push 32 old group)
      ∙ arith_moves (number 32 old) group (2 ^ more) (2 ^ (5 + more)) waiting left (pow-add 2 5 more) (both group left waiting more g l);
}
  where
    both : (group left waiting more : ℕ) → group ≡ waiting / 2 ^ more → left ≡ waiting % 2 ^ more → group * 2 ^ more + left ≡ waiting
    both group left waiting more g l = rw (g, l) (shr_split waiting more)

-- a byte waits behind the bits
pub byte_waits : (waiting bits byte : ℕ) → waiting < 2 ^ bits → byte < 256 → waiting * 256 + byte < 2 ^ (5 + (bits + 3))
byte_waits waiting bits byte h b =
    let e : 5 + (bits + 3) ≡ bits + 8 = omega arith in
    subst (λ k. waiting * 256 + byte < 2 ^ k) (sym e) (rw pow-add (omega arith))

-- five bits and some more wait
arith_in : (m n u whole more_whole waiting byte left : ℕ) → whole * 256 ≡ more_whole → n * whole + waiting ≡ m → u ≡ n * more_whole + (waiting * 256 + byte) → u ≡ m * 256 + byte
arith_in m n u whole more_whole waiting byte left e h r = rw (r, ← e, ← h) (omega arith)

pub byte_in : (old new : List ℕ) (waiting bits byte left : ℕ) (bytes : List ℕ) → Holding old waiting bits bytes → MovesOut old new (waiting * 256 + byte) (bits + 3) left → Holding new left (bits + 3) (bytes ++ byte ∷ [])
byte_in old new waiting bits byte left bytes h m =
    let e : bits + 8 ≡ 5 + (bits + 3) = omega arith in
    let wider : 2 ^ bits * 256 ≡ 2 ^ (5 + (bits + 3)) = sym (pow-add 2 bits 8) ∙ ap (λ k. 2 ^ k) e in
    record {
      small = m.small h.small;
      waits = m.few;
      lengths = let a = m.longer in let b = h.lengths in let c = length-append bytes (byte ∷ []) in omega arith;
      same = arith_in (number 256 bytes) (number 32 old) _ (2 ^ bits) (2 ^ (5 + (bits + 3))) waiting byte left wider h.same m.same ∙ sym (number-push 256 bytes byte);
    }

-- five of the bits that wait become a group
pub group_out : (old new : List ℕ) (waiting bits more left : ℕ) (bytes : List ℕ) → bits ≡ 5 + more → Holding old waiting bits bytes → MovesOut old new waiting more left → Holding new left more bytes
group_out old new waiting bits more left bytes e h m =
    let at = subst (λ k. Holding old waiting k bytes) e h in
    record {
      small = m.small at.small;
      waits = m.few;
      lengths = let a = m.longer in let b = at.lengths in omega arith;
      same = m.same ∙ at.same;
    }

pub waits_few : (waiting bits more : ℕ) → bits ≡ 5 + more → waiting < 2 ^ bits → waiting < 2 ^ (5 + more)
waits_few waiting bits more e h = subst (λ k. waiting < 2 ^ k) e h

-- fewer than five bits are filled up
pub filled : (waiting bits : ℕ) → bits < 5 → waiting < 2 ^ bits → waiting * 2 ^ (5 - bits) < 32
filled waiting bits few h =
    let e : bits + (5 - bits) ≡ 5 = omega arith in
    subst (λ k. waiting * 2 ^ (5 - bits) < 2 ^ k) e (shl_below waiting bits (5 - bits) h)

arith_end : (n m g whole rest waiting : ℕ) → whole * rest ≡ 32 → n * whole + waiting ≡ m → g ≡ n * 32 + waiting * rest → g ≡ m * rest
arith_end n m g whole rest waiting e h r = rw (r, ← e, ← h) (omega arith)

pub grouped_end : (old new : List ℕ) (waiting bits left : ℕ) (bytes : List ℕ) → bits < 5 → Holding old waiting bits bytes → MovesOut old new (waiting * 2 ^ (5 - bits)) 0 left → 0 < bits → IsGrouped bytes new (5 - bits)
grouped_end old new waiting bits left bytes few h m some =
    let e : bits + (5 - bits) ≡ 5 = omega arith in
    let whole : 2 ^ bits * 2 ^ (5 - bits) ≡ 32 = sym (pow-add 2 bits (5 - bits)) ∙ ap (λ k. 2 ^ k) e in
    record {
      small = m.small h.small;
      few = omega arith;
      bits = let a = m.longer in let b = h.lengths in omega arith;
      same = let none = m.few in let s = m.same in
          arith_end (number 32 old) (number 256 bytes) (number 32 new) (2 ^ bits) (2 ^ (5 - bits)) waiting whole h.same (omega arith);
    }

pub grouped_whole : (groups : List ℕ) (waiting bits : ℕ) (bytes : List ℕ) → bits ≡ 0 → Holding groups waiting bits bytes → IsGrouped bytes groups 0
grouped_whole groups waiting bits bytes e h =
    let at = subst (λ k. Holding groups waiting k bytes) e h in
    record {
      small = at.small;
      few = omega arith;
      bits = let b = at.lengths in omega arith;
      same = let none = at.waits in let s = at.same in omega arith;
    }

pub All-push : (groups : List ℕ) (group : ℕ) → All (λ g. g < 32) groups → group < 32 → All (λ g. g < 32) (groups ++ group ∷ [])
All-push groups group small h = grind (arith, common_steps)
