-- The six values that close a checksum: moving them in changes the remainder as adding them to it does.
use Rattle.std.proofs.Common.{◌≡◌, ℕ, ◌+◌, ◌*◌, ◌/◌, ◌%◌, ◌<◌, ◌^◌, bit_xor, cond, eqb, true, false, sym, ◌∙◌, ap, subst, arith}
use Rattle.std.specs.Int.{bit_at}
use Rattle.std.proofs.lemmas.Nat.{xor_block, xor_lt, xor_comm, shr_high, mod_low}
use Rattle.std.specs.Int.Bits.{xor_self, xor_zero_l, xor_zero_r}
use Rattle.std.proofs.lemmas.Nat.Bits.{bit_at_xor, same_from_bits}
use Rattle.chain_addr.specs.Checksum.{part, generated, step}

xor_assoc : (a b c : ℕ) → bit_xor (bit_xor a b) c ≡ bit_xor a (bit_xor b c)
xor_assoc a b c = same_from_bits _ _ (λ i.
    let l = bit_at_xor (bit_xor a b) c i in
    let m = bit_at_xor a b i in
    let r = bit_at_xor a (bit_xor b c) i in
    let n = bit_at_xor b c i in
    mixed (bit_at a i) (bit_at b i) (bit_at c i) _ _ _ _ m l n r)
  where
    mixed : (x y z xy xyz yz r : ℕ) → xy ≡ (x + y) % 2 → xyz ≡ (xy + z) % 2 → yz ≡ (y + z) % 2 → r ≡ (x + yz) % 2 → xyz ≡ r
    mixed x y z xy xyz yz r a b c d = omega arith

part_small : (bits generator : ℕ) → generator < 2 ^ 30 → part bits generator < 2 ^ 30
part_small bits generator h = elim (eqb (bits % 2) 1) as (λ b. cond b generator 0 < 2 ^ 30) [ true ↦ h | false ↦ omega arith ]

generated_small : (top : ℕ) → generated top < 2 ^ 30
generated_small top =
    xor_lt 30 _ _ (xor_lt 30 _ _ (xor_lt 30 _ _ (xor_lt 30 _ _ (part_small top 0x3b6a57b2 (omega arith)) (part_small (top / 2) 0x26508e6d (omega arith))) (part_small (top / 4) 0x1ea119fa (omega arith))) (part_small (top / 8) 0x3d4233dd (omega arith))) (part_small (top / 16) 0x2a1462b3 (omega arith))

pub step_small : (state value : ℕ) → value < 32 → step state value < 2 ^ 30
unfolding step
step_small state value h = xor_lt 30 _ _ (omega arith) (generated_small (state / 0x2000000))

-- a value is moved in where something was added before
moved : (z p c : ℕ) → p < 2 ^ 25 → c < 32 → step (bit_xor z p) c ≡ bit_xor (step z 0) (p * 32 + c)
unfolding step
moved z p c hp hc =
    let t = z / 2 ^ 25 in
    let l = z % 2 ^ 25 in
    let hl : l < 2 ^ 25 = omega arith in
    let split : z ≡ t * 2 ^ 25 + l = omega arith in
    let whole : bit_xor z p ≡ bit_xor t 0 * 2 ^ 25 + bit_xor l p =
    ap (λ x. bit_xor x p) split ∙ ap (bit_xor (t * 2 ^ 25 + l)) (zero_block p) ∙ xor_block 25 t 0 l p hl hp in
    let small : bit_xor l p < 2 ^ 25 = xor_lt 25 l p hl hp in
    let high : bit_xor z p / 2 ^ 25 ≡ t = ap (λ x. x / 2 ^ 25) whole ∙ shr_high (bit_xor t 0) 25 (bit_xor l p) small ∙ xor_zero_r t in
    let low : bit_xor z p % 2 ^ 25 ≡ bit_xor l p = ap (λ x. x % 2 ^ 25) whole ∙ mod_low (bit_xor t 0) 25 (bit_xor l p) small in
    let value : bit_xor l p * 32 + c ≡ bit_xor (l * 32 + 0) (p * 32 + c) = sym (xor_block 5 l p 0 c (omega arith) hc) in
    let A = l * 32 + 0 in
    let B = p * 32 + c in
    let G = generated t in
    ap (λ x. bit_xor (x * 32 + c) (generated (bit_xor z p / 2 ^ 25))) low ∙ ap (λ x. bit_xor (bit_xor l p * 32 + c) (generated x)) high
    ∙ ap (λ x. bit_xor x G) value
    ∙ xor_assoc A B G ∙ ap (bit_xor A) (xor_comm B G) ∙ sym (xor_assoc A G B)
  where
    zero_block : (p : ℕ) → p ≡ 0 * 2 ^ 25 + p
    zero_block p = omega arith

-- six values change the remainder as adding their number to what six values 0 leave does
abbrev pub zeros_after : ℕ → ℕ
zeros_after s = step (step (step (step (step (step s 0) 0) 0) 0) 0) 0

abbrev pub six_digits : ℕ → ℕ → ℕ → ℕ → ℕ → ℕ → ℕ
six_digits c1 c2 c3 c4 c5 c6 = (((((0 * 32 + c1) * 32 + c2) * 32 + c3) * 32 + c4) * 32 + c5) * 32 + c6

appended : (s c1 c2 c3 c4 c5 c6 : ℕ) → c1 < 32 → c2 < 32 → c3 < 32 → c4 < 32 → c5 < 32 → c6 < 32
    → step (step (step (step (step (step s c1) c2) c3) c4) c5) c6 ≡ bit_xor (zeros_after s) (six_digits c1 c2 c3 c4 c5 c6)
appended s c1 c2 c3 c4 c5 c6 h1 h2 h3 h4 h5 h6 =
    let p1 = 0 * 32 + c1 in
    let p2 = p1 * 32 + c2 in
    let p3 = p2 * 32 + c3 in
    let p4 = p3 * 32 + c4 in
    let p5 = p4 * 32 + c5 in
    let e1 : step s c1 ≡ bit_xor (step s 0) p1 = ap (λ x. step x c1) (sym (xor_zero_r s)) ∙ moved s 0 c1 (omega arith) h1 in
    let e2 = ap (λ x. step x c2) e1 ∙ moved (step s 0) p1 c2 (omega arith) h2 in
    let e3 = ap (λ x. step x c3) e2 ∙ moved (step (step s 0) 0) p2 c3 (omega arith) h3 in
    let e4 = ap (λ x. step x c4) e3 ∙ moved (step (step (step s 0) 0) 0) p3 c4 (omega arith) h4 in
    let e5 = ap (λ x. step x c5) e4 ∙ moved (step (step (step (step s 0) 0) 0) 0) p4 c5 (omega arith) h5 in
    ap (λ x. step x c6) e5 ∙ moved (step (step (step (step (step s 0) 0) 0) 0) 0) p5 c6 (omega arith) h6

xor_back : (z p : ℕ) → bit_xor z (bit_xor z p) ≡ p
xor_back z p = sym (xor_assoc z z p) ∙ ap (λ x. bit_xor x p) (xor_self z) ∙ xor_zero_l p

-- after six values that are the digits of what six values 0 leave, but for 1, the remainder is 1
pub closed : (s rest c1 c2 c3 c4 c5 c6 : ℕ) → rest ≡ bit_xor (step (step (step (step (step (step s 0) 0) 0) 0) 0) 0) 1
    → c1 ≡ rest / 0x2000000 % 32 → c2 ≡ rest / 0x100000 % 32 → c3 ≡ rest / 0x8000 % 32 → c4 ≡ rest / 0x400 % 32 → c5 ≡ rest / 0x20 % 32 → c6 ≡ rest / 1 % 32
    → step (step (step (step (step (step s c1) c2) c3) c4) c5) c6 ≡ 1
closed s rest c1 c2 c3 c4 c5 c6 e d1 d2 d3 d4 d5 d6 =
    let z6 = zeros_after s in
    let fits : rest < 2 ^ 30 = subst (λ n. n < 2 ^ 30) (sym e) (xor_lt 30 z6 1 (step_small _ 0 (omega arith)) (omega arith)) in
    let all : six_digits c1 c2 c3 c4 c5 c6 ≡ rest = omega arith in
    appended s c1 c2 c3 c4 c5 c6 (omega arith) (omega arith) (omega arith) (omega arith) (omega arith) (omega arith) ∙ ap (bit_xor z6) (all ∙ e) ∙ xor_back z6 1

-- no other six values do
pub closing_number : (s c1 c2 c3 c4 c5 c6 : ℕ) → c1 < 32 → c2 < 32 → c3 < 32 → c4 < 32 → c5 < 32 → c6 < 32
    → step (step (step (step (step (step s c1) c2) c3) c4) c5) c6 ≡ 1 → six_digits c1 c2 c3 c4 c5 c6 ≡ bit_xor (zeros_after s) 1
closing_number s c1 c2 c3 c4 c5 c6 h1 h2 h3 h4 h5 h6 one =
    let z6 = zeros_after s in
    let p = six_digits c1 c2 c3 c4 c5 c6 in
    sym (xor_back z6 p) ∙ ap (bit_xor z6) (sym (appended s c1 c2 c3 c4 c5 c6 h1 h2 h3 h4 h5 h6) ∙ one)
