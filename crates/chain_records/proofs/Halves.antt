-- A number of sixteen bytes is its high half and its low half.
use Rattle.std.proofs.Common.{◌≡◌, ℕ, ◌+◌, ◌*◌, ◌/◌, ◌%◌, ◌^◌, ◌<◌, [], ◌∷◌, ◌++◌, sym, ap, ◌∙◌, arith}
use Rattle.std.proofs.Math.Nat as nat
use Rattle.chain_records.specs.Pieces.{be8, be16}

high_byte : (m h k : ℕ) → m / 2 ^ 64 ≡ h → m / (2 ^ 64 * k) % 256 ≡ h / k % 256
high_byte m h k e = ap (λ (q : ℕ). q % 256) (sym (nat.div-div-eq-div-mul m (2 ^ 64) k) ∙ ap (λ (q : ℕ). q / k) e)

lowest_high_byte : (m h : ℕ) → m / 2 ^ 64 ≡ h → m / 2 ^ 64 % 256 ≡ h % 256
lowest_high_byte m h e = ap (λ (q : ℕ). q % 256) e

low_byte_7 : (h l : ℕ) → (h * 2 ^ 64 + l) / 2 ^ 56 % 256 ≡ l / 2 ^ 56 % 256
low_byte_7 h l = omega arith

low_byte_6 : (h l : ℕ) → (h * 2 ^ 64 + l) / 2 ^ 48 % 256 ≡ l / 2 ^ 48 % 256
low_byte_6 h l = omega arith

low_byte_5 : (h l : ℕ) → (h * 2 ^ 64 + l) / 2 ^ 40 % 256 ≡ l / 2 ^ 40 % 256
low_byte_5 h l = omega arith

low_byte_4 : (h l : ℕ) → (h * 2 ^ 64 + l) / 2 ^ 32 % 256 ≡ l / 2 ^ 32 % 256
low_byte_4 h l = omega arith

low_byte_3 : (h l : ℕ) → (h * 2 ^ 64 + l) / 2 ^ 24 % 256 ≡ l / 2 ^ 24 % 256
low_byte_3 h l = omega arith

low_byte_2 : (h l : ℕ) → (h * 2 ^ 64 + l) / 2 ^ 16 % 256 ≡ l / 2 ^ 16 % 256
low_byte_2 h l = omega arith

low_byte_1 : (h l : ℕ) → (h * 2 ^ 64 + l) / 2 ^ 8 % 256 ≡ l / 2 ^ 8 % 256
low_byte_1 h l = omega arith

low_byte_0 : (h l : ℕ) → (h * 2 ^ 64 + l) % 256 ≡ l % 256
low_byte_0 h l = omega arith

pub be16-halves : (h l : ℕ) → l < 2 ^ 64 → be16 (h * 2 ^ 64 + l) ≡ be8 h ++ be8 l
be16-halves h l lt =
    let m = h * 2 ^ 64 + l in
    let high : m / 2 ^ 64 ≡ h = omega arith in
    λ i. high_byte m h (2 ^ 56) high i ∷ high_byte m h (2 ^ 48) high i ∷ high_byte m h (2 ^ 40) high i ∷ high_byte m h (2 ^ 32) high i ∷ high_byte m h (2 ^ 24) high i ∷ high_byte m h (2 ^ 16) high i ∷ high_byte m h (2 ^ 8) high i ∷ lowest_high_byte m h high i
    ∷ low_byte_7 h l i ∷ low_byte_6 h l i ∷ low_byte_5 h l i ∷ low_byte_4 h l i ∷ low_byte_3 h l i ∷ low_byte_2 h l i ∷ low_byte_1 h l i ∷ low_byte_0 h l i ∷ []
