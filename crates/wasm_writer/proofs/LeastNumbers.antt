-- The shortest spellings of numbers.
use Rattle.std.proofs.Common.{◌≡◌, ℕ, zero, suc, ◌+◌, ◌-◌, ◌*◌, ◌/◌, ◌%◌, ◌^◌, ◌≤◌, ◌<◌, Bool, true, false, List, [], ◌∷◌, length, Option, Some, None, refl, sym, ap, subst, ◌∙◌, arith, inl, inr}
use Rattle.std.proofs.lemmas.Bool.{lt-ltb, le-ltb, lt-leb, le-leb, cases_lt}
use Rattle.std.proofs.Math.Pow.{pow_pos}
use Rattle.wasm_types.specs.Number.{last_of, IsNumber}
use Rattle.wasm_types.specs.Part.{number}
use Rattle.wasm_writer.specs.ShortNumber.{unsigned_in, unsigned, signed_byte, alone_or, signed_in, signed_32, signed_64}
use Rattle.wasm_writer.proofs.Halves.{two_halves, seven_fewer, half_is}
use Rattle.wasm_writer.proofs.Least.{Bytes, Shorter, Least, itself, renamed}

-- one byte more in front
longer : (signed : Bool) (bits b : ℕ) (text : List ℕ) (n high : ℕ) → 128 ≤ b → 7 < bits → n + 128 ≡ b + 128 * high → IsNumber signed (bits - 7) text high → IsNumber signed bits (b ∷ text) n
longer signed bits b [] n high large more e h = absurd h
longer signed bits b (c ∷ text) n high large more e h = (large, more, high, e, h)

-- ---- without sign

last_unsigned : (bits b n : ℕ) → last_of false bits b ≡ Some n → (b < 2 ^ bits) × (b ≡ n)
last_unsigned bits b n e =
    elim (cases_lt b (2 ^ bits)) [
      | inl lt ↦ let f = rw (lt-ltb _ _ lt) at e in (lt, cc)
      | inr le ↦ let f = rw (le-ltb _ _ le) at e in absurd cc
    ]

-- a byte that stands alone
alone : (bits m : ℕ) (other : List ℕ) → m < 128 → m < 2 ^ bits → 0 < length other → Shorter (λ t. IsNumber false bits t m) other (m ∷ [])
alone bits m other small fits some = record {
  bytes = (omega arith, tt);
  spelled = (small, rw (lt-ltb _ _ fits) refl);
  short = omega arith;
}

pub unsigned_short : (k bits : ℕ) (other : List ℕ) (m n : ℕ) → Bytes other → IsNumber false bits other n → m ≤ n → 0 < bits → bits ≤ 7 * k → Shorter (λ t. IsNumber false bits t m) other (unsigned_in k m)
unfolding unsigned_in
unsigned_short zero bits other m n bytes h le some most = absurd (omega arith)
unsigned_short (suc k) bits [] m n bytes h le some most = absurd h
unsigned_short (suc k) bits (b ∷ []) m n bytes h le some most =
    let u = last_unsigned bits b n h.1 in
    let small : m < 128 = omega (arith, u.1, h.0) in
    rw (lt-ltb _ _ small) (alone bits m (b ∷ []) small (omega (arith, u.0, u.1)) (omega arith))
unsigned_short (suc k) bits (b ∷ c ∷ rest) m n bytes h le some most =
    elim (cases_lt m 128) [
      | inl small ↦ rw (lt-ltb _ _ small) (alone bits m (b ∷ c ∷ rest) small (omega (arith, seven_fewer bits h.1, pow_pos (bits - 7))) (omega arith))
      | inr large ↦
          let ih = unsigned_short k (bits - 7) (c ∷ rest) (m / 128) h.2 bytes.1 h.4 (omega (arith, h.3, bytes.0)) (omega (arith, h.1)) (omega (arith, h.1)) in
          rw (le-ltb _ _ large) (record {
            bytes = (omega arith, ih.bytes);
            spelled = longer false bits (m % 128 + 128) (unsigned_in k (m / 128)) m (m / 128) (omega arith) h.1 (omega arith) ih.spelled;
            short = omega (arith, ih.short);
          })
    ]

pub least_unsigned : Least (number false 32) unsigned
least_unsigned = record { holds = λ n other bytes s. unsigned_short 5 32 other n n bytes s (omega arith) (omega arith) (omega arith) }

-- ---- with sign

module _ (bits b n : ℕ) (some : 0 < bits) where
  -- what a last byte stands for, below a half and from it on
  last_low : b < 64 → last_of true bits b ≡ Some n → (b < 2 ^ (bits - 1)) × (b ≡ n)
  last_low low e =
      let f = rw (lt-ltb _ _ low) at e in
      elim (cases_lt b (2 ^ (bits - 1))) [
        | inl lt ↦ let g = rw (lt-ltb _ _ lt) at f in (lt, cc)
        | inr le ↦ let g = rw (le-ltb _ _ le) at f in absurd cc
      ]

  last_high : 64 ≤ b → last_of true bits b ≡ Some n → (128 ≤ b + 2 ^ (bits - 1)) × (2 ^ bits - (128 - b) ≡ n)
  last_high high e =
      let f = rw (le-ltb _ _ high) at e in
      elim (cases_lt (b + 2 ^ (bits - 1)) 128) [
        | inl lt ↦ let g = rw (lt-leb _ _ lt) at f in absurd cc
        | inr le ↦ let g = rw (le-leb _ _ le) at f in (le, cc)
      ]

pub signed_fits : (bits : ℕ) (other : List ℕ) (n : ℕ) → Bytes other → IsNumber true bits other n → 0 < bits → n < 2 ^ bits
signed_fits bits [] n bytes h some = absurd h
signed_fits bits (b ∷ []) n bytes h some =
    elim (cases_lt b 64) [
      | inl low ↦ let l = last_low bits b n some low h.1 in omega (arith, l.0, l.1, two_halves bits some)
      | inr high ↦ let l = last_high bits b n some high h.1 in omega (arith, l.0, l.1, h.0, pow_pos bits)
    ]
signed_fits bits (b ∷ c ∷ rest) n bytes h some =
    let ih = signed_fits (bits - 7) (c ∷ rest) h.2 bytes.1 h.4 (omega (arith, h.1)) in
    omega (arith, ih, h.3, bytes.0, seven_fewer bits h.1)

-- the three cases of a number with sign
module _ (bits n : ℕ) where
  byte_low : n < 64 → n < 2 ^ (bits - 1) → signed_byte bits n ≡ Some n
  byte_low low lt = rw (lt-ltb _ _ low, lt-ltb _ _ lt) refl

  byte_high : 2 ^ (bits - 1) ≤ n → 2 ^ bits ≤ n + 64 → signed_byte bits n ≡ Some (n + 128 - 2 ^ bits)
  byte_high le near =
      elim (cases_lt n 64) [
        | inl low ↦ rw (lt-ltb _ _ low, le-ltb _ _ le, le-leb _ _ near) refl
        | inr high ↦ rw (le-ltb _ _ high, le-leb _ _ near) refl
      ]

  byte_far : 64 ≤ n → n + 64 < 2 ^ bits → signed_byte bits n ≡ None
  byte_far high far = rw (le-ltb _ _ high, lt-leb _ _ far) refl

-- a byte that spells a number with sign is the one that spells it alone
is_byte : (bits b n : ℕ) → 0 < bits → b < 128 → last_of true bits b ≡ Some n → signed_byte bits n ≡ Some b
is_byte bits b n some small e =
    elim (cases_lt b 64) [
      | inl low ↦
          let l = last_low bits b n some low e in
          byte_low bits n (omega (arith, l.1)) (omega (arith, l.0, l.1)) ∙ ap Some (sym l.1)
      | inr high ↦
          let l = last_high bits b n some high e in
          let two = two_halves bits some in
          let back : n + 128 - 2 ^ bits ≡ b = omega (arith, l.0, l.1) in
          byte_high bits n (omega (arith, l.0, l.1)) (omega (arith, l.0, l.1)) ∙ ap Some back
    ]

-- how a number with sign begins
first_alone : (k bits n b : ℕ) → signed_byte bits n ≡ Some b → signed_in (suc k) bits n ≡ b ∷ []
unfolding signed_in
first_alone k bits n b e = ap (λ (o : Option ℕ). alone_or o ((n % 128 + 128) ∷ signed_in k (bits - 7) (n / 128))) e

first_longer : (k bits n : ℕ) → signed_byte bits n ≡ None → signed_in (suc k) bits n ≡ (n % 128 + 128) ∷ signed_in k (bits - 7) (n / 128)
unfolding signed_in
first_longer k bits n e = ap (λ (o : Option ℕ). alone_or o ((n % 128 + 128) ∷ signed_in k (bits - 7) (n / 128))) e

module _ (bits n : ℕ) (other : List ℕ) (some : 0 < bits) (more : 7 < bits) (fits : n < 2 ^ bits) (present : 0 < length other) where
  low_short : (k : ℕ) → n < 64 → Shorter (λ t. IsNumber true bits t n) other (signed_in (suc k) bits n)
  low_short k low =
      let lt : n < 2 ^ (bits - 1) = omega (arith, half_is bits more) in
      renamed (λ t. IsNumber true bits t n) other (n ∷ []) (signed_in (suc k) bits n) (first_alone k bits n n (byte_low bits n low lt)) (record {
        bytes = (omega arith, tt);
        spelled = (omega arith, rw (lt-ltb _ _ low, lt-ltb _ _ lt) refl);
        short = omega arith;
      })

  high_short : (k : ℕ) → 2 ^ bits ≤ n + 64 → Shorter (λ t. IsNumber true bits t n) other (signed_in (suc k) bits n)
  high_short k near =
      let h = half_is bits more in
      let two = two_halves bits some in
      let b : ℕ = n + 128 - 2 ^ bits in
      let large : 64 ≤ b = omega arith in
      let least : 128 ≤ b + 2 ^ (bits - 1) = omega arith in
      let value : 2 ^ bits - (128 - b) ≡ n = omega arith in
      renamed (λ t. IsNumber true bits t n) other (b ∷ []) (signed_in (suc k) bits n) (first_alone k bits n b (byte_high bits n (omega arith) near)) (record {
        bytes = (omega arith, tt);
        spelled = (omega arith, rw (le-ltb _ _ large, le-leb _ _ least) (ap Some value));
        short = omega arith;
      })

pub signed_short : (k bits : ℕ) (other : List ℕ) (n : ℕ) → Bytes other → IsNumber true bits other n → 0 < bits → bits ≤ 7 * k → Shorter (λ t. IsNumber true bits t n) other (signed_in k bits n)
signed_short zero bits other n bytes h some most = absurd (omega arith)
signed_short (suc k) bits [] n bytes h some most = absurd h
signed_short (suc k) bits (b ∷ []) n bytes h some most =
    itself (λ t. IsNumber true bits t n) (b ∷ []) (signed_in (suc k) bits n) bytes h (first_alone k bits n b (is_byte bits b n some h.0 h.1))
signed_short (suc k) bits (b ∷ c ∷ rest) n bytes h some most =
    let fits = signed_fits bits (b ∷ c ∷ rest) n bytes h some in
    elim (cases_lt n 64) [
      | inl low ↦ low_short bits n (b ∷ c ∷ rest) some h.1 fits (omega arith) k low
      | inr high ↦
          elim (cases_lt (n + 64) (2 ^ bits)) [
            | inr near ↦ high_short bits n (b ∷ c ∷ rest) some h.1 fits (omega arith) k near
            | inl far ↦
                let same : n / 128 ≡ h.2 = omega (arith, h.3, h.0, bytes.0) in
                let ih = signed_short k (bits - 7) (c ∷ rest) h.2 bytes.1 h.4 (omega (arith, h.1)) (omega (arith, h.1)) in
                let high-is = subst (λ (m : ℕ). Shorter (λ t. IsNumber true (bits - 7) t m) (c ∷ rest) (signed_in k (bits - 7) m)) (sym same) ih in
                renamed (λ t. IsNumber true bits t n) (b ∷ c ∷ rest) ((n % 128 + 128) ∷ signed_in k (bits - 7) (n / 128)) (signed_in (suc k) bits n) (first_longer k bits n (byte_far bits n high far)) (record {
                  bytes = (omega arith, high-is.bytes);
                  spelled = longer true bits (n % 128 + 128) (signed_in k (bits - 7) (n / 128)) n (n / 128) (omega arith) h.1 (omega arith) high-is.spelled;
                  short = omega (arith, high-is.short);
                })
          ]
    ]

pub least_signed_32 : Least (number true 32) signed_32
least_signed_32 = record { holds = λ n other bytes s. signed_short 5 32 other n bytes s (omega arith) (omega arith) }

pub least_signed_64 : Least (number true 64) signed_64
least_signed_64 = record { holds = λ n other bytes s. signed_short 10 64 other n bytes s (omega arith) (omega arith) }
