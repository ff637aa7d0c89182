-- Reading a number at a place of a whole input.
use Rattle.std.proofs.Common.{◌≡◌, ℕ, ◌+◌, ◌-◌, ◌*◌, ◌^◌, ◌<◌, ◌≤◌, Bool, List, ◌∷◌, length, get_or, drop, Option, None, refl, ap, ◌∙◌, arith, add-one, drop-cons}
use Rattle.std.specs.Prelude.{option_map}
use Rattle.std.proofs.lemmas.Bool.{lt-ltb, le-ltb}
use Rattle.std.proofs.lemmas.List.{drop_all}
use Rattle.std.proofs.Math.Pow.{pow_mono}
use Rattle.std.proofs.lemmas.Nat.{pow-add}
use Rattle.wasm_types.specs.Number.{last_of, number_at, place_at, HasFound}

here : (bytes : List ℕ) (at : ℕ) → at < length bytes → drop at bytes ≡ get_or bytes at 0 ∷ drop (at + 1) bytes
here bytes at lt = rw (add-one, drop-cons bytes at 0) refl

pub seven_bits : (bits : ℕ) → 7 ≤ bits → 128 ≤ 2 ^ bits
seven_bits bits le = pow_mono le

-- a number with seven bits more
pub more_bits : (bits high b : ℕ) → 7 < bits → high < 2 ^ (bits - 7) → b < 256 → 128 ≤ b → b - 128 + 128 * high < 2 ^ bits
more_bits bits high b more below byte large =
    let e1 : bits ≡ 7 + (bits - 7) = omega arith in
    let e : 2 ^ bits ≡ 128 * 2 ^ (bits - 7) = ap (λ (k : ℕ). 2 ^ k) e1 ∙ pow-add 2 7 (bits - 7) in
    omega (arith, e)

pub below_word : (bits n : ℕ) → bits ≤ 64 → n < 2 ^ bits → n < 2 ^ 64
below_word bits n le below = let most : 2 ^ bits ≤ 2 ^ 64 = pow_mono le in omega (arith, most)

module _ (signed : Bool) (bits : ℕ) (bytes : List ℕ) (at : ℕ) where
  pub found-end : length bytes ≤ at → HasFound bytes None (number_at signed bits at (drop at bytes))
  unfolding number_at
  found-end le = rw (drop_all at bytes le) refl

  pub found-last : at < length bytes → get_or bytes at 0 < 128 → (n : Option ℕ) → n ≡ last_of signed bits (get_or bytes at 0) → number_at signed bits at (drop at bytes) ≡ option_map (λ n. (n, place_at (at + 1) bytes)) n
  unfolding number_at
  found-last lt small n e = rw (here bytes at lt, lt-ltb _ _ small, e) refl

  pub found-long : at < length bytes → 128 ≤ get_or bytes at 0 → bits ≤ 7 → number_at signed bits at (drop at bytes) ≡ None
  unfolding number_at
  found-long lt large le = rw (here bytes at lt, le-ltb _ _ large, le-ltb _ _ le) refl

  pub found-more : at < length bytes → 128 ≤ get_or bytes at 0 → 7 < bits → number_at signed bits at (drop at bytes) ≡ option_map (λ x. (get_or bytes at 0 - 128 + 128 * x.0, x.1)) (number_at signed (bits - 7) (at + 1) (drop (at + 1) bytes))
  unfolding number_at
  found-more lt large more = rw (here bytes at lt, le-ltb _ _ large, lt-ltb _ _ more) refl
