-- How many keys of a bounded length may still come after one. It falls from a key to a later one.
use Rattle.std.proofs.Common.{◌≡◌, ℕ, zero, suc, ◌+◌, ◌-◌, ◌*◌, ◌<◌, ◌≤◌, Bool, true, false, ◌&&◌, List, [], ◌∷◌, ◌++◌, length, get_or, refl, sym, ap, ◌∙◌, subst, arith, length-append}
use Rattle.std.proofs.Math.Nat.{mul-le-mul_right}
use Rattle.std.specs.Char.{is_ascii_alphabetic}
use Rattle.std.specs.List.{AllByRecursion, list_all}
use Rattle.std.proofs.lemmas.Bool.Decides.{nat_tests}
use Rattle.std.specs.declared.cmp.Ordering.{Ordering}
use Rattle.std.specs.declared.cmp.Ordering.TheVariants.{Less, Equal, Greater}
use Rattle.std.specs.Ordering.{nat_cmp, is_le, ordering_then, MatchOrdering}
use Rattle.std.specs.Cmp.{ranked}
use Rattle.std.specs.Cmp.Lexicographic.{slice_cmp}
use Rattle.coin_amounts.specs.Denom.{is_denom_byte, IsDenom}
use Rattle.chain_records.specs.Keys.{key_bytes, IsAddress}
use Rattle.chain_records.specs.Keys as keys
use Rattle.bank_ledger.proofs.Places.{front, place_of, cmp-prefix, denom_short}
use Rattle.bank_ledger.proofs.Holding.{next_later}

abbrev pub AreBytes : List ℕ → Type 0
AreBytes bytes = AllByRecursion (λ b. b < 256) bytes

-- how many texts of at most so many digits there are, where a digit may be missing
pub weight : ℕ → ℕ
weight zero = 1
weight (suc n) = 257 * weight n

pub rank : ℕ → List ℕ → ℕ
rank zero bytes = 0
rank (suc n) [] = 0
rank (suc n) (b ∷ bytes) = (b + 1) * weight n + rank n bytes

-- what is left of the texts of at most 200 bytes
pub room : List ℕ → ℕ
room bytes = weight 200 - rank 200 bytes

positive : (n : ℕ) → 0 < weight n
unfolding weight
positive zero = omega arith
positive (suc n) = omega (arith, positive n)

place_below : (b w r : ℕ) → b < 256 → r < w → (b + 1) * w + r < 257 * w
place_below b w r digit less = let h : b + 1 ≤ 256 = omega arith in let m = mul-le-mul_right w h in omega (arith, m)

pub below : (n : ℕ) (bytes : List ℕ) → AreBytes bytes → rank n bytes < weight n
unfolding weight rank
below zero bytes are = omega arith
below (suc n) [] are = omega (arith, positive n)
below (suc n) (b ∷ bytes) are = place_below b (weight n) (rank n bytes) are.0 (below n bytes are.1)

place_less : (x y w r q : ℕ) → x < y → r < w → (x + 1) * w + r < (y + 1) * w + q
place_less x y w r q less small = let h : x + 1 + 1 ≤ y + 1 = omega arith in let m = mul-le-mul_right w h in omega (arith, m)

first_digit : (y w q : ℕ) → 0 < w → 0 < (y + 1) * w + q
first_digit y w q some = let h : 1 ≤ y + 1 = omega arith in let m = mul-le-mul_right w h in omega (arith, m)

same_place : (x y w r q : ℕ) → x ≡ y → r < q → (x + 1) * w + r < (y + 1) * w + q
same_place x y w r q e less = subst (λ (z : ℕ). (x + 1) * w + r < (z + 1) * w + q) e (omega arith)

rank_less : (n : ℕ) (a b : List ℕ) → slice_cmp nat_cmp a b ≡ Less → length b ≤ n → AreBytes a → rank n a < rank n b
unfolding rank
rank_less n [] [] less short are = absurd cc
rank_less n (x ∷ xs) [] less short are = absurd cc
rank_less zero a (y ∷ ys) less short are = absurd (omega arith)
rank_less (suc n) [] (y ∷ ys) less short are = first_digit y (weight n) (rank n ys) (positive n)
rank_less (suc n) (x ∷ xs) (y ∷ ys) less short are = go (nat_cmp x y) (ranked x y _ refl) less (λ e. rank_less n xs ys e (omega arith) are.1)
  where
    go : (r : Ordering) → MatchOrdering r (x < y) (x ≡ y) (y < x) → ordering_then r (slice_cmp nat_cmp xs ys) ≡ Less → (slice_cmp nat_cmp xs ys ≡ Less → rank n xs < rank n ys)
        → (x + 1) * weight n + rank n xs < (y + 1) * weight n + rank n ys
    go Less order e rest = place_less x y (weight n) (rank n xs) (rank n ys) order (below n xs are.1)
    go Equal order e rest = same_place x y (weight n) (rank n xs) (rank n ys) order (rest e)
    go Greater order e rest = absurd cc

left_less : (w a b : ℕ) → a < b → b < w → w - b < w - a
left_less w a b less within = omega arith

pub room_less : (a b : List ℕ) → slice_cmp nat_cmp a b ≡ Less → length b ≤ 200 → AreBytes a → AreBytes b → room b < room a
unfolding room
room_less a b less short are_a are_b = left_less (weight 200) (rank 200 a) (rank 200 b) (rank_less 200 a b less short are_a) (below 200 b are_b)

-- ---- the bytes of the keys of an address's balances

pub are_bytes : (bytes : List ℕ) → ((i : ℕ) → get_or bytes i 0 < 256) → AreBytes bytes
are_bytes [] h = tt
are_bytes (b ∷ bytes) h = (h 0, are_bytes bytes (λ i. h (suc i)))

pub bytes_joined : (xs ys : List ℕ) → AreBytes xs → AreBytes ys → AreBytes (xs ++ ys)
bytes_joined [] ys h g = g
bytes_joined (x ∷ xs) ys h g = (h.0, bytes_joined xs ys h.1 g)

denom_byte : (b : ℕ) → is_denom_byte b ≡ true → b < 256
denom_byte b e = grind (arith, nat_tests)

both_true : (a b : Bool) → (a && b) ≡ true → (a ≡ true) × (b ≡ true)
both_true true b e = (refl, e)
both_true false b e = absurd cc

denom_rest : (rest : List ℕ) → list_all is_denom_byte rest ≡ true → AreBytes rest
denom_rest [] e = tt
denom_rest (b ∷ rest) e = let both = both_true _ _ e in (denom_byte b both.0, denom_rest rest both.1)

letter_byte : (b : ℕ) → is_ascii_alphabetic b ≡ true → b < 256
letter_byte b e = grind (arith, nat_tests)

pub denom_bytes : (denom : List ℕ) → IsDenom denom → AreBytes denom
denom_bytes [] e = tt
denom_bytes (b ∷ rest) e =
    let one = both_true _ _ e in
    let two = both_true _ _ one.0 in
    let three = both_true _ _ two.0 in
    (letter_byte b three.0, denom_rest rest one.1)

front_bytes : (addr : List ℕ) → length addr ≤ 64 → AreBytes addr → AreBytes (front addr)
front_bytes addr short are = (omega arith, (omega arith, are))

pub place_bytes : (addr lo place : List ℕ) → IsAddress addr → AreBytes addr → AreBytes lo → place ≡ key_bytes (keys.balance addr lo) → AreBytes place
place_bytes addr lo place is are lo_are e = subst AreBytes (sym (e ∙ place_of addr lo)) (bytes_joined (front addr) lo (front_bytes addr is.1 are) lo_are)

next_short : (addr denom : List ℕ) → length addr ≤ 64 → length denom ≤ 128 → length (front addr ++ (denom ++ 0 ∷ [])) ≤ 200
next_short addr denom short denom_short = omega (arith, length-append (front addr) (denom ++ 0 ∷ []), length-append denom (0 ∷ []))

-- there is less room from the place behind a denom on
pub room_falls : (addr lo denom place next : List ℕ) → IsAddress addr → AreBytes addr → AreBytes lo → IsDenom denom → is_le (slice_cmp nat_cmp lo denom) ≡ true → place ≡ key_bytes (keys.balance addr lo)
    → next ≡ key_bytes (keys.balance addr (denom ++ 0 ∷ [])) → room next < room place
room_falls addr lo denom place next is are lo_are is_denom le is_place is_next =
    let later : slice_cmp nat_cmp place next ≡ Less =
    ap (λ (p : List ℕ). slice_cmp nat_cmp p next) (is_place ∙ place_of addr lo) ∙ ap (slice_cmp nat_cmp (front addr ++ lo)) (is_next ∙ place_of addr (denom ++ 0 ∷ [])) ∙ cmp-prefix (front addr) lo (denom ++ 0 ∷ []) ∙ next_later lo denom le in
    let short : length next ≤ 200 = subst (λ (p : List ℕ). length p ≤ 200) (sym (is_next ∙ place_of addr (denom ++ 0 ∷ []))) (next_short addr denom is.1 (denom_short denom is_denom)) in
    room_less place next later short (place_bytes addr lo place is are lo_are is_place) (place_bytes addr (denom ++ 0 ∷ []) next is are (bytes_joined denom (0 ∷ []) (denom_bytes denom is_denom) (omega arith, tt)) is_next)
