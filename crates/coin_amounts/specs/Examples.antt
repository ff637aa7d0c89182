-- A few texts and lists of coins, with what they are.
use Rattle.std.specs.Prelude.{◌≡◌, ℕ, ◌-◌, ◌^◌, List, [], ◌∷◌, Some, None, Ok, Err, codes, refl, true, false}
use Rattle.std.specs.Fmt.{digits}
use Rattle.coin_amounts.specs.declared.read.CoinsFault.TheVariants.{DenomBad, AmountZero, DenomTwice}
use Rattle.coin_amounts.specs.Plain.{Coin, RawCoin}
use Rattle.coin_amounts.specs.Amount.{amount_of}
use Rattle.coin_amounts.specs.Denom.{is_denom}
use Rattle.coin_amounts.specs.Coins.{coins_of}
use Rattle.coin_amounts.specs.Text.{coins_text}

zeros_in_front : amount_of (codes "00012") ≡ Some 12
zeros_in_front = refl

zero : amount_of (codes "0") ≡ Some 0
zero = refl

nothing : amount_of [] ≡ None
nothing = refl

sign : amount_of (codes "+1") ≡ None
sign = refl

dot : amount_of (codes "1.0") ≡ None
dot = refl

-- the digits of "1" in another script
foreign : amount_of (217 ∷ 161 ∷ []) ≡ None
foreign = refl

greatest : amount_of (codes "340282366920938463463374607431768211455") ≡ Some (2 ^ 128 - 1)
greatest = refl

too_great : amount_of (codes "340282366920938463463374607431768211456") ≡ None
too_great = refl

denom : is_denom (codes "ibc/0A:b.c_d-e") ≡ true
denom = refl

short : is_denom (codes "ab") ≡ false
short = refl

digit_first : is_denom (codes "1ab") ≡ false
digit_first = refl

blank : is_denom (codes "ab c") ≡ false
blank = refl

abbrev coin : List ℕ → ℕ → Coin
coin denom amount = record { denom = denom; amount = amount }

abbrev raw : List ℕ → List ℕ → RawCoin
raw denom amount = record { denom = denom; amount = amount }

in_order : coins_of (raw (codes "utok") (codes "10") ∷ raw (codes "Utok") (codes "7") ∷ raw (codes "atok") (codes "007") ∷ [])
    ≡ Ok (coin (codes "Utok") 7 ∷ coin (codes "atok") 7 ∷ coin (codes "utok") 10 ∷ [])
in_order = refl

-- the earliest place counts, and there the denom comes before the amount
earliest : coins_of (raw (codes "utok") (codes "10") ∷ raw (codes "utok") (codes "0") ∷ raw (codes "x") (codes "") ∷ []) ≡ Err (AmountZero 1)
earliest = refl

both : coins_of (raw (codes "utok") (codes "10") ∷ raw (codes "x") (codes "") ∷ []) ≡ Err (DenomBad 1)
both = refl

twice : coins_of (raw (codes "utok") (codes "10") ∷ raw (codes "atok") (codes "1") ∷ raw (codes "utok") (codes "10") ∷ []) ≡ Err (DenomTwice 2)
twice = refl

empty : coins_of [] ≡ Ok []
empty = refl

text : coins_text (coin (codes "atok") 7 ∷ coin (codes "utok") 10 ∷ []) ≡ codes "7atok,10utok"
unfolding digits
text = refl
