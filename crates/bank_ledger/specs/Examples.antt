-- What sends and burns do where one address has 10 of a denom, and another nothing.
use Rattle.std.specs.Prelude.{◌≡◌, ℕ, List, [], ◌∷◌, codes, Some, None, refl, if◌then◌else◌}
use Rattle.std.specs.Str.{bytes_eq}
use Rattle.coin_amounts.specs.Plain.{Coin}
use Rattle.bank_ledger.specs.Balances.{Balances, moved, lowered, shortfall}

abbrev one : List ℕ
one = 0xAA ∷ []

abbrev other : List ℕ
other = 0xBB ∷ []

abbrev opening : Balances
opening addr denom = if bytes_eq addr one then (if bytes_eq denom (codes "utok") then 10 else 0) else 0

abbrev utok : ℕ → List Coin
utok amount = record { denom = codes "utok"; amount = amount } ∷ []

to_another : moved opening one other (utok 3) one (codes "utok") ≡ 7
to_another = refl

from_another : moved opening one other (utok 3) other (codes "utok") ≡ 3
from_another = refl

to_itself : moved opening one one (utok 10) one (codes "utok") ≡ 10
to_itself = refl

enough : shortfall opening one (utok 10) ≡ None
enough = refl

too_little : shortfall opening one (utok 11) ≡ Some (record { denom = codes "utok"; have = 10; want = 11 })
too_little = refl

-- the first denom counts, though the second falls short too
first : shortfall opening one (record { denom = codes "atok"; amount = 1 } ∷ utok 11) ≡ Some (record { denom = codes "atok"; have = 0; want = 1 })
first = refl

gone : lowered opening one (utok 4) one (codes "utok") ≡ 6
gone = refl
