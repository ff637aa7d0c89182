-- Accounts that are made of addresses and coins: what holds of each, and how they are met one by one.
use Rattle.std.proofs.Common.{◌≡◌, ◌∙◌, ◌<◌, ◌⊎◌, inl, inr, ℕ, List, [], ◌∷◌, ◌++◌, All, length, map, zip, get_or, refl, sym, ap, subst, arith}
use Rattle.std.specs.Global.{Vec}
use Rattle.std.proofs.lemmas.List.{length-map, length-append, get_or-map, get_or_at}
use Rattle.std.proofs.lemmas.List.Elements.{All-nil, All-cons, All-head, All-tail, All-same}
use Rattle.coin_amounts.specs.declared.coin.Coin as coin_type
use Rattle.coin_amounts.specs.declared.coins.Coins as coins_type
use Rattle.coin_amounts.specs.Coins.{coins_view}
use Rattle.coin_amounts.specs.Plain.{Coin, coin_view}
use Rattle.chain_records.specs.Keys.{IsAddress}
use Rattle.block_runner.specs.Crediting.{HaveDenoms, accounts_view}
use Rattle.block_runner.specs.Opening.{Account}

-- what holds of all coins holds of the one that was read
pub coin_has : (P : Coin → Type 0) (items : List coin_type.Coin) (i : ℕ) (item : coin_type.Coin) → All P (map coin_view items) → i < length items → item ≡ get_or items i item → P (coin_view item)
coin_has P items i item all within is =
    let here : get_or (map coin_view items) i (coin_view item) ≡ coin_view item = get_or-map coin_view items i item (coin_view item) within ∙ ap coin_view (sym is) in
    let inside : i < length (map coin_view items) = rw length-map within in
    subst P here (all i (coin_view item) inside)

-- an address of 1 to 64 bytes, and coins of denoms
pub record CanHold (account : Account) : Type 0 where
  pub address : IsAddress account.0
  pub denoms : HaveDenoms account.1

abbrev Sized : Vec ℕ → Type 0
Sized address = IsAddress address.items

abbrev Denoms : coins_type.Coins → Type 0
Denoms coins = HaveDenoms (coins_view coins)

pub all_hold : (addresses : List (Vec ℕ)) (coins : List coins_type.Coins) → All Sized addresses → All Denoms coins → All CanHold (accounts_view addresses coins)
all_hold [] coins sized denoms = All-nil CanHold
all_hold (address ∷ addresses) [] sized denoms = All-nil CanHold
all_hold (address ∷ addresses) (held ∷ coins) sized denoms =
    All-cons CanHold (address.items, coins_view held) (accounts_view addresses coins)
    (record { address = All-head Sized address addresses sized; denoms = All-head Denoms held coins denoms })
    (all_hold addresses coins (All-tail Sized address addresses sized) (All-tail Denoms held coins denoms))

-- the account that stands behind these
pub holder : (accounts done : List Account) (account : Account) (left : List Account) → All CanHold accounts → accounts ≡ done ++ account ∷ left → CanHold account
holder accounts done account left all is =
    let here : All CanHold (done ++ account ∷ left) = All-same CanHold _ accounts (sym is) all in
    let within : length done < length (done ++ account ∷ left) = omega (arith, length-append done (account ∷ left)) in
    subst CanHold (get_or_at done account left account (length done) refl) (here (length done) account within)

-- ---- accounts that are left, in a loop over addresses and coins

next_left : (addresses rest : List (Vec ℕ)) (coins others : List coins_type.Coins) (address : Vec ℕ) (held : coins_type.Coins) → addresses ≡ address ∷ rest → coins ≡ held ∷ others
    → accounts_view addresses coins ≡ (address.items, coins_view held) ∷ accounts_view rest others
next_left addresses rest coins others address held first second = ap (λ l. accounts_view l coins) first ∙ ap (accounts_view (address ∷ rest)) second

pub met : {addresses rest : List (Vec ℕ)} {coins others : List coins_type.Coins} {address : Vec ℕ} {held : coins_type.Coins} (all done : List Account) → all ≡ done ++ accounts_view addresses coins → addresses ≡ address ∷ rest → coins ≡ held ∷ others
    → all ≡ done ++ (address.items, coins_view held) ∷ accounts_view rest others
met all done is first second = is ∙ ap (λ l. done ++ l) (next_left _ _ _ _ _ _ first second)

zip_none : (addresses : List (List ℕ)) → ◌≡◌ {A = List Account} (zip addresses []) []
zip_none [] = refl
zip_none (x ∷ xs) = refl

pub left_none : (addresses : List (Vec ℕ)) (coins : List coins_type.Coins) → (addresses ≡ []) ⊎ (coins ≡ []) → accounts_view addresses coins ≡ []
left_none addresses coins (inl none) = ap (λ l. accounts_view l coins) none
left_none addresses coins (inr none) = ap (accounts_view addresses) none ∙ zip_none _
