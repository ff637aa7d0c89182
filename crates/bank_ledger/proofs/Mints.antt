-- What adding an amount to an account and to the supply does to the state.
use Rattle.std.proofs.Common.{◌≡◌, ℕ, ◌+◌, ◌<◌, ◌^◌, List, refl, subst, arith}
use Rattle.coin_amounts.specs.Denom.{IsDenom}
use Rattle.chain_records.specs.Keys.{PlainKey, IsAddress}
use Rattle.chain_records.specs.Keys as keys
use Rattle.chain_records.specs.State.{Bytes, State, Spells}
use Rattle.bank_ledger.specs.Accounts.{balance, supply}
use Rattle.bank_ledger.specs.Lawful.{HasLawfulAmounts}
use Rattle.bank_ledger.specs.Minted.{minted, IsMinted}
use Rattle.bank_ledger.specs.Amounts.{with_amount, with_more}
use Rattle.bank_ledger.proofs.Changed.{balance_below, balance_more, supply_more}
use Rattle.bank_ledger.proofs.Opening.{minted_lawful}

-- what an account has is no more than the supply
pub room : (s : State) (to denom : List ℕ) (have n total : ℕ) → HasLawfulAmounts s → have ≡ balance s to denom → total ≡ supply s denom + n → total < 2 ^ 128 → have + n < 2 ^ 128
room s to denom have n total lawful is_have is_total fits = let below = balance_below s to denom in let sums = lawful.sums denom in omega (arith, below, sums, is_have, is_total, fits)

abbrev pub Puts : Bytes → Bytes → PlainKey → ℕ → Type 0
Puts old new key n = (s : State) → Spells old s → Spells new (with_amount s key n)

pub minted_by : (p q r : Bytes) (s : State) (account whole : PlainKey) (to denom : List ℕ) (have n total : ℕ) → account ≡ keys.balance to denom → whole ≡ keys.supply denom → have ≡ balance s to denom → total ≡ supply s denom + n → total < 2 ^ 128
    → Puts p q account (have + n) → Puts q r whole total → IsAddress to → IsDenom denom → Spells p s → HasLawfulAmounts s → (t : State) × Spells r t × IsMinted s to denom n t
minted_by p q r s account whole to denom have n total is_account is_whole is_have is_total fits first second is_address is_denom spelled lawful =
    let paid = with_more s (keys.balance to denom) n in
    let one : Spells q (with_amount s (keys.balance to denom) (have + n)) = subst (λ (k : PlainKey). Spells q (with_amount s k (have + n))) is_account (first s spelled) in
    let at : Spells q paid = subst (λ (x : ℕ). Spells q (with_amount s (keys.balance to denom) (x + n))) is_have one in
    let two : Spells r (with_amount paid (keys.supply denom) total) = subst (λ (k : PlainKey). Spells r (with_amount paid k total)) is_whole (second paid at) in
    let there : Spells r (minted s to denom n) = subst (λ (x : ℕ). Spells r (with_amount paid (keys.supply denom) x)) is_total two in
    let within : supply s denom + n < 2 ^ 128 = omega (arith, is_total, fits) in (
      minted s to denom n,
      there,
      record {
        state = refl;
        balances = λ a e. balance_more s to denom n a e;
        supplies = λ e. supply_more paid denom n e;
        lawful = minted_lawful s to denom n is_address is_denom within lawful;
      },
    )
