-- Not for readers of contracts: it serves the proofs of this crate alone.
-- Records to which accounts are added one by one.
use Rattle.std.specs.Prelude.{◌≡◌, ℕ, Bool, true, false, List, map, zip, All, IfSome, Result, Ok, Err, ⊤}
use Rattle.std.specs.Global.{Vec}
use Rattle.coin_amounts.specs.Plain.{Coin}
use Rattle.coin_amounts.specs.Denom.{IsDenom}
use Rattle.coin_amounts.specs.Coins.{coins_view}
use Rattle.coin_amounts.specs.declared.coins.Coins as coins_type
use Rattle.chain_addr.specs.Letters.{IsPrefix}
use Rattle.chain_records.specs.Keys.{IsAddress}
use Rattle.chain_records.specs.Records.{PlainFacts, bytes_view}
use Rattle.chain_records.specs.State.{Bytes, State, Spells}
use Rattle.bank_ledger.specs.Accounts.{supply}
use Rattle.bank_ledger.specs.Minted.{opening}
use Rattle.block_runner.specs.declared.stop.GenesisStop.{GenesisStop}
use Rattle.block_runner.specs.declared.stop.GenesisStop.TheVariants as stops
use Rattle.query_router.specs.Lawful.{IsLawful}
use Rattle.block_runner.specs.Opening.{Account, fits, all_credited}

-- the facts of a lawful state
pub record AreLawfulFacts (f : PlainFacts) : Type 0 where
  pub prefix : IsPrefix f.prefix
  pub authority : IfSome f.authority IsAddress

abbrev pub HaveDenoms : List Coin → Type 0
HaveDenoms coins = All (λ coin. IsDenom coin.denom) coins

-- each address with the coins at its place
abbrev pub accounts_view : List (Vec ℕ) → List coins_type.Coins → List Account
accounts_view addresses coins = zip (map bytes_view addresses) (map coins_view coins)

-- the map spells this state, which is lawful and has these supplies
pub record Records (s : State) (supplies : List ℕ → ℕ) (plain : Bytes) : Type 0 where
  pub spelled : Spells plain s
  pub lawful : IsLawful s
  pub supplies_are : (denom : List ℕ) → supply s denom ≡ supplies denom

-- the map spells some lawful state
pub record HasRecords (plain : Bytes) : Type 0 where
  pub state : State
  pub supplies : List ℕ → ℕ
  pub are : Records state supplies plain

-- what a refusal says of the test that the supplies fit
abbrev pub IsOver : GenesisStop → Bool → Type 0
IsOver stops.Supply fit = fit ≡ false
IsOver stops.NoMemory fit = ⊤
IsOver stops.Address fit = ⊥
IsOver stops.Coins fit = ⊥

-- the accounts' supplies fit, and the map spells the state of a chain with these facts and accounts, or they don't fit
abbrev pub Credits : Result Bytes GenesisStop → PlainFacts → List Account → Type 0
Credits (Ok plain) f accounts = (fits accounts ≡ true) × Spells plain (all_credited (opening f) accounts) × IsLawful (all_credited (opening f) accounts)
Credits (Err stop) f accounts = IsOver stop (fits accounts)
