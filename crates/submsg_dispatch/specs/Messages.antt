-- What messages do that call no contract: their checks in their order, what they cost, and what they change.
use Rattle.std.specs.Prelude.{ℕ, List, [], ◌∷◌, length, map, codes, Option, None, Some, option_map}
use Rattle.std.specs.Result.{result_ok}
use Rattle.coin_amounts.specs.Plain.{Coin, RawCoin}
use Rattle.coin_amounts.specs.Coins.{coins_of}
use Rattle.gas_meter.specs.declared.schedule.Schedule.{Schedule}
use Rattle.gas_meter.specs.Costs.{coins_cost, store_code_cost}
use Rattle.chain_addr.specs.Address.{address_of}
use Rattle.chain_records.specs.State.{State}
use Rattle.bank_ledger.specs.Balances.{Shortfall, shortfall}
use Rattle.bank_ledger.specs.Accounts.{balance, sent, burned}
use Rattle.code_registry.specs.Codes.{stored, pinned, unpinned, store_refusal, pin_refusal, unpin_refusal}
use Rattle.contract_admin.specs.Administration.{change_refusal, with_admin}
use Rattle.chain_msgs.specs.Plain.{Event}
use Rattle.submsg_dispatch.specs.Parts.{Part, done, fails, charge, or_fails, stops_if, becomes, reads, ◌>>=◌}
use Rattle.submsg_dispatch.specs.Failures.{address_bad, coins_bad, not_enough, code_failure, contract_failure}
use Rattle.submsg_dispatch.specs.Events.{transfer, burn, code_stored, of_code}

-- what a message that was done gives: its events, its data, and the data that a reply to it gets
pub record Outcome : Type 0 where
  pub events : List Event
  pub out : Option (List ℕ)
  pub reply_out : Option (List ℕ)

abbrev pub only_events : List Event → Outcome
only_events events = record { events = events; out = None; reply_out = None }

-- ---- what is read of a message

-- the bytes of an address
abbrev pub address_in : List ℕ → Part (List ℕ)
address_in text = reads (λ s. or_fails address_bad (address_of s.facts.prefix text))

abbrev pub not_empty : List Coin → Option (List Coin)
not_empty [] = None
not_empty (coin ∷ coins) = Some (coin ∷ coins)

abbrev pub some_coins : Option (List Coin) → Option (List Coin)
some_coins None = None
some_coins (Some coins) = not_empty coins

-- coins, of which there are some
abbrev pub coins_in : List RawCoin → Part (List Coin)
coins_in raws = or_fails coins_bad (some_coins (result_ok (coins_of raws)))

-- ---- the bank

-- with this state, unless an account has too little
abbrev pub unless_short : State → Option Shortfall → Part (Unit {0})
unless_short next None = λ s. done tt next
unless_short next (Some short) = fails (not_enough short)

abbrev pub moves : List ℕ → List ℕ → List Coin → Part (Unit {0})
moves from to coins = reads (λ s. unless_short (sent s from to coins) (shortfall (balance s) from coins))

abbrev pub burns : List ℕ → List Coin → Part (Unit {0})
burns from coins = reads (λ s. unless_short (burned s from coins) (shortfall (balance s) from coins))

-- coins are paid for, move, and make an event
abbrev pub transfers : Schedule → List ℕ → List ℕ → List Coin → Part (List Event)
transfers costs from to coins = do
  _ ← charge (coins_cost costs (length coins))
  _ ← moves from to coins
  reads (λ s. done (transfer s.facts.prefix from to coins ∷ []))

unfoldable pub send_coins : Schedule → List ℕ → List ℕ → List RawCoin → Part Outcome
send_coins costs sender to raws = do
  to ← address_in to
  coins ← coins_in raws
  events ← transfers costs sender to coins
  done (only_events events)

unfoldable pub burn_coins : Schedule → List ℕ → List RawCoin → Part Outcome
burn_coins costs sender raws = do
  coins ← coins_in raws
  _ ← charge (coins_cost costs (length coins))
  _ ← burns sender coins
  reads (λ s. done (only_events (burn s.facts.prefix sender coins ∷ [])))

-- ---- contracts

-- the contract with this address is there, and the sender is its admin
abbrev pub may_change : List ℕ → List ℕ → Part (Unit {0})
may_change sender addr = reads (λ s. stops_if (option_map (contract_failure s.facts.prefix addr) (change_refusal s sender addr)))

unfoldable pub change_admin : List ℕ → List ℕ → List ℕ → Part Outcome
change_admin sender contract admin = do
  addr ← address_in contract
  _ ← may_change sender addr
  next ← address_in admin
  _ ← becomes (λ s. with_admin s addr (Some next))
  done (only_events [])

unfoldable pub drop_admin : List ℕ → List ℕ → Part Outcome
drop_admin sender contract = do
  addr ← address_in contract
  _ ← may_change sender addr
  _ ← becomes (λ s. with_admin s addr None)
  done (only_events [])

-- ---- codes

-- the addresses of a list, if all its texts are addresses
abbrev pub both_of : Option (List ℕ) → Option (List (List ℕ)) → Option (List (List ℕ))
both_of None others = None
both_of (Some addr) others = option_map (λ addrs. addr ∷ addrs) others

abbrev pub addresses_of : List ℕ → List (List ℕ) → Option (List (List ℕ))
addresses_of prefix [] = Some []
addresses_of prefix (text ∷ texts) = both_of (address_of prefix text) (addresses_of prefix texts)

-- those who may instantiate a code, where there is a list of them
abbrev pub allowed_of : List ℕ → Option (List (List ℕ)) → Option (Option (List (List ℕ)))
allowed_of prefix None = Some None
allowed_of prefix (Some texts) = option_map Some (addresses_of prefix texts)

abbrev pub allowed_in : Option (List (List ℕ)) → Part (Option (List (List ℕ)))
allowed_in allow = reads (λ s. or_fails address_bad (allowed_of s.facts.prefix allow))

-- a code that is paid for, with the addresses of those who may instantiate it
abbrev pub stores : List ℕ → List ℕ → Option (List (List ℕ)) → Part Outcome
stores sender code allow = do
  _ ← reads (λ s. stops_if (option_map code_failure (store_refusal s code)))
  id ← reads (λ s. done s.counters.next_code)
  _ ← becomes (λ s. stored s sender code allow)
  done (only_events (code_stored code id ∷ []))

-- the gate looks at the code after it is paid
unfoldable pub store_code : Schedule → List ℕ → List ℕ → Option (List (List ℕ)) → Part Outcome
store_code costs sender code allow = do
  allowed ← allowed_in allow
  _ ← charge (store_code_cost costs (length code))
  stores sender code allowed

-- one event for each id of the list, whether it was pinned before or not
unfoldable pub pin_codes : List ℕ → List ℕ → Part Outcome
pin_codes sender ids = do
  _ ← reads (λ s. stops_if (option_map code_failure (pin_refusal s sender ids)))
  _ ← becomes (λ s. pinned s ids)
  done (only_events (map (of_code (codes "pin_code")) ids))

unfoldable pub unpin_codes : List ℕ → List ℕ → Part Outcome
unpin_codes sender ids = do
  _ ← reads (λ s. stops_if (option_map code_failure (unpin_refusal s sender ids)))
  _ ← becomes (λ s. unpinned s ids)
  done (only_events (map (of_code (codes "unpin_code")) ids))
