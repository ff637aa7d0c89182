-- What a genesis opens a chain with, as its parts are read one after the other.
use Rattle.std.proofs.Common.{◌≡◌, ◌∙◌, ℕ, Bool, true, false, List, [], ◌∷◌, zip, fold, Option, None, Some, Result, Ok, Err, sym, ap, subst, refl}
use Rattle.std.specs.Prelude.{ok_or, if◌then◌else◌}
use Rattle.std.specs.Result.{result_ok}
use Rattle.coin_amounts.specs.Plain.{Coin}
use Rattle.coin_amounts.specs.Coins.{coins_of}
use Rattle.chain_addr.specs.Address.{address_of}
use Rattle.chain_records.specs.Records.{PlainFacts}
use Rattle.chain_records.specs.State.{Bytes, State}
use Rattle.chain_msgs.specs.Plain.{Genesis}
use Rattle.bank_ledger.specs.Minted.{opening, minted}
use Rattle.block_runner.specs.declared.stop.GenesisStop.{GenesisStop}
use Rattle.block_runner.specs.declared.stop.GenesisStop.TheVariants.{Address, Coins, Supply, NoMemory}
use Rattle.block_runner.specs.Answers.{Stops, Opens}
use Rattle.block_runner.specs.Crediting.{IsOver, Credits}
use Rattle.block_runner.specs.Opening.{Fault, bad_address, bad_coins, bad_supply, ◌>>=◌, all_read, only, optional_address, are_unlike, Account, fits, credited, all_credited, facts_of, opened}
use Rattle.block_runner.specs.Reads.{IsUnread}

-- ---- what is left to do once some parts were read

abbrev credited_by : Genesis → Option (List ℕ) → List (List ℕ) → List (List Coin) → Result State Fault
credited_by g authority addresses coins = ok_or (only fits (zip addresses coins)) bad_supply >>= λ _. Ok (all_credited (opening (facts_of g authority)) (zip addresses coins))

abbrev told_apart : Genesis → Option (List ℕ) → List (List ℕ) → Result State Fault
told_apart g authority addresses = ok_or (all_read (λ h. result_ok (coins_of h.1)) g.balances) bad_coins >>= credited_by g authority addresses

abbrev placed : Genesis → Option (List ℕ) → List (List ℕ) → Result State Fault
placed g authority addresses = ok_or (only are_unlike addresses) bad_address >>= λ _. told_apart g authority addresses

abbrev under_authority : Genesis → Option (List ℕ) → Result State Fault
under_authority g authority = ok_or (all_read (λ h. address_of g.prefix h.0) g.balances) bad_address >>= placed g authority

unread_stops : {A : Type 0} (fault : Fault) (stop : GenesisStop) (form : Option A) (f : A → Result State Fault) → IsUnread fault stop form → Stops stop (ok_or form fault >>= f)
unread_stops fault Address form f is = ap (λ o. ok_or o fault >>= f) is.1 ∙ ap Err is.0
unread_stops fault Coins form f is = ap (λ o. ok_or o fault >>= f) is.1 ∙ ap Err is.0
unread_stops fault Supply form f is = ap (λ o. ok_or o fault >>= f) is.1 ∙ ap Err is.0
unread_stops fault NoMemory form f is = tt

-- ---- the authority, and the addresses of accounts

pub no_authority : (g : Genesis) (stop : GenesisStop) → IsUnread bad_address stop (optional_address g.prefix g.authority) → Stops stop (opened g)
unfolding opened
no_authority g stop is = unread_stops bad_address stop (optional_address g.prefix g.authority) (under_authority g) is

after_authority : (g : Genesis) (authority : Option (List ℕ)) → optional_address g.prefix g.authority ≡ Some authority → opened g ≡ under_authority g authority
unfolding opened
after_authority g authority is = ap (λ o. ok_or o bad_address >>= under_authority g) is

pub no_addresses : (g : Genesis) (authority : Option (List ℕ)) (stop : GenesisStop) → optional_address g.prefix g.authority ≡ Some authority → IsUnread bad_address stop (all_read (λ h. address_of g.prefix h.0) g.balances) → Stops stop (opened g)
no_addresses g authority stop first is =
    subst (Stops stop) (sym (after_authority g authority first)) (unread_stops bad_address stop (all_read (λ h. address_of g.prefix h.0) g.balances) (placed g authority) is)

-- the addresses that were read
pub record HasAddresses (g : Genesis) (authority : Option (List ℕ)) (addresses : List (List ℕ)) : Type 0 where
  pub first : optional_address g.prefix g.authority ≡ Some authority
  pub others : all_read (λ h. address_of g.prefix h.0) g.balances ≡ Some addresses

after_addresses : (g : Genesis) (authority : Option (List ℕ)) (addresses : List (List ℕ)) → HasAddresses g authority addresses → opened g ≡ placed g authority addresses
after_addresses g authority addresses has = after_authority g authority has.first ∙ ap (λ o. ok_or o bad_address >>= placed g authority) has.others

abbrev told : Genesis → Option (List ℕ) → List (List ℕ) → Bool → Result State Fault
told g authority addresses b = ok_or (if b then Some addresses else None) bad_address >>= λ _. told_apart g authority addresses

pub alike : (g : Genesis) (authority : Option (List ℕ)) (addresses : List (List ℕ)) → HasAddresses g authority addresses → are_unlike addresses ≡ false → opened g ≡ Err bad_address
alike g authority addresses has is = after_addresses g authority addresses has ∙ ap (told g authority addresses) is

after_unlike : (g : Genesis) (authority : Option (List ℕ)) (addresses : List (List ℕ)) → HasAddresses g authority addresses → are_unlike addresses ≡ true → opened g ≡ told_apart g authority addresses
after_unlike g authority addresses has is = after_addresses g authority addresses has ∙ ap (told g authority addresses) is

-- ---- coins, and the supplies

pub no_coins : (g : Genesis) (authority : Option (List ℕ)) (addresses : List (List ℕ)) (stop : GenesisStop) → HasAddresses g authority addresses → are_unlike addresses ≡ true → IsUnread bad_coins stop (all_read (λ h. result_ok (coins_of h.1)) g.balances) → Stops stop (opened g)
no_coins g authority addresses stop has unlike is =
    subst (Stops stop) (sym (after_unlike g authority addresses has unlike)) (unread_stops bad_coins stop (all_read (λ h. result_ok (coins_of h.1)) g.balances) (credited_by g authority addresses) is)

-- all that was read
pub record HasAccounts (g : Genesis) (authority : Option (List ℕ)) (addresses : List (List ℕ)) (coins : List (List Coin)) : Type 0 where
  pub first : HasAddresses g authority addresses
  pub unlike : are_unlike addresses ≡ true
  pub others : all_read (λ h. result_ok (coins_of h.1)) g.balances ≡ Some coins

after_coins : (g : Genesis) (authority : Option (List ℕ)) (addresses : List (List ℕ)) (coins : List (List Coin)) → HasAccounts g authority addresses coins → opened g ≡ credited_by g authority addresses coins
after_coins g authority addresses coins has =
    after_unlike g authority addresses has.first has.unlike ∙ ap (λ o. ok_or o bad_coins >>= credited_by g authority addresses) has.others

abbrev filled : PlainFacts → List Account → Bool → Result State Fault
filled f accounts b = ok_or (if b then Some accounts else None) bad_supply >>= λ _. Ok (all_credited (opening f) accounts)

over_stops : (f : PlainFacts) (accounts : List Account) (stop : GenesisStop) → IsOver stop (fits accounts) → Stops stop (filled f accounts (fits accounts))
over_stops f accounts Supply is = ap (filled f accounts) is
over_stops f accounts NoMemory is = tt
over_stops f accounts Address is = absurd is
over_stops f accounts Coins is = absurd is

-- ---- what accounts hold leaves the facts as they are

coins_keep_facts : (s : State) (address : List ℕ) (coins : List Coin) → (fold (λ t coin. minted t address coin.denom coin.amount) s coins).facts ≡ s.facts
coins_keep_facts s address [] = refl
coins_keep_facts s address (coin ∷ coins) = coins_keep_facts (minted s address coin.denom coin.amount) address coins

accounts_keep_facts : (s : State) (accounts : List Account) → (all_credited s accounts).facts ≡ s.facts
accounts_keep_facts s [] = refl
accounts_keep_facts s (account ∷ accounts) = accounts_keep_facts (credited s account) accounts ∙ coins_keep_facts s account.0 account.1

-- ---- all of it

ended : (g : Genesis) (authority : Option (List ℕ)) (accounts : List Account) (r : Result Bytes GenesisStop) → optional_address g.prefix g.authority ≡ Some authority → Credits r (facts_of g authority) accounts
    → Opens g r (filled (facts_of g authority) accounts (fits accounts))
ended g authority accounts (Ok plain) named has =
    let f = facts_of g authority in
    record {
      state = all_credited (opening f) accounts;
      opens = ap (filled f accounts) has.0;
      spelled = has.1;
      lawful = has.2;
      authority = authority;
      named = named;
      facts = accounts_keep_facts (opening f) accounts;
    }
ended g authority accounts (Err stop) named has = over_stops (facts_of g authority) accounts stop has

pub opens : (g : Genesis) (authority : Option (List ℕ)) (addresses : List (List ℕ)) (coins : List (List Coin)) (f : PlainFacts) (r : Result Bytes GenesisStop) → HasAccounts g authority addresses coins → f ≡ facts_of g authority → Credits r f (zip addresses coins) → Opens g r (opened g)
opens g authority addresses coins f r has facts credits =
    let made = subst (λ (x : PlainFacts). Credits r x (zip addresses coins)) facts credits in
    subst (Opens g r) (sym (after_coins g authority addresses coins has)) (ended g authority (zip addresses coins) r has.first.first made)
