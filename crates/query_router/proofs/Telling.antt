-- What the parts of a query give is what the query gives.
use Rattle.std.proofs.Common.{◌≡◌, ℕ, ◌+◌, ◌-◌, ◌<◌, ◌≤◌, Bool, List, [], length, codes, Option, Some, None, Result, Ok, Err, refl, sym, ap, ◌∙◌, subst}
use Rattle.std.specs.Option.{is_some}
use Rattle.std.specs.FinMap.{get}
use Rattle.coin_amounts.specs.Plain.{Coin}
use Rattle.chain_msgs.specs.Plain.{Answer, answered, answer_view}
use Rattle.chain_msgs.specs.declared.answer.Answer as answer_type
use Rattle.gas_meter.specs.Costs.{answered_coins_cost, read_cost}
use Rattle.gas_meter.specs.declared.schedule.Schedule.{Schedule}
use Rattle.gatekeeper.specs.Cache.{Tally}
use Rattle.gatekeeper.specs.Fetches.{Tallies}
use Rattle.chain_addr.specs.Address.{address_of}
use Rattle.chain_records.specs.Records.{PlainCodeInfo, PlainContract}
use Rattle.chain_records.specs.State.{State}
use Rattle.state_records.specs.Records.{info_at}
use Rattle.bank_ledger.specs.Accounts as accounts
use Rattle.query_router.specs.Answering.{Gives}
use Rattle.query_router.specs.Parts.{Tells, out_of_gas}
use Rattle.query_router.specs.Queries.{Queried, Smart, answers, invalid, amount_answer, coins_answer, contract_answer, code_answer, no_contract_at, all_answered, at_address, with_contract, at_contract, value_answered, code_told, answer_to, asked_answer, paid_answer}
use Rattle.query_router.specs.Requests.{contract_info, code_info, balance, all_balances, asked}
use Rattle.query_router.specs.declared.stop.QueryStop.{QueryStop}
use Rattle.query_router.specs.declared.stop.QueryStop.TheVariants.{OutOfGas, NoMemory}
use Rattle.query_router.proofs.Payments.{paid, unpaid}

pub told : (one other : Answer) (left : ℕ) → one ≡ other → answers other left ≡ answers one left
told one other left is = ap (λ (a : Answer). answers a left) (sym is)

-- ---- of an address

module _ (of_contract : Smart) (costs : Schedule) (s : State) (request address : List ℕ) where
  at : (found : Option (List ℕ)) (rest : List ℕ → ℕ → Queried) (left : ℕ) → address_of s.facts.prefix address ≡ found → at_address request (address_of s.facts.prefix address) rest left ≡ at_address request found rest left
  at found rest left is = ap (λ (o : Option (List ℕ)). at_address request o rest left) is

  pub balance_told : (denom addr : List ℕ) (amount : ℕ) (answer : Answer) (left : ℕ) → address_of s.facts.prefix address ≡ Some addr → amount ≡ accounts.balance s addr denom → answer ≡ amount_answer denom amount
      → answer_to of_contract costs s request (balance address denom) left ≡ answers answer left
  balance_told denom addr amount answer left found is so =
      at (Some addr) (λ addr. answers (amount_answer denom (accounts.balance s addr denom))) left found ∙ told answer (amount_answer denom (accounts.balance s addr denom)) left (so ∙ ap (amount_answer denom) is)

  pub no_balance_told : (denom : List ℕ) (answer : Answer) (left : ℕ) → address_of s.facts.prefix address ≡ None → answer ≡ invalid (codes "address") request
      → answer_to of_contract costs s request (balance address denom) left ≡ answers answer left
  no_balance_told denom answer left found so =
      at None (λ addr. answers (amount_answer denom (accounts.balance s addr denom))) left found ∙ told answer _ left so

  pub all_balances_told : (addr : List ℕ) (coins : List Coin) (left : ℕ) → address_of s.facts.prefix address ≡ Some addr → coins ≡ accounts.held s addr
      → answer_to of_contract costs s request (all_balances address) left ≡ all_answered coins left
  all_balances_told addr coins left found is = at (Some addr) (λ addr. all_answered (accounts.held s addr)) left found ∙ ap (λ (held : List Coin). all_answered held left) (sym is)

  pub no_balances_told : (answer : Answer) (left : ℕ) → address_of s.facts.prefix address ≡ None → answer ≡ invalid (codes "address") request
      → answer_to of_contract costs s request (all_balances address) left ≡ answers answer left
  no_balances_told answer left found so = at None (λ addr. all_answered (accounts.held s addr)) left found ∙ told answer _ left so

-- ---- of a contract

module _ (s : State) (request text : List ℕ) where
  pub no_address : (rest : List ℕ → PlainContract → ℕ → Queried) (answer : Answer) (left : ℕ) → address_of s.facts.prefix text ≡ None → answer ≡ invalid (codes "address") request
      → at_contract s request text rest left ≡ answers answer left
  no_address rest answer left found so =
      ap (λ (o : Option (List ℕ)). at_address request o (λ addr. with_contract s.facts.prefix addr (get s.contracts addr) (rest addr)) left) found ∙ told answer (invalid (codes "address") request) left so

  at_found : (rest : List ℕ → PlainContract → ℕ → Queried) (addr : List ℕ) (there : Option PlainContract) (left : ℕ) → address_of s.facts.prefix text ≡ Some addr → get s.contracts addr ≡ there
      → at_contract s request text rest left ≡ with_contract s.facts.prefix addr there (rest addr) left
  at_found rest addr there left found is =
      ap (λ (o : Option (List ℕ)). at_address request o (λ addr. with_contract s.facts.prefix addr (get s.contracts addr) (rest addr)) left) found
      ∙ ap (λ (o : Option PlainContract). with_contract s.facts.prefix addr o (rest addr) left) is

  pub no_contract_there : (rest : List ℕ → PlainContract → ℕ → Queried) (addr : List ℕ) (answer : Answer) (left : ℕ) → address_of s.facts.prefix text ≡ Some addr → get s.contracts addr ≡ None → answer ≡ no_contract_at s.facts.prefix addr
      → at_contract s request text rest left ≡ answers answer left
  no_contract_there rest addr answer left found none so = at_found rest addr None left found none ∙ told answer (no_contract_at s.facts.prefix addr) left so

  pub contract_there : (rest : List ℕ → PlainContract → ℕ → Queried) (addr : List ℕ) (c : PlainContract) (left : ℕ) → address_of s.facts.prefix text ≡ Some addr → get s.contracts addr ≡ Some c
      → at_contract s request text rest left ≡ rest addr c left
  contract_there rest addr c left found is = at_found rest addr (Some c) left found is

  pub contract_told : (addr : List ℕ) (c : PlainContract) (prefix : List ℕ) (pinned : Bool) (answer : Answer) (left : ℕ) → address_of s.facts.prefix text ≡ Some addr → get s.contracts addr ≡ Some c
      → prefix ≡ s.facts.prefix → pinned ≡ is_some (get s.pins c.code_id) → answer ≡ contract_answer prefix c pinned
      → (of_contract : Smart) (costs : Schedule) → answer_to of_contract costs s request (contract_info text) left ≡ answers answer left
  contract_told addr c prefix pinned answer left found there same is so of_contract costs =
      contract_there (λ addr d. answers (contract_answer s.facts.prefix d (is_some (get s.pins d.code_id)))) addr c left found there
      ∙ told answer (contract_answer s.facts.prefix c (is_some (get s.pins c.code_id))) left (so ∙ (λ i. contract_answer (same i) c (is i)))

pub code_found : (of_contract : Smart) (costs : Schedule) (s : State) (request : List ℕ) (id : ℕ) (info : PlainCodeInfo) (prefix : List ℕ) (answer : Answer) (left : ℕ) → Some info ≡ info_at s id → prefix ≡ s.facts.prefix → answer ≡ code_answer prefix id info
    → answer_to of_contract costs s request (code_info id) left ≡ answers answer left
code_found of_contract costs s request id info prefix answer left is same so =
    ap (λ (o : Option PlainCodeInfo). code_told s id o left) (sym is) ∙ told answer (code_answer s.facts.prefix id info) left (so ∙ ap (λ (p : List ℕ). code_answer p id info) same)

pub no_code_found : (of_contract : Smart) (costs : Schedule) (s : State) (request : List ℕ) (id : ℕ) (left : ℕ) → None ≡ info_at s id
    → answer_to of_contract costs s request (code_info id) left ≡ code_told s id None left
no_code_found of_contract costs s request id left is = ap (λ (o : Option PlainCodeInfo). code_told s id o left) (sym is)

-- ---- a value that is paid for

pub value_told : (costs : Schedule) (key value : List ℕ) (left after : ℕ) → read_cost costs (length key + length value) ≤ left → after ≡ left - read_cost costs (length key + length value)
    → value_answered costs key value left ≡ answers (answered value) after
value_told costs key value left after enough is =
    paid (read_cost costs (length key + length value)) left (answers (answered value)) enough ∙ ap (answers (answered value)) (sym is)

pub value_unpaid : (costs : Schedule) (key value : List ℕ) (left after : ℕ) → left < read_cost costs (length key + length value) → after ≡ 0
    → value_answered costs key value left ≡ out_of_gas after
value_unpaid costs key value left after less is = unpaid (read_cost costs (length key + length value)) left (answers (answered value)) less ∙ ap out_of_gas (sym is)

-- ---- coins that are paid for

pub coins_told : (coins : List Coin) (answer : Answer) (left after : ℕ) → answered_coins_cost (length coins) ≤ left → after ≡ left - answered_coins_cost (length coins) → answer ≡ coins_answer coins
    → all_answered coins left ≡ answers answer after
coins_told coins answer left after enough is so =
    paid (answered_coins_cost (length coins)) left (answers (coins_answer coins)) enough ∙ ap (answers (coins_answer coins)) (sym is) ∙ told answer (coins_answer coins) after so

pub coins_unpaid : (coins : List Coin) (left after : ℕ) → left < answered_coins_cost (length coins) → after ≡ 0 → all_answered coins left ≡ out_of_gas after
coins_unpaid coins left after less is = unpaid (answered_coins_cost (length coins)) left (answers (coins_answer coins)) less ∙ ap out_of_gas (sym is)

-- ---- the whole query

pub none_fetched : (t : Option Tally) → Tallies t [] t
none_fetched None = tt
none_fetched (Some t) = refl

pub alone : (t : Option Tally) (q known : Queried) → q ≡ known → known.fetched ≡ [] → Tallies t q.fetched t
alone t q known is none = subst (λ (codes : List (List ℕ)). Tallies t codes t) (sym (ap (λ (x : Queried). x.fetched) is ∙ none)) (none_fetched t)

pub gives : (r : Result answer_type.Answer QueryStop) (left : ℕ) (t : Option Tally) (q : Queried) → Tells r left q → Gives r left t t q
gives (Ok answer) left t q is = (ap (λ (x : Queried). x.answer) is, ap (λ (x : Queried). x.left) is, alone t q (answers (answer_view answer) left) is refl)
gives (Err OutOfGas) left t q is = (ap (λ (x : Queried). x.answer) is, ap (λ (x : Queried). x.left) is, alone t q (out_of_gas left) is refl)
gives (Err NoMemory) left t q is = tt

-- ---- a query that is paid for

module _ (of_contract : Smart) (costs : Schedule) (s : State) (request : List ℕ) (left : ℕ) where
  pub query_paid : (now : ℕ) → costs.query ≤ left → now ≡ left - costs.query → paid_answer of_contract costs s request left ≡ asked_answer of_contract costs s request (asked request) now
  query_paid now enough is = paid costs.query left (asked_answer of_contract costs s request (asked request)) enough ∙ ap (asked_answer of_contract costs s request (asked request)) (sym is)

  pub query_unpaid : (after : ℕ) → left < costs.query → after ≡ 0 → paid_answer of_contract costs s request left ≡ out_of_gas after
  query_unpaid after less is = unpaid costs.query left (asked_answer of_contract costs s request (asked request)) less ∙ ap out_of_gas (sym is)
