-- What a query is answered on a state of the chain, what gas it leaves, and which codes its calls ask for. What contracts are asked is
-- answered in `Calls`.
use Rattle.std.specs.Prelude.{ℕ, ◌+◌, ◌-◌, Bool, List, [], length, map, codes, Option, None, Some, nat_lt, if◌then◌else◌}
use Rattle.std.specs.Option.{is_some}
use Rattle.std.specs.FinMap.{get}
use Rattle.hex.specs.Hex.{encode_lower}
use Rattle.serde_json.specs.Data.{Data, null, boolean, string, object, no_members, member}
use Rattle.serde_json.specs.Written.{compact_text}
use Rattle.json_shapes.specs.Values.{whole, list_data, variant_data}
use Rattle.coin_amounts.specs.Plain.{Coin}
use Rattle.chain_msgs.specs.Plain.{Answer, answered, system_error, invalid_request, unsupported_request, no_contract, no_code}
use Rattle.chain_msgs.specs.Texts.{coin_data}
use Rattle.gas_meter.specs.declared.schedule.Schedule.{Schedule}
use Rattle.gas_meter.specs.Costs.{answered_coins_cost, read_cost}
use Rattle.chain_addr.specs.Address.{address_of}
use Rattle.chain_addr.specs.Text.{text_of}
use Rattle.chain_records.specs.Records.{PlainCodeInfo, PlainContract}
use Rattle.chain_records.specs.State.{State}
use Rattle.state_records.specs.Records.{info_at}
use Rattle.bank_ledger.specs.Accounts as accounts
use Rattle.query_router.specs.Requests.{Request, smart, raw, contract_info, code_info, balance, all_balances, supply, unknown, Asked, no_json, no_shape, asks, asked}

pub record Queried : Type 0 where
  -- none where the gas didn't suffice
  pub answer : Option Answer
  pub left : ℕ
  -- the codes in the order in which they were asked for
  pub fetched : List (List ℕ)

-- a query of a state, with so much gas left
abbrev pub Asking : Type 0
Asking = State → List ℕ → ℕ → Queried

-- what a contract is asked: of a state, the bytes of the request, the text of its address, the message, and the gas that is left
abbrev pub Smart : Type 0
Smart = State → List ℕ → List ℕ → List ℕ → ℕ → Queried

abbrev pub answers : Answer → ℕ → Queried
answers answer left = record { answer = Some answer; left = left; fetched = [] }

-- a cost is charged, and the rest is done with the gas that is left then; where there is too little, all of it is used
abbrev pub after_paying : ℕ → (ℕ → Queried) → ℕ → Queried
after_paying cost rest left = if nat_lt left cost then record { answer = None; left = 0; fetched = [] } else rest (left - cost)

-- ---- answers

abbrev pub invalid : List ℕ → List ℕ → Answer
invalid error request = system_error (invalid_request error request)

abbrev pub unsupported : List ℕ → Answer
unsupported kind = system_error (unsupported_request kind)

-- {"amount":{"amount":"N","denom":T}}
abbrev pub amount_answer : List ℕ → ℕ → Answer
amount_answer denom amount = answered (compact_text (variant_data (codes "amount") (coin_data (record { denom = denom; amount = amount }))))

-- {"amount":[{"amount":"N","denom":T}]}, denoms rising
abbrev pub coins_answer : List Coin → Answer
coins_answer coins = answered (compact_text (variant_data (codes "amount") (list_data (map coin_data coins))))

-- addresses are written under the chain's prefix
abbrev pub admin_data : List ℕ → Option (List ℕ) → Data
admin_data prefix None = null
admin_data prefix (Some admin) = string (text_of prefix admin)

-- {"admin":T or null,"code_id":N,"creator":T,"ibc_port":null,"pinned":B}
abbrev pub contract_data : List ℕ → PlainContract → Bool → Data
contract_data prefix c pinned = object (
    member (codes "admin") (admin_data prefix c.admin) (
    member (codes "code_id") (whole c.code_id) (
    member (codes "creator") (string (text_of prefix c.creator)) (
    member (codes "ibc_port") null (
    member (codes "pinned") (boolean pinned) no_members)))))

abbrev pub contract_answer : List ℕ → PlainContract → Bool → Answer
contract_answer prefix c pinned = answered (compact_text (contract_data prefix c pinned))

-- {"checksum":HEX,"code_id":N,"creator":T}
abbrev pub code_data : List ℕ → ℕ → PlainCodeInfo → Data
code_data prefix id info = object (
    member (codes "checksum") (string (encode_lower info.checksum)) (
    member (codes "code_id") (whole id) (
    member (codes "creator") (string (text_of prefix info.creator)) no_members)))

abbrev pub code_answer : List ℕ → ℕ → PlainCodeInfo → Answer
code_answer prefix id info = answered (compact_text (code_data prefix id info))

abbrev pub no_contract_at : List ℕ → List ℕ → Answer
no_contract_at prefix addr = system_error (no_contract (text_of prefix addr))

-- ---- what is asked of an address

-- what is done with the address that a text is; where it is none, the request is invalid
abbrev pub at_address : List ℕ → Option (List ℕ) → (List ℕ → ℕ → Queried) → ℕ → Queried
at_address request None rest left = answers (invalid (codes "address") request) left
at_address request (Some address) rest left = rest address left

-- the coins of the answer are paid for before it is given
abbrev pub all_answered : List Coin → ℕ → Queried
all_answered coins = after_paying (answered_coins_cost (length coins)) (answers (coins_answer coins))

-- ---- contracts and codes

abbrev pub with_contract : List ℕ → List ℕ → Option PlainContract → (PlainContract → ℕ → Queried) → ℕ → Queried
with_contract prefix addr None rest = answers (no_contract_at prefix addr)
with_contract prefix addr (Some c) rest = rest c

-- what is done with the contract at the address that a text is; where there is none, the answer says so
abbrev pub at_contract : State → List ℕ → List ℕ → (List ℕ → PlainContract → ℕ → Queried) → ℕ → Queried
at_contract s request text rest =
    at_address request (address_of s.facts.prefix text) (λ addr. with_contract s.facts.prefix addr (get s.contracts addr) (rest addr))

abbrev pub or_nothing : Option (List ℕ) → List ℕ
or_nothing None = []
or_nothing (Some bytes) = bytes

-- a value is paid by its bytes and those of its key before it is given
abbrev pub value_answered : Schedule → List ℕ → List ℕ → ℕ → Queried
value_answered costs key value = after_paying (read_cost costs (length key + length value)) (answers (answered value))

abbrev pub code_told : State → ℕ → Option PlainCodeInfo → ℕ → Queried
code_told s id None = answers (system_error (no_code id))
code_told s id (Some info) = answers (code_answer s.facts.prefix id info)

-- ---- requests

-- what contracts are asked is answered as the first argument says
abbrev pub answer_to : Smart → Schedule → State → List ℕ → Request → ℕ → Queried
answer_to of_contract costs s request (smart contract msg) = of_contract s request contract msg
answer_to of_contract costs s request (raw contract key) =
    at_contract s request contract (λ addr c. value_answered costs key (or_nothing (get s.storage (addr, key))))
answer_to of_contract costs s request (contract_info contract) =
    at_contract s request contract (λ addr c. answers (contract_answer s.facts.prefix c (is_some (get s.pins c.code_id))))
answer_to of_contract costs s request (code_info id) = code_told s id (info_at s id)
answer_to of_contract costs s request (balance address denom) =
    at_address request (address_of s.facts.prefix address) (λ addr. answers (amount_answer denom (accounts.balance s addr denom)))
answer_to of_contract costs s request (all_balances address) = at_address request (address_of s.facts.prefix address) (λ addr. all_answered (accounts.held s addr))
answer_to of_contract costs s request (supply denom) = answers (amount_answer denom (accounts.supply s denom))
answer_to of_contract costs s request (unknown kind) = answers (unsupported kind)

abbrev pub asked_answer : Smart → Schedule → State → List ℕ → Asked → ℕ → Queried
asked_answer of_contract costs s request no_json = answers (invalid (codes "json") request)
asked_answer of_contract costs s request no_shape = answers (invalid (codes "shape") request)
asked_answer of_contract costs s request (asks what) = answer_to of_contract costs s request what

-- a query is paid before it is looked at
abbrev pub paid_answer : Smart → Schedule → Asking
paid_answer of_contract costs s request = after_paying costs.query (asked_answer of_contract costs s request (asked request))
