-- The failures of messages: codespace, code, and the kind's name with each field after a space.
use Rattle.std.specs.Prelude.{ℕ, List, ◌++◌, codes, decimal}
use Rattle.chain_msgs.specs.Plain.{Failure, FailKind}
use Rattle.chain_msgs.specs.Plain as kinds
use Rattle.bank_ledger.specs.Balances.{Shortfall}
use Rattle.gatekeeper.specs.Texts.{refusal_text}
use Rattle.chain_addr.specs.Text.{text_of}
use Rattle.code_registry.specs.Codes as codes_of
use Rattle.contract_admin.specs.Administration as contracts

-- of the chain itself
abbrev pub sdk : FailKind → ℕ → List ℕ → Failure
sdk kind code detail = record { kind = kind; codespace = codes "sdk"; code = code; detail = detail }

-- of its contracts
abbrev pub wasm : FailKind → ℕ → List ℕ → Failure
wasm kind code detail = record { kind = kind; codespace = codes "wasm"; code = code; detail = detail }

abbrev pub not_enough : Shortfall → Failure
not_enough short =
    sdk (kinds.not_enough short.denom short.have short.want) 5
    (codes "NotEnough " ++ short.denom ++ codes " " ++ decimal short.have ++ codes " " ++ decimal short.want)

abbrev pub not_authority : Failure
not_authority = sdk kinds.not_authority 4 (codes "NotAuthority")

abbrev pub not_admin : Failure
not_admin = sdk kinds.not_admin 4 (codes "NotAdmin")

abbrev pub may_not_instantiate : Failure
may_not_instantiate = sdk kinds.may_not_instantiate 4 (codes "MayNotInstantiate")

abbrev pub address_bad : Failure
address_bad = sdk kinds.address_bad 7 (codes "AddressBad")

abbrev pub coins_bad : Failure
coins_bad = sdk kinds.coins_bad 10 (codes "CoinsBad")

abbrev pub out_of_gas : Failure
out_of_gas = sdk kinds.out_of_gas 11 (codes "OutOfGas")

abbrev pub message_bad : Failure
message_bad = sdk kinds.message_bad 18 (codes "MessageBad")

abbrev pub no_messages : Failure
no_messages = sdk kinds.no_messages 18 (codes "NoMessages")

abbrev pub label_bad : Failure
label_bad = sdk kinds.label_bad 18 (codes "LabelBad")

abbrev pub salt_bad : Failure
salt_bad = sdk kinds.salt_bad 18 (codes "SaltBad")

-- with the gate's text
abbrev pub store_refused : List ℕ → Failure
store_refused text = wasm (kinds.store_refused text) 2 (codes "StoreRefused " ++ text)

abbrev pub address_taken : Failure
address_taken = wasm kinds.address_taken 3 (codes "AddressTaken")

abbrev pub no_such_code : ℕ → Failure
no_such_code id = wasm (kinds.no_such_code id) 8 (codes "NoSuchCode " ++ decimal id)

abbrev pub too_deep : Failure
too_deep = wasm kinds.too_deep 13 (codes "TooDeep")

abbrev pub too_many_codes : Failure
too_many_codes = wasm kinds.too_many_codes 18 (codes "TooManyCodes")

abbrev pub too_many_pins : Failure
too_many_pins = wasm kinds.too_many_pins 18 (codes "TooManyPins")

abbrev pub unsupported : List ℕ → Failure
unsupported kind = wasm (kinds.unsupported kind) 20 (codes "Unsupported " ++ kind)

-- with the text of an address
abbrev pub no_such_contract : List ℕ → Failure
no_such_contract text = wasm (kinds.no_such_contract text) 22 (codes "NoSuchContract " ++ text)

-- ---- refusals

-- why a code isn't stored, or ids are neither pinned nor unpinned
abbrev pub code_failure : codes_of.Refusal → Failure
code_failure (codes_of.refused refusal) = store_refused (refusal_text refusal)
code_failure codes_of.not_authority = not_authority
code_failure (codes_of.no_such_code id) = no_such_code id
code_failure codes_of.too_many_codes = too_many_codes
code_failure codes_of.too_many_pins = too_many_pins

-- why the contract with this address is neither made nor changed; the address is written under the prefix
abbrev pub contract_failure : List ℕ → List ℕ → contracts.Refusal → Failure
contract_failure prefix addr contracts.no_such_contract = no_such_contract (text_of prefix addr)
contract_failure prefix addr contracts.not_admin = not_admin
contract_failure prefix addr (contracts.no_such_code id) = no_such_code id
contract_failure prefix addr contracts.may_not_instantiate = may_not_instantiate
contract_failure prefix addr contracts.address_taken = address_taken
contract_failure prefix addr contracts.label_bad = label_bad
