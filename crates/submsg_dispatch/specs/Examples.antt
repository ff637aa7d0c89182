-- A few transactions with what comes of them.
use Rattle.std.specs.Prelude.{◌≡◌, ℕ, List, [], ◌∷◌, codes, None, Some, refl}
use Rattle.serde_json.specs.Data.{Data, object, no_members, member, array, no_items}
use Rattle.gas_meter.specs.Costs.{standard_schedule}
use Rattle.chain_addr.specs.Address.{address_of}
use Rattle.chain_addr.specs.Reading.{fault_of, groups_of}
use Rattle.chain_addr.specs.Checksum.{step}
use Rattle.chain_records.specs.State.{State}
use Rattle.chain_msgs.specs.Plain.{Tx}
use Rattle.chain_msgs.specs.Forms.{tx_msg_of, named_tx_msg, named_cosmos, bank_of, named_bank, burn_of}
use Rattle.bank_ledger.specs.Minted.{opening}
use Rattle.submsg_dispatch.specs.Failures.{address_bad, message_bad, no_messages, out_of_gas, unsupported}
use Rattle.submsg_dispatch.specs.Submessages.{level}
use Rattle.submsg_dispatch.specs.Transactions.{tx, failed_result}

-- a chain in which nobody has anything
abbrev bare : State
bare = opening (record { chain_id = codes "t-1"; prefix = codes "abcdef"; authority = None; caps = []; query_gas = 0; height = 0; time = 0 })

abbrev one : List ℕ
one = codes "abcdef1qpzry9x8gf2tvdw0s3jn54khce6mua7lmqqqxw"

abbrev sent_by : List ℕ → ℕ → List Data → Tx
sent_by sender gas msgs = record { sender = sender; gas = gas; msgs = msgs }

abbrev under : List ℕ → Data → Data
under name d = object (member name d no_members)

-- the sender comes before all else, and nothing is charged
unread_sender : (tx standard_schedule bare (sent_by (codes "zz") 5000 []) 0).result ≡ failed_result address_bad 0
unfolding tx address_of fault_of groups_of step
unread_sender = refl

nothing_asked : (tx standard_schedule bare (sent_by one 5000 []) 0).result ≡ failed_result no_messages 0
unfolding tx address_of fault_of groups_of step
nothing_asked = refl

-- a form is looked at before it is paid
no_form : (tx standard_schedule bare (sent_by one 5000 (under (codes "bank") (under (codes "burn") (object no_members)) ∷ [])) 0).result ≡ failed_result message_bad 0
unfolding tx tx_msg_of named_tx_msg named_cosmos bank_of named_bank burn_of address_of fault_of groups_of step
no_form = refl

-- a kind that the chain doesn't know is looked at after it is paid
unknown_kind : (tx standard_schedule bare (sent_by one 5000 (under (codes "staking") (array no_items) ∷ [])) 0).result ≡ failed_result (unsupported (codes "staking")) 1000
unfolding tx level tx_msg_of named_tx_msg named_cosmos address_of fault_of groups_of step
unknown_kind = refl

-- of too little gas all is used
too_little : (tx standard_schedule bare (sent_by one 999 (under (codes "staking") (array no_items) ∷ [])) 0).result ≡ failed_result out_of_gas 999
unfolding tx level tx_msg_of named_tx_msg named_cosmos address_of fault_of groups_of step
too_little = refl
