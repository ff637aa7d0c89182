-- What JSON says as a message or as what a contract answers, field by field in this order. The names of fields and variants are
-- those of CosmWasm 1.x (`CosmosMsg`, `SubMsg`, `Response` and `ContractResult` of cosmwasm-std); `store_code`, `pin_code`,
-- `unpin_code` and `sudo` are this chain's own.
use Rattle.std.specs.Prelude.{ℕ, ◌++◌, ◌&&◌, Bool, List, codes, nat_le, Option, Some, None, option_and_then, Ok, if◌then◌else◌}
use Rattle.std.specs.Str.{bytes_eq}
use Rattle.coin_amounts.specs.Plain.{RawCoin}
use Rattle.serde_json.specs.Data.{Data, Items, Members}
use Rattle.serde_json.specs.Events.{items_len}
use Rattle.serde_json.specs.Find.{as_str, as_array, as_object}
use Rattle.json_shapes.specs.Shapes.{Form, Reading, ◌>>=◌, mapped, within, field_step, found, text, number, binary, nullable, each, list, field, optional, or_empty, variant}
use Rattle.json_shapes.specs.declared.stop.Want.TheVariants.{Text, Number, List as ListWant, Variant}
use Rattle.chain_msgs.specs.Plain.{Attribute, Event}
use Rattle.chain_msgs.specs.Messages.{CosmosMsg, bank_send, bank_burn, execute, instantiate, migrate, update_admin, clear_admin, other, TxMsg, cosmos, store_code, pin, unpin, sudo, SubMsg, Response, Told, told, error}
use Rattle.chain_msgs.specs.declared.response.ReplyOn.{ReplyOn}
use Rattle.chain_msgs.specs.declared.response.ReplyOn.TheVariants as reply_words

-- ---- coins and events

unfoldable pub coin_of : Data → Reading RawCoin
coin_of d = do
  denom ← field (codes "denom") text d
  amount ← field (codes "amount") text d
  Ok (record { denom = denom; amount = amount })

abbrev pub coin : Form RawCoin
coin = record { want = Text; read = coin_of }

unfoldable pub attribute_of : Data → Reading Attribute
attribute_of d = do
  key ← field (codes "key") text d
  value ← field (codes "value") text d
  Ok (record { key = key; value = value })

abbrev pub attribute : Form Attribute
attribute = record { want = Text; read = attribute_of }

-- an event's attributes have to be there
unfoldable pub event_of : Data → Reading Event
event_of d = do
  kind ← field (codes "type") text d
  attributes ← field (codes "attributes") (list attribute) d
  Ok (record { kind = kind; attributes = attributes })

abbrev pub event : Form Event
event = record { want = Text; read = event_of }

-- ---- messages of the bank

unfoldable pub send_of : Data → Reading CosmosMsg
send_of d = do
  to ← field (codes "to_address") text d
  amount ← field (codes "amount") (list coin) d
  Ok (bank_send to amount)

unfoldable pub burn_of : Data → Reading CosmosMsg
burn_of d = do
  amount ← field (codes "amount") (list coin) d
  Ok (bank_burn amount)

unfoldable pub named_bank : List ℕ × Data → Reading CosmosMsg
named_bank (name, d) =
    if bytes_eq name (codes "send") then within (field_step (codes "send")) (send_of d)
    else (if bytes_eq name (codes "burn") then within (field_step (codes "burn")) (burn_of d) else Ok (other (codes "bank." ++ name)))

-- ---- messages to contracts

-- the coins that come along, which have to be a list
abbrev pub funds_of : Data → Reading (List RawCoin)
funds_of d = field (codes "funds") (list coin) d

unfoldable pub execute_of : Data → Reading CosmosMsg
execute_of d = do
  contract ← field (codes "contract_addr") text d
  msg ← field (codes "msg") binary d
  funds ← funds_of d
  Ok (execute contract msg funds)

-- the admin has to be there, and may be null
unfoldable pub instantiate_of : Data → Reading CosmosMsg
instantiate_of d = do
  admin ← field (codes "admin") (nullable text) d
  code_id ← field (codes "code_id") number d
  msg ← field (codes "msg") binary d
  funds ← funds_of d
  label ← field (codes "label") text d
  Ok (instantiate admin code_id msg funds label None)

unfoldable pub instantiate2_of : Data → Reading CosmosMsg
instantiate2_of d = do
  admin ← field (codes "admin") (nullable text) d
  code_id ← field (codes "code_id") number d
  msg ← field (codes "msg") binary d
  funds ← funds_of d
  label ← field (codes "label") text d
  salt ← field (codes "salt") binary d
  Ok (instantiate admin code_id msg funds label (Some salt))

unfoldable pub migrate_of : Data → Reading CosmosMsg
migrate_of d = do
  contract ← field (codes "contract_addr") text d
  new_code_id ← field (codes "new_code_id") number d
  msg ← field (codes "msg") binary d
  Ok (migrate contract new_code_id msg)

unfoldable pub update_admin_of : Data → Reading CosmosMsg
update_admin_of d = do
  contract ← field (codes "contract_addr") text d
  admin ← field (codes "admin") text d
  Ok (update_admin contract admin)

unfoldable pub clear_admin_of : Data → Reading CosmosMsg
clear_admin_of d = do
  contract ← field (codes "contract_addr") text d
  Ok (clear_admin contract)

unfoldable pub named_wasm : List ℕ × Data → Reading CosmosMsg
named_wasm (name, d) =
    if bytes_eq name (codes "execute") then within (field_step (codes "execute")) (execute_of d)
    else (if bytes_eq name (codes "instantiate") then within (field_step (codes "instantiate")) (instantiate_of d)
    else (if bytes_eq name (codes "instantiate2") then within (field_step (codes "instantiate2")) (instantiate2_of d)
    else (if bytes_eq name (codes "migrate") then within (field_step (codes "migrate")) (migrate_of d)
    else (if bytes_eq name (codes "update_admin") then within (field_step (codes "update_admin")) (update_admin_of d)
    else (if bytes_eq name (codes "clear_admin") then within (field_step (codes "clear_admin")) (clear_admin_of d) else Ok (other (codes "wasm." ++ name)))))))

-- ---- a message

unfoldable pub bank_of : Data → Reading CosmosMsg
bank_of d = variant d >>= named_bank

unfoldable pub wasm_of : Data → Reading CosmosMsg
wasm_of d = variant d >>= named_wasm

-- What stands under another name isn't looked at.
unfoldable pub named_cosmos : List ℕ × Data → Reading CosmosMsg
named_cosmos (name, d) =
    if bytes_eq name (codes "bank") then within (field_step (codes "bank")) (bank_of d)
    else (if bytes_eq name (codes "wasm") then within (field_step (codes "wasm")) (wasm_of d) else Ok (other name))

unfoldable pub cosmos_of : Data → Reading CosmosMsg
cosmos_of d = variant d >>= named_cosmos

abbrev pub cosmos_msg : Form CosmosMsg
cosmos_msg = record { want = Variant; read = cosmos_of }

-- ---- messages of transactions

-- Without a list everybody may instantiate the code.
unfoldable pub store_code_of : Data → Reading TxMsg
store_code_of d = do
  allow ← optional (codes "allow") (list text) d
  code ← field (codes "code") binary d
  Ok (store_code code allow)

abbrev pub has_fit_count : Items → Bool
has_fit_count ds = nat_le 1 (items_len ds) && nat_le (items_len ds) 64

-- how many there are is looked at before what they are
abbrev pub counted_ids : Items → Reading (List ℕ)
counted_ids ds = if has_fit_count ds then each number 0 ds else found ListWant None

-- a list of 1 to 64 ids
abbrev pub ids : Form (List ℕ)
ids = record { want = ListWant; read = λ d. found ListWant (as_array d) >>= counted_ids }

unfoldable pub pin_of : Data → Reading TxMsg
pin_of d = do
  found ← field (codes "ids") ids d
  Ok (pin found)

unfoldable pub unpin_of : Data → Reading TxMsg
unpin_of d = do
  found ← field (codes "ids") ids d
  Ok (unpin found)

unfoldable pub sudo_of : Data → Reading TxMsg
sudo_of d = do
  contract ← field (codes "contract") text d
  msg ← field (codes "msg") binary d
  Ok (sudo contract msg)

unfoldable pub named_tx_msg : List ℕ × Data → Reading TxMsg
named_tx_msg (name, d) =
    if bytes_eq name (codes "store_code") then within (field_step (codes "store_code")) (store_code_of d)
    else (if bytes_eq name (codes "pin_code") then within (field_step (codes "pin_code")) (pin_of d)
    else (if bytes_eq name (codes "unpin_code") then within (field_step (codes "unpin_code")) (unpin_of d)
    else (if bytes_eq name (codes "sudo") then within (field_step (codes "sudo")) (sudo_of d) else mapped cosmos (named_cosmos (name, d)))))

unfoldable pub tx_msg_of : Data → Reading TxMsg
tx_msg_of d = variant d >>= named_tx_msg

-- ---- what a contract answers

abbrev pub reply_word : List ℕ → Option ReplyOn
reply_word word =
    if bytes_eq word (codes "always") then Some reply_words.Always
    else (if bytes_eq word (codes "error") then Some reply_words.Error
    else (if bytes_eq word (codes "success") then Some reply_words.Success
    else (if bytes_eq word (codes "never") then Some reply_words.Never else None)))

-- one of the four words
abbrev pub reply_on : Form ReplyOn
reply_on = record { want = Text; read = λ d. found Text (option_and_then reply_word (as_str d)) }

unfoldable pub sub_msg_of : Data → Reading SubMsg
sub_msg_of d = do
  id ← field (codes "id") number d
  msg ← field (codes "msg") cosmos_msg d
  gas_limit ← optional (codes "gas_limit") number d
  when ← field (codes "reply_on") reply_on d
  Ok (record { id = id; msg = msg; gas_limit = gas_limit; reply_on = when })

abbrev pub sub_msg : Form SubMsg
sub_msg = record { want = Number; read = sub_msg_of }

-- an object, whatever its fields are
abbrev pub members_of : Data → Reading Members
members_of d = found ListWant (as_object d)

-- each of its fields may be missing, but it is an object
unfoldable pub response_of : Data → Reading Response
response_of d = do
  _ ← members_of d
  messages ← or_empty (codes "messages") sub_msg d
  attributes ← or_empty (codes "attributes") attribute d
  events ← or_empty (codes "events") event d
  out ← optional (codes "data") binary d
  Ok (record { messages = messages; attributes = attributes; events = events; out = out })

abbrev pub response : Form Response
response = record { want = ListWant; read = response_of }

abbrev pub named_told : {A : Type 0} → Form A → List ℕ × Data → Reading (Told A)
named_told form (name, d) =
    if bytes_eq name (codes "ok") then mapped told (within (field_step (codes "ok")) (form.read d))
    else (if bytes_eq name (codes "error") then mapped error (within (field_step (codes "error")) (text.read d)) else found Variant None)

-- a value of the form, or the text of an error
abbrev pub told_of : {A : Type 0} → Form A → Data → Reading (Told A)
told_of form d = variant d >>= named_told form
