-- What the JSON of a line says: a genesis, a block or a query, field by field. Unknown fields are ignored, and of a
-- repeated field the last one counts.
use Rattle.std.specs.Prelude.{ℕ, ◌^◌, ◌&&◌, ◌==◌, Bool, true, false, List, [], ◌∷◌, length, codes, Option, Some, None, option_map, option_and_then, Ok, nat_lt, nat_le, if◌then◌else◌}
use Rattle.std.specs.List.{list_all}
use Rattle.std.specs.Option.{option_map_or}
use Rattle.std.specs.Str.{bytes_eq}
use Rattle.serde_json.specs.Data.{Data, Items, no_items, item}
use Rattle.serde_json.specs.Find.{get, as_number, as_u64}
use Rattle.serde_json.specs.Written.{compact_text}
use Rattle.json_shapes.specs.Shapes.{Form, Reading, ◌>>=◌, mapped, within, field_step, found, text, number, items, nullable, list, field, optional, variant}
use Rattle.json_shapes.specs.declared.stop.Want.{Want}
use Rattle.json_shapes.specs.declared.stop.Want.TheVariants.{Text, Number, Variant}
use Rattle.coin_amounts.specs.Amount.{amount_of}
use Rattle.chain_msgs.specs.Forms.{coin}
use Rattle.chain_msgs.specs.Plain.{Genesis, Holding, Block, Tx}

-- ---- fields

-- the value, where it passes a test
abbrev pub only : {A : Type 0} → (A → Bool) → A → Option A
only test x = if test x then Some x else None

-- what the value of a field stands for; where it stands for nothing, this belongs there
abbrev pub stands_for : {A B : Type 0} → List ℕ → Want → (A → Option B) → A → Reading B
stands_for name want meaning x = within (field_step name) (found want (meaning x))

abbrev pub u32_at : List ℕ → Data → Reading ℕ
u32_at name d = field name number d >>= stands_for name Number (only (λ n. nat_lt n (2 ^ 32)))

-- what digits write, of at most 2^64 - 1
abbrev pub decimal_of : List ℕ → Option ℕ
decimal_of digits = option_and_then (only (λ n. nat_lt n (2 ^ 64))) (amount_of digits)

abbrev pub decimal_at : List ℕ → Data → Reading ℕ
decimal_at name d = field name text d >>= stands_for name Number decimal_of

abbrev pub values_of : Items → List Data
values_of no_items = []
values_of (item d ds) = d ∷ values_of ds

-- the items of a list, whatever they are
abbrev pub values_at : List ℕ → Data → Reading (List Data)
values_at name d = mapped values_of (field name items d)

-- ---- a genesis

abbrev pub is_chain_id : List ℕ → Bool
is_chain_id chars = nat_le 1 (length chars) && nat_le (length chars) 64

abbrev pub is_lower : ℕ → Bool
is_lower b = nat_le 97 b && nat_le b 122

-- 1 to 20 letters a to z
abbrev pub is_prefix : List ℕ → Bool
is_prefix chars = nat_le 1 (length chars) && nat_le (length chars) 20 && list_all is_lower chars

unfoldable pub holding_of : Data → Reading Holding
holding_of d = do
  address ← field (codes "address") text d
  coins ← field (codes "coins") (list coin) d
  Ok (address, coins)

abbrev pub holding : Form Holding
holding = record { want = Text; read = holding_of }

abbrev pub chain_id_at : Data → Reading (List ℕ)
chain_id_at d = field (codes "chain_id") text d >>= stands_for (codes "chain_id") Text (only is_chain_id)

abbrev pub prefix_at : Data → Reading (List ℕ)
prefix_at d = field (codes "prefix") text d >>= stands_for (codes "prefix") Text (only is_prefix)

-- the profile is 1, where one is said
abbrev pub has_first_profile : Data → Bool
has_first_profile d = option_map_or (λ profile. option_map_or (λ n. n == 1) (option_and_then as_u64 (as_number profile)) false) (get (codes "profile") d) true

unfoldable pub genesis_of : Data → Reading Genesis
genesis_of d = do
  chain_id ← chain_id_at d
  time ← decimal_at (codes "time") d
  prefix ← prefix_at d
  authority ← field (codes "authority") (nullable text) d
  capabilities ← field (codes "capabilities") (list text) d
  balances ← field (codes "balances") (list holding) d
  query_gas ← field (codes "query_gas") number d
  _ ← stands_for (codes "profile") Number (only has_first_profile) d
  Ok (record {
    chain_id = chain_id;
    time = time;
    prefix = prefix;
    authority = authority;
    capabilities = capabilities;
    balances = balances;
    query_gas = query_gas;
  })

-- ---- a block

-- who sends a transaction, and the gas that it may use
unfoldable pub payer_of : Data → Reading (List ℕ × ℕ)
payer_of d = do
  sender ← field (codes "sender") text d
  gas ← field (codes "gas") number d
  Ok (sender, gas)

unfoldable pub tx_of : Data → Reading Tx
tx_of d = do
  msgs ← values_at (codes "msgs") d
  payer ← payer_of d
  Ok (record { sender = payer.0; gas = payer.1; msgs = msgs })

abbrev pub tx : Form Tx
tx = record { want = Text; read = tx_of }

unfoldable pub block_of : Data → Reading Block
block_of d = do
  txs ← field (codes "txs") (list tx) d
  time ← decimal_at (codes "time") d
  Ok (record { time = time; txs = txs })

-- ---- a query

-- a query as it was asked: the request is compact JSON
pub record Question : Type 0 where
  pub line : ℕ
  pub client : ℕ
  pub height : Option ℕ
  pub request : List ℕ

abbrev pub request_at : Data → Reading (List ℕ)
request_at d = within (field_step (codes "request")) (found Variant (option_map compact_text (get (codes "request") d)))

unfoldable pub question_of : ℕ → Data → Reading Question
question_of line d = do
  client ← u32_at (codes "client") d
  height ← optional (codes "height") number d
  request ← request_at d
  Ok (record { line = line; client = client; height = height; request = request })

-- ---- a line

pub data Line : Type 0 where
  empty_line : Line
  genesis_line : Genesis → Line
  block_line : Block → Line
  query_line : Question → Line

-- what the variant of this name says
abbrev pub named_line : ℕ → List ℕ × Data → Reading Line
named_line line (name, d) =
    if bytes_eq name (codes "genesis") then mapped genesis_line (genesis_of d)
    else (if bytes_eq name (codes "block") then mapped block_line (block_of d)
    else (if bytes_eq name (codes "query") then mapped query_line (question_of line d) else found Variant None))

-- what a value says that stands in the line of this number
abbrev pub value_line : ℕ → Data → Reading Line
value_line line d = variant d >>= named_line line
