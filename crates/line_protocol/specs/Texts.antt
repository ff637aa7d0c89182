-- The lines that are written. Each is the compact text of a JSON value, with its keys in rising order, and a line feed.
use Rattle.std.specs.Prelude.{ℕ, List, [], ◌∷◌, ◌++◌, map, codes, replicate}
use Rattle.hex.specs.Hex.{encode_lower}
use Rattle.sha2.specs.Sha256.{sha256}
use Rattle.serde_json.specs.Data.{Data, string, object, no_members, member}
use Rattle.serde_json.specs.Written.{compact_text}
use Rattle.json_shapes.specs.Values.{whole, list_data, variant_data}
use Rattle.chain_msgs.specs.Plain.{TxResult, Genesis, Answer}
use Rattle.chain_msgs.specs.Texts.{result_data, answer_data}
use Rattle.line_protocol.specs.declared.kind.BadKind.{BadKind}
use Rattle.line_protocol.specs.declared.kind.BadKind.TheVariants as kinds

abbrev pub line_text : Data → List ℕ
line_text d = compact_text d ++ 10 ∷ []

-- ---- genesis

abbrev pub genesis_data : Genesis → Data
genesis_data g = variant_data (codes "genesis") (object (member (codes "chain_id") (string g.chain_id) (member (codes "height") (whole 0) no_members)))

-- ---- blocks

abbrev pub body_data : ℕ → List TxResult → Data
body_data height results = object (member (codes "height") (whole height) (member (codes "results") (list_data (map result_data results)) no_members))

abbrev pub body_text : ℕ → List TxResult → List ℕ
body_text height results = compact_text (body_data height results)

-- the digest at height 0
abbrev pub first_digest : List ℕ
first_digest = replicate 32 0

-- the digest of a block covers those of all blocks before it
abbrev pub next_digest : List ℕ → ℕ → List TxResult → List ℕ
next_digest last height results = sha256 (last ++ body_text height results)

abbrev pub digested : Data → List ℕ → Data
digested body digest = variant_data (codes "block") (object (member (codes "body") body (member (codes "digest") (string (encode_lower digest)) no_members)))

abbrev pub block_data : ℕ → List TxResult → List ℕ → Data
block_data height results digest = digested (body_data height results) digest

-- ---- queries

-- what a query line is answered
pub data QueryResult : Type 0 where
  answer : Answer → QueryResult
  out_of_gas : QueryResult
  not_yet : ℕ → QueryResult
  pruned : ℕ → ℕ → QueryResult

abbrev pub query_result_data : QueryResult → Data
query_result_data (answer a) = answer_data a
query_result_data out_of_gas = string (codes "out_of_gas")
query_result_data (not_yet newest) = variant_data (codes "not_yet") (variant_data (codes "newest") (whole newest))
query_result_data (pruned oldest newest) =
    variant_data (codes "pruned") (object (member (codes "newest") (whole newest) (member (codes "oldest") (whole oldest) no_members)))

pub record QueryReply : Type 0 where
  pub line : ℕ
  pub client : ℕ
  pub n : ℕ
  pub height : ℕ
  pub gas : ℕ
  pub result : QueryResult

abbrev pub query_data : QueryReply → Data
query_data r = variant_data (codes "query") (object (
    member (codes "client") (whole r.client) (
    member (codes "gas") (whole r.gas) (
    member (codes "height") (whole r.height) (
    member (codes "n") (whole r.n) (
    member (codes "result") (query_result_data r.result) no_members))))))

-- ---- codes

-- what the gate says of a code
abbrev pub check_data : List ℕ → Data
check_data text = variant_data (codes "check") (string text)

-- ---- bad lines

abbrev pub kind_text : BadKind → List ℕ
kind_text kinds.Total = codes "total"
kind_text kinds.Long = codes "long"
kind_text kinds.Json = codes "json"
kind_text kinds.Number = codes "number"
kind_text kinds.Shape = codes "shape"
kind_text kinds.Order = codes "order"
kind_text kinds.Address = codes "address"
kind_text kinds.Coins = codes "coins"
kind_text kinds.Supply = codes "supply"
kind_text kinds.Missing = codes "missing"
kind_text kinds.Base64 = codes "base64"

abbrev pub bad_data : BadKind → ℕ → Data
bad_data kind line = variant_data (codes "bad_line") (object (member (codes "kind") (string (kind_text kind)) (member (codes "line") (whole line) no_members)))
