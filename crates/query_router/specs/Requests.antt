-- What a query asks: the forms of its JSON, field by field in this order.
use Rattle.std.specs.Prelude.{ℕ, ◌++◌, List, codes, Option, Some, None, option_and_then, Ok, Err, if◌then◌else◌}
use Rattle.std.specs.Str.{bytes_eq}
use Rattle.serde_json.specs.Data.{Data}
use Rattle.json_shapes.specs.Json.{json_of, whole_numbered}
use Rattle.json_shapes.specs.Shapes.{Reading, ◌>>=◌, mapped, text, number, binary, field, variant}

pub data Request : Type 0 where
  -- contract, message
  smart : List ℕ → List ℕ → Request
  -- contract, key
  raw : List ℕ → List ℕ → Request
  contract_info : List ℕ → Request
  code_info : ℕ → Request
  -- address, denom
  balance : List ℕ → List ℕ → Request
  all_balances : List ℕ → Request
  supply : List ℕ → Request
  -- any other, by its kind
  unknown : List ℕ → Request

unfoldable pub smart_of : Data → Reading Request
smart_of d = do
  contract ← field (codes "contract_addr") text d
  msg ← field (codes "msg") binary d
  Ok (smart contract msg)

unfoldable pub raw_of : Data → Reading Request
raw_of d = do
  contract ← field (codes "contract_addr") text d
  key ← field (codes "key") binary d
  Ok (raw contract key)

unfoldable pub balance_of : Data → Reading Request
balance_of d = do
  address ← field (codes "address") text d
  denom ← field (codes "denom") text d
  Ok (balance address denom)

unfoldable pub named_wasm : List ℕ × Data → Reading Request
named_wasm (name, d) =
    if bytes_eq name (codes "smart") then smart_of d
    else (if bytes_eq name (codes "raw") then raw_of d
    else (if bytes_eq name (codes "contract_info") then mapped contract_info (field (codes "contract_addr") text d)
    else (if bytes_eq name (codes "code_info") then mapped code_info (field (codes "code_id") number d) else Ok (unknown (codes "wasm." ++ name)))))

unfoldable pub named_bank : List ℕ × Data → Reading Request
named_bank (name, d) =
    if bytes_eq name (codes "balance") then balance_of d
    else (if bytes_eq name (codes "all_balances") then mapped all_balances (field (codes "address") text d)
    else (if bytes_eq name (codes "supply") then mapped supply (field (codes "denom") text d) else Ok (unknown (codes "bank." ++ name))))

-- What stands under another name isn't looked at.
unfoldable pub named : List ℕ × Data → Reading Request
named (name, d) =
    if bytes_eq name (codes "wasm") then variant d >>= named_wasm
    else (if bytes_eq name (codes "bank") then variant d >>= named_bank else Ok (unknown name))

unfoldable pub request_of : Data → Reading Request
request_of d = variant d >>= named

-- what the bytes of a request say, or the first that holds: they are no JSON with whole numbers, or no request
pub data Asked : Type 0 where
  no_json : Asked
  no_shape : Asked
  asks : Request → Asked

abbrev pub read_asked : Reading Request → Asked
read_asked (Ok request) = asks request
read_asked (Err fault) = no_shape

abbrev pub json_asked : Option Data → Asked
json_asked None = no_json
json_asked (Some d) = read_asked (request_of d)

unfoldable pub asked : List ℕ → Asked
asked text = json_asked (option_and_then whole_numbered (json_of text))
