-- Not for readers of contracts: it serves the proofs of this crate alone.
-- The plain form of a request.
use Rattle.std.specs.Prelude.{string_bytes}
use Rattle.query_router.specs.declared.request.Asked as asked_type
use Rattle.query_router.specs.declared.request.Asked.TheVariants as sayings
use Rattle.query_router.specs.declared.request.Request as request_type
use Rattle.query_router.specs.declared.request.Request.TheVariants as requests
use Rattle.query_router.specs.Requests.{Request, smart, raw, contract_info, code_info, balance, all_balances, supply, unknown, Asked, no_json, no_shape, asks}

abbrev pub request_view : request_type.Request → Request
request_view (requests.Smart contract msg) = smart (string_bytes contract) msg.items
request_view (requests.Raw contract key) = raw (string_bytes contract) key.items
request_view (requests.ContractInfo contract) = contract_info (string_bytes contract)
request_view (requests.CodeInfo id) = code_info id
request_view (requests.Balance address denom) = balance (string_bytes address) (string_bytes denom)
request_view (requests.AllBalances address) = all_balances (string_bytes address)
request_view (requests.Supply denom) = supply (string_bytes denom)
request_view (requests.Unknown kind) = unknown (string_bytes kind)

abbrev pub asked_view : asked_type.Asked → Asked
asked_view sayings.NoJson = no_json
asked_view sayings.NoShape = no_shape
asked_view (sayings.Asks request) = asks (request_view request)
