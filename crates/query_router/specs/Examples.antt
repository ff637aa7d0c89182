-- A few requests with what they ask.
use Rattle.std.specs.Prelude.{◌≡◌, codes, refl}
use Rattle.std.specs.Fmt.{digits}
use Rattle.std.specs.Str.{is_utf8, chars}
use Rattle.serde_json.proofs.OnLiterals.{serde_json_on_literals}
use Rattle.json_shapes.specs.Json.{json_of}
use Rattle.query_router.specs.Requests.{balance, unknown, asked, no_json, no_shape, asks, request_of, named, named_bank, balance_of}

one_balance : asked (codes "{\"bank\":{\"balance\":{\"address\":\"a\",\"denom\":\"utok\"}}}") ≡ asks (balance (codes "a") (codes "utok"))
unfolding asked request_of named named_bank balance_of json_of is_utf8 chars digits serde_json_on_literals
one_balance = refl

no_denom : asked (codes "{\"bank\":{\"balance\":{\"address\":\"a\"}}}") ≡ no_shape
unfolding asked request_of named named_bank balance_of json_of is_utf8 chars digits serde_json_on_literals
no_denom = refl

-- a number that isn't whole comes before the shape
half : asked (codes "{\"bank\":1.5}") ≡ no_json
unfolding asked json_of is_utf8 chars digits serde_json_on_literals
half = refl

-- under `bank` and `wasm` stands a variant
no_variant : asked (codes "{\"wasm\":{}}") ≡ no_shape
unfolding asked request_of named json_of is_utf8 chars digits serde_json_on_literals
no_variant = refl

other : asked (codes "{\"bank\":{\"params\":1}}") ≡ asks (unknown (codes "bank.params"))
unfolding asked request_of named named_bank json_of is_utf8 chars digits serde_json_on_literals
other = refl

-- what stands under an unknown name isn't looked at
outer : asked (codes "{\"staking\":[]}") ≡ asks (unknown (codes "staking"))
unfolding asked request_of named json_of is_utf8 chars digits serde_json_on_literals
outer = refl
