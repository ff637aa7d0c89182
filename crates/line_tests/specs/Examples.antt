-- Two texts with what the form of the tests reads of them.
use Rattle.std.specs.Prelude.{◌≡◌, ℕ, List, [], ◌∷◌, Option, Some, None, option_map, Ok, Err, codes, refl}
use Rattle.std.specs.Fmt.{digits}
use Rattle.std.specs.Str.{is_utf8, chars}
use Rattle.serde_json.proofs.OnLiterals.{serde_json_on_literals}
use Rattle.json_shapes.specs.Json.{json_of}
use Rattle.json_shapes.specs.Shapes.{Reading, field_step, place_step}
use Rattle.json_shapes.specs.declared.stop.Want.TheVariants.{Number}
use Rattle.line_tests.specs.Sample.{Order, order_of, coin_of, act_of, burn}

abbrev order_in : List ℕ → Option (Reading Order)
order_in text = option_map order_of (json_of text)

-- of a repeated field the last one counts
order : order_in (codes "{\"id\":1,\"id\":2,\"coins\":[],\"act\":{\"burn\":{\"amount\":3}}}")
    ≡ Some (Ok (record { id = 2; coins = []; memo = None; act = burn 3 }))
unfolding order_of act_of json_of is_utf8 chars digits serde_json_on_literals
order = refl

no_amount : order_in (codes "{\"id\":1,\"coins\":[{\"denom\":\"x\",\"amount\":\"5\"}],\"act\":{}}")
    ≡ Some (Err (record { path = field_step (codes "coins") ∷ place_step 0 ∷ field_step (codes "amount") ∷ []; want = Number }))
unfolding order_of coin_of json_of is_utf8 chars digits serde_json_on_literals
no_amount = refl
