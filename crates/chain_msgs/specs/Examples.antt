-- A few answers of contracts with what they say, and bytes of replies.
use Rattle.std.specs.Prelude.{◌≡◌, [], ◌∷◌, None, Some, codes, replicate, refl}
use Rattle.std.specs.Fmt.{digits}
use Rattle.std.specs.Str.{is_utf8, chars}
use Rattle.serde_json.proofs.OnLiterals.{serde_json_on_literals}
use Rattle.json_shapes.specs.Json.{json_of}
use Rattle.json_shapes.specs.Shapes.{field_step, place_step}
use Rattle.json_shapes.specs.declared.stop.Want.TheVariants.{Text}
use Rattle.chain_msgs.specs.Messages.{told, error}
use Rattle.chain_msgs.specs.Forms.{response_of, sub_msg_of, cosmos_of, named_cosmos, bank_of, named_bank, burn_of, coin_of, attribute_of, event_of}
use Rattle.chain_msgs.specs.Answers.{response_in, says, no_json, no_form, bad_event}
use Rattle.chain_msgs.specs.Protobuf.{varint_in, reply_bytes}

-- the bytes alone are in field 1; behind an address they are in field 2
alone : reply_bytes None (Some (1 ∷ 2 ∷ [])) ≡ 10 ∷ 2 ∷ 1 ∷ 2 ∷ []
unfolding varint_in
alone = refl

behind_an_address : reply_bytes (Some (codes "abc")) (Some (1 ∷ [])) ≡ 10 ∷ 3 ∷ 97 ∷ 98 ∷ 99 ∷ 18 ∷ 1 ∷ 1 ∷ []
unfolding varint_in
behind_an_address = refl

nothing : reply_bytes None (Some []) ≡ []
nothing = refl

-- a length of 200 has two bytes
two_hundred : reply_bytes None (Some (replicate 200 7)) ≡ 10 ∷ 200 ∷ 1 ∷ replicate 200 7
unfolding varint_in
two_hundred = refl

the_error : response_in (codes "{\"error\":\"no\"}") ≡ says (error (codes "no"))
unfolding response_in json_of is_utf8 chars digits serde_json_on_literals
the_error = refl

of_nothing : response_in (codes "{\"ok\":{}}") ≡ says (told (record { messages = []; attributes = []; events = []; out = None }))
unfolding response_in response_of json_of is_utf8 chars digits serde_json_on_literals
of_nothing = refl

broken : response_in (codes "{\"ok\":1.5}") ≡ no_json
unfolding response_in json_of is_utf8 chars digits serde_json_on_literals
broken = refl

second_denom : response_in (codes "{\"ok\":{\"messages\":[{\"id\":1,\"msg\":{\"bank\":{\"burn\":{\"amount\":[{\"amount\":\"1\"}]}}}}]}}")
    ≡ no_form (record { path = field_step (codes "ok") ∷ field_step (codes "messages") ∷ place_step 0 ∷ field_step (codes "msg") ∷ field_step (codes "bank") ∷ field_step (codes "burn") ∷ field_step (codes "amount") ∷ place_step 0 ∷ field_step (codes "denom") ∷ []; want = Text })
unfolding response_in response_of sub_msg_of cosmos_of named_cosmos bank_of named_bank burn_of coin_of json_of is_utf8 chars digits serde_json_on_literals
second_denom = refl

second_event : response_in (codes "{\"ok\":{\"events\":[{\"type\":\"ab\",\"attributes\":[]},{\"type\":\"c\",\"attributes\":[]}]}}") ≡ bad_event 2
unfolding response_in response_of event_of attribute_of json_of is_utf8 chars digits serde_json_on_literals
second_event = refl
