-- What is written of events and coins is read as the same.
use Rattle.std.proofs.Common.{◌≡◌, ℕ, ◌+◌, List, [], ◌∷◌, map, Ok, decimal, refl}
use Rattle.serde_json.specs.View.{items_of}
use Rattle.json_shapes.specs.Shapes.{each}
use Rattle.coin_amounts.specs.Plain.{Coin}
use Rattle.chain_msgs.specs.Plain.{Attribute, Event}
use Rattle.chain_msgs.specs.Forms.{attribute, attribute_of, event_of, coin_of}
use Rattle.chain_msgs.specs.Texts.{attribute_data, event_data, coin_data}

pub attribute_again : (a : Attribute) → attribute_of (attribute_data a) ≡ Ok a
unfolding attribute_of
attribute_again a = refl

attributes_again : (place : ℕ) (xs : List Attribute) → each attribute place (items_of (map attribute_data xs)) ≡ Ok xs
attributes_again place [] = refl
attributes_again place (a ∷ xs) = rw (attribute_again a, attributes_again (place + 1) xs) refl

pub event_again : (e : Event) → event_of (event_data e) ≡ Ok e
unfolding event_of
event_again e = rw (attributes_again 0 e.attributes) refl

pub coin_again : (c : Coin) → coin_of (coin_data c) ≡ Ok (record { denom = c.denom; amount = decimal c.amount })
unfolding coin_of
coin_again c = refl
