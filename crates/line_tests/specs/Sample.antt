-- The form that the tests read: a record with a list of records, a text that may be
-- missing, and a variant.
use Rattle.std.specs.Prelude.{ℕ, List, codes, Option, None, Ok, if◌then◌else◌}
use Rattle.std.specs.Str.{bytes_eq}
use Rattle.serde_json.specs.Data.{Data}
use Rattle.json_shapes.specs.Shapes.{Form, Reading, ◌>>=◌, mapped, within, field_step, found, text, number, list, field, optional, variant}
use Rattle.json_shapes.specs.declared.stop.Want.TheVariants.{Variant, Text, Number}

pub record Coin : Type 0 where
  pub denom : List ℕ
  pub amount : ℕ

pub data Act : Type 0 where
  send : List ℕ → Act
  burn : ℕ → Act

pub record Order : Type 0 where
  pub id : ℕ
  pub coins : List Coin
  pub memo : Option (List ℕ)
  pub act : Act

unfoldable pub coin_of : Data → Reading Coin
coin_of d = do
  denom ← field (codes "denom") text d
  amount ← field (codes "amount") number d
  Ok (record { denom = denom; amount = amount })

abbrev pub coin : Form Coin
coin = record { want = Text; read = coin_of }

abbrev pub send_of : Data → Reading Act
send_of d = mapped send (field (codes "to") text d)

abbrev pub burn_of : Data → Reading Act
burn_of d = mapped burn (field (codes "amount") number d)

-- what the variant of this name says
abbrev pub named_act : List ℕ × Data → Reading Act
named_act (name, d) =
    if bytes_eq name (codes "send") then within (field_step (codes "send")) (send_of d)
    else (if bytes_eq name (codes "burn") then within (field_step (codes "burn")) (burn_of d) else found Variant None)

unfoldable pub act_of : Data → Reading Act
act_of d = variant d >>= named_act

abbrev pub act : Form Act
act = record { want = Variant; read = act_of }

unfoldable pub order_of : Data → Reading Order
order_of d = do
  id ← field (codes "id") number d
  coins ← field (codes "coins") (list coin) d
  memo ← optional (codes "memo") text d
  what ← field (codes "act") act d
  Ok (record { id = id; coins = coins; memo = memo; act = what })

abbrev pub order : Form Order
order = record { want = Number; read = order_of }
