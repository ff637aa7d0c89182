-- What is answered has no number but integers.
use Rattle.std.proofs.Common.{◌≡◌, ◌∙◌, ℕ, Bool, false, List, [], ◌∷◌, map, codes, Option, Some, None, Result, IfOk, refl, ap}
use Rattle.std.proofs.lemmas.Result.{IfOk-weaker}
use Rattle.serde_json.specs.Data.{Data}
use Rattle.serde_json.specs.View.{items_of}
use Rattle.serde_json.specs.Written.{has_float, items_have_float, compact_text}
use Rattle.json_shapes.specs.Values.{list_data, variant_data}
use Rattle.coin_amounts.specs.Plain.{Coin}
use Rattle.chain_msgs.specs.Plain.{answer_view, answered}
use Rattle.chain_msgs.specs.Texts.{coin_data}
use Rattle.chain_records.specs.Records.{PlainCodeInfo, PlainContract}
use Rattle.query_router.specs.Queries.{admin_data, contract_data, code_data}
use Rattle.chain_msgs.specs.declared.answer.Answer as answer_type

list_whole : (coins : List Coin) → items_have_float (items_of (map coin_data coins)) ≡ false
list_whole [] = refl
list_whole (coin ∷ coins) = list_whole coins

pub coins_whole : (coins : List Coin) → has_float (variant_data (codes "amount") (list_data (map coin_data coins))) ≡ false
coins_whole coins = rw (list_whole coins) refl

pub amount_whole : (coin : Coin) → has_float (variant_data (codes "amount") (coin_data coin)) ≡ false
amount_whole coin = refl

admin_whole : (prefix : List ℕ) (admin : Option (List ℕ)) → has_float (admin_data prefix admin) ≡ false
admin_whole prefix None = refl
admin_whole prefix (Some admin) = refl

pub contract_whole : (prefix : List ℕ) (c : PlainContract) (pinned : Bool) → has_float (contract_data prefix c pinned) ≡ false
contract_whole prefix c pinned = rw (admin_whole prefix c.admin) refl

pub code_whole : (prefix : List ℕ) (id : ℕ) (info : PlainCodeInfo) → has_float (code_data prefix id info) ≡ false
code_whole prefix id info = refl

-- what is answered by the text of a value that is this one, and has no float
pub text_of_whole : {E : Type 0} (r : Result answer_type.Answer E) (given wanted : Data) → IfOk r (λ answer. has_float given ≡ false → answer_view answer ≡ answered (compact_text given))
    → given ≡ wanted → has_float wanted ≡ false → IfOk r (λ answer. answer_view answer ≡ answered (compact_text wanted))
text_of_whole r given wanted text is whole = IfOk-weaker r _ _ (λ _ of_whole. of_whole (ap has_float is ∙ whole) ∙ ap (λ (d : Data). answered (compact_text d)) is) text
