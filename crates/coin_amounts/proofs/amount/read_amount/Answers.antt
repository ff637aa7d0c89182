use Rattle.std.proofs.Common.{◌≡◌, ℕ, ◌<◌, ◌^◌, Bool, true, false, cond, ltb, ◌&&◌, List, [], ◌∷◌, length, None, Some, refl, sym, arith, rules}
use Rattle.std.specs.Char.{is_ascii_digit}
use Rattle.std.specs.List.{list_all}
use Rattle.std.specs.Str.Parse.{digits_value}
use Rattle.std.proofs.lemmas.Bool.Decides.{Decides-ltb}
use Rattle.std.proofs.lemmas.Result.{OkIff-at_err}
use Rattle.std.proofs.lemmas.Str.Parse.{IsNumeralModel, numerals_by_value, parse_digits}
use Rattle.coin_amounts.specs.Amount.{amount_of}
use Rattle.coin_amounts.proofs.amount.read_amount.Goals as goal

-- the test of the code tells the texts of digits
digits_model : IsNumeralModel (λ ds. list_all is_ascii_digit ds ≡ true) (digits_value 10)
digits_model = numerals_by_value _ (search rules)

-- with a value that is too great there is no amount
past_limit : (all small : Bool) (n : ℕ) → (small ≡ true → ⊥) → cond (all && small) (Some n) None ≡ None
past_limit true true n great = absurd (great refl)
past_limit true false n great = refl
past_limit false small n great = refl

none_if_too_great : (bs : List ℕ) → ((0 < length bs) × (digits_value 10 bs < 2 ^ 128) → ⊥) → amount_of bs ≡ None
none_if_too_great [] great = refl
none_if_too_great (b ∷ bs) great =
    past_limit (list_all is_ascii_digit (b ∷ bs)) (ltb (digits_value 10 (b ∷ bs)) (2 ^ 128)) (digits_value 10 (b ∷ bs))
    (λ small. great (omega arith, (Decides-ltb (digits_value 10 (b ∷ bs)) (2 ^ 128)).0 small))

pub returns-in-Err : goal.returns-in-Err
returns-in-Err c =
    let bs = c.args.text.now in
    let digits : list_all is_ascii_digit bs ≡ true = search rules in
    let parsed = parse_digits digits_model 128 bs c.parse.result c.parse.ensures.value.0 digits in
    sym (none_if_too_great bs (OkIff-at_err c.parse.result _ _ _ parsed c.in-Err.is))
