use Rattle.std.proofs.Common.{◌≡◌, map, take, string_bytes}
use Rattle.coin_amounts.specs.Plain.{coin_view}
use Rattle.coin_amounts.specs.Text.{coins_text}
use Rattle.coin_amounts.proofs.text.coins_text.Given as goal

abbrev pub invariant-loop-place : goal.invariant-loop-place
invariant-loop-place l = string_bytes l.text ≡ coins_text (map coin_view (take l.place l.coin-items))
