use Rattle.std.proofs.Common.{◌<◌, ◌≤◌, length, arith}
use Rattle.std.specs.FinMap.{keys}
use Rattle.code_registry.specs.Codes.{pins_with, unpin_refusal}
use Rattle.code_registry.proofs.Refusing.{within_limit, over_limit, stop_of_first}
use Rattle.code_registry.proofs.authority.may_pin.Goals as goal

pub returns-in-Err-clause-stop : goal.returns-in-Err-clause-stop
returns-in-Err-clause-stop g c = λ m s stands spelled lawful.
    stop_of_first c.in-Err.stop (unpin_refusal s c.args.sender.now c.args.ids.now) _ (c.in-Err.ensures.stop m s stands spelled lawful)

pub returns-then-many-gt-MOST_PINS-clause-stop : goal.returns-then-many-gt-MOST_PINS-clause-stop
returns-then-many-gt-MOST_PINS-clause-stop g c = λ m s stands spelled lawful.
    let counted = c.in_ok-many.ensures m s stands spelled in
    let over : 64 < length (keys (pins_with s.pins c.args.ids.now)) = omega arith in
    over_limit (unpin_refusal s c.args.sender.now c.args.ids.now) (length (keys (pins_with s.pins c.args.ids.now))) (c.in-Ok.ensures.ok m s stands spelled lawful) over

pub returns-clause-ok : goal.returns-clause-ok
returns-clause-ok g c = λ m s stands spelled lawful.
    let counted = c.in_ok-many.ensures m s stands spelled in
    let fits : length (keys (pins_with s.pins c.args.ids.now)) ≤ 64 = omega arith in
    within_limit (unpin_refusal s c.args.sender.now c.args.ids.now) (length (keys (pins_with s.pins c.args.ids.now))) (c.in-Ok.ensures.ok m s stands spelled lawful) fits
