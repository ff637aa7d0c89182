use Rattle.std.proofs.Common.{◌≡◌, ◌-◌, ◌<◌, ◌≤◌, ℕ, Bool, true, false, refl, ap, ◌∙◌, arith}
use Rattle.std.proofs.lemmas.Bool.{false≢true}
use Rattle.gas_meter.specs.Gas.{Gas}
use Rattle.host_imports.proofs.Works.{charged_so, uncharged_so}
use Rattle.host_imports.proofs.charge.charge.Goals as goal

enough : (cost left : ℕ) → (left < cost → ◌≡◌ {A = Bool} false true) → cost ≤ left
enough cost left h = let no_less : left < cost → ⊥ = λ l. false≢true (h l) in omega arith

all_used : (n : ℕ) → n - n ≡ 0
all_used n = omega arith

pub returns-in-Ok-clause-moves : goal.returns-in-Ok-clause-moves
returns-in-Ok-clause-moves c = λ machine.
    charged_so c.args.cost c.args.meter.now.left _ (enough c.args.cost c.args.meter.now.left c.in-Ok.ensures.refused.1) (ap (λ (gas : Gas). gas.left) c.in-Ok.ensures.ok)

pub returns-in-Err-clause-moves : goal.returns-in-Err-clause-moves
returns-in-Err-clause-moves c = λ machine.
    uncharged_so c.args.cost c.args.meter.now.left _ (c.in-Err.ensures.refused.0 refl) (ap (λ (gas : Gas). gas.left) c.in-Err.ensures.err ∙ all_used c.args.meter.now.left)
