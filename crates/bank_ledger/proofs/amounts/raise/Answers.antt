use Rattle.std.proofs.Common.{◌≡◌, ℕ, ◌+◌, refl, subst}
use Rattle.chain_records.specs.Keys.{plain_key}
use Rattle.chain_records.specs.State.{Spells}
use Rattle.bank_ledger.specs.Amounts.{amount_under, with_amount}
use Rattle.bank_ledger.proofs.amounts.raise.Goals as goal

pub returns-clause-ok : goal.returns-clause-ok
returns-clause-ok g c = λ maps s stands spelled.
    let key = plain_key c.args.key.now in
    let is : c.in_ok-have.have ≡ amount_under s key = c.in_ok-have.ensures maps.current s (maps, stands, refl) spelled in
    let written = c.in_ok-set_amount.ensures.ok maps s stands spelled in
    (written.0, written.1, subst (λ (n : ℕ). Spells written.0 (with_amount s key (n + c.args.amount))) is written.2)
