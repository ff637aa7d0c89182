use Rattle.std.proofs.Common.{◌∙◌, Bool, Ok, ap, string_bytes, sym}
use Rattle.coin_amounts.specs.Plain.{coin_view}
use Rattle.block_runner.proofs.Minting.{lawful_records, records_minted}
use Rattle.block_runner.proofs.Supplies.{too_much}
use Rattle.block_runner.proofs.crediting.mint_coin.Goals as goal

pub mint-requires-clause-lawful : goal.mint-requires-clause-lawful
mint-requires-clause-lawful c = lawful_records c.args.records.now c.requires.records

pub returns-then-branch-clause-minted : goal.returns-then-branch-clause-minted
returns-then-branch-clause-minted c = λ s u r.
    let minted = rw (c.as_str.ensures.value) at c.in_ok-mint.ensures.minted in
    records_minted c.args.records.now c.mint.new.plain c.args.to.now (coin_view c.args.coin.now) (minted (ap (λ (x : Bool). Ok x) c.if-branch.true)) s u r

pub returns-else-branch-clause-over : goal.returns-else-branch-clause-over
returns-else-branch-clause-over c = λ s u r.
    let fits = rw (c.as_str.ensures.value) at c.in_ok-mint.ensures.fits s r.spelled in
    too_much _ _ c.args.coin.now.amount (r.supplies_are (string_bytes c.args.coin.now.denom)) (λ lt. sym c.if-branch.false ∙ fits.1 lt)
