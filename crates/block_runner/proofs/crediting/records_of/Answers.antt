use Rattle.std.proofs.Common.{◌≡◌, ◌∙◌, ℕ, ◌<◌, ◌^◌, ◌++◌, ◌∷◌, [], List, sym, ap, subst, rules}
use Rattle.std.proofs.lemmas.List.{append_assoc, append-nil}
use Rattle.std.proofs.lemmas.Slice.Zip.{either_empty_from_Zip}
use Rattle.std.specs.Iterator.Adapters.{zip_first, zip_second}
use Rattle.std.specs.Slice.Iter.{iter_rest}
use Rattle.coin_amounts.specs.Coins.{coins_view}
use Rattle.chain_records.specs.Records.{plain_facts}
use Rattle.bank_ledger.specs.Minted.{opening}
use Rattle.block_runner.specs.Crediting.{Records, accounts_view}
use Rattle.block_runner.specs.Opening.{Account, supply_of, fits, all_credited}
use Rattle.block_runner.proofs.Accounts.{all_hold, holder, met, left_none}
use Rattle.block_runner.proofs.Minting.{opening_records, account_added, some_records}
use Rattle.block_runner.proofs.Supplies.{over_more, account_refused, all_fit}
use Rattle.block_runner.proofs.crediting.records_of.Goals as goal

pub loop-address-init : goal.loop-address-init
loop-address-init c =
    let first : iter_rest (zip_first c.into_iter-address-iterator.result) ≡ c.args.addresses.now = search rules in
    let second : iter_rest (zip_second c.into_iter-address-iterator.result) ≡ c.args.coins.now = search rules in
    record {
      done = [];
      all = ap (λ l. accounts_view l c.args.coins.now) (sym first) ∙ ap (accounts_view (iter_rest (zip_first c.into_iter-address-iterator.result))) (sym second);
      are = opening_records (plain_facts c.args.facts) c.in_ok-records.records c.requires.facts c.in_ok-records.ensures.spelled c.in_ok-records.ensures.lawful;
    }

pub credit-requires-clause-to : goal.credit-requires-clause-to
credit-requires-clause-to c =
    let inv = c.loop-address.invariant in
    let here = met _ inv.done inv.all c.in-Some.ensures.steps.0 c.in-Some.ensures.steps.1 in
    let holds = holder _ inv.done _ _ (all_hold c.args.addresses.now c.args.coins.now c.requires.sized c.requires.denoms) here in
    rw c.deref.ensures.value holds.address

pub credit-requires-clause-denoms : goal.credit-requires-clause-denoms
credit-requires-clause-denoms c =
    let inv = c.loop-address.invariant in
    let here = met _ inv.done inv.all c.in-Some.ensures.steps.0 c.in-Some.ensures.steps.1 in
    (holder _ inv.done _ _ (all_hold c.args.addresses.now c.args.coins.now c.requires.sized c.requires.denoms) here).denoms

pub credit-requires-clause-records : goal.credit-requires-clause-records
credit-requires-clause-records c = some_records _ _ c.loop-address.records c.loop-address.invariant.are

pub loop-address-preserved : goal.loop-address-preserved
loop-address-preserved c =
    let inv = c.loop-address.invariant in
    let account : Account = (c.in-Some.address.now.items, coins_view c.in-Some.held.now) in
    let here = met _ inv.done inv.all c.in-Some.ensures.steps.0 c.in-Some.ensures.steps.1 in
    let start = opening (plain_facts c.args.facts) in
    let credited = rw c.deref.ensures.value at (c.in-Ok.ensures.credited (all_credited start inv.done) (supply_of inv.done) inv.are) in
    record {
      done = inv.done ++ account ∷ [];
      all = here ∙ sym (append_assoc inv.done (account ∷ []) _);
      are = account_added start c.credit.new.records inv.done account credited;
    }

pub returns-in-Err : goal.returns-in-Err
returns-in-Err c =
    let inv = c.loop-address.invariant in
    let here = met _ inv.done inv.all c.in-Some.ensures.steps.0 c.in-Some.ensures.steps.1 in
    let over = c.in-Err.ensures.over (all_credited (opening (plain_facts c.args.facts)) inv.done) (supply_of inv.done) inv.are in
    over_more c.in-Err.stop _ _ over (λ none. ap fits here ∙ account_refused inv.done _ _ none)

pub returns : goal.returns
returns c =
    let inv = c.loop-address.invariant in
    let accounts = accounts_view c.args.addresses.now c.args.coins.now in
    let none = left_none _ _ (either_empty_from_Zip c.loop-address.address-iterator c.next.new.self c.next.result c.in-None.is c.next.ensures.steps) in
    let whole : accounts ≡ inv.done = inv.all ∙ ap (λ l. inv.done ++ l) none ∙ append-nil inv.done in
    let are = subst (λ (l : List Account). Records (all_credited (opening (plain_facts c.args.facts)) l) (supply_of l) c.loop-address.records) (sym whole) inv.are in
    (all_fit accounts (λ denom. subst (λ (n : ℕ). n < 2 ^ 128) (are.supplies_are denom) (are.lawful.amounts.bounded denom)), are.spelled, are.lawful)
