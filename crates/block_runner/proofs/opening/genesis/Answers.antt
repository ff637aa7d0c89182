use Rattle.std.proofs.Common.{◌∙◌, map, option_map, sym}
use Rattle.std.proofs.lemmas.Result.{err_from_is_err_and}
use Rattle.coin_amounts.specs.Coins.{coins_view}
use Rattle.chain_msgs.specs.Plain.{genesis_view}
use Rattle.chain_records.specs.Records.{bytes_view, plain_facts}
use Rattle.block_runner.proofs.Distinct.{names}
use Rattle.block_runner.proofs.Stages.{no_authority, no_addresses, HasAddresses, alike, no_coins, HasAccounts, opens}
use Rattle.block_runner.proofs.opening.genesis.Goals as goal

pub returns-in_err-authority : goal.returns-in_err-authority
returns-in_err-authority c =
    let p = err_from_is_err_and c.from_residual.result c.from_residual.ensures.1 in
    rw (p.1, p.2) (no_authority (genesis_view c.args.g.now) c.in_err-authority.field-0.0 (rw c.as_str.ensures.value at c.in_err-authority.ensures.reads))

pub returns-in_err-addresses : goal.returns-in_err-addresses
returns-in_err-addresses c =
    let g = genesis_view c.args.g.now in
    let p = err_from_is_err_and c.from_residual-in_err-addresses.result c.from_residual-in_err-addresses.ensures.1 in
    let authority = option_map bytes_view c.in_ok-authority.authority in
    let first = rw c.as_str.ensures.value at c.in_ok-authority.ensures.reads in
    let unread = rw (c.as_str-2.ensures.value, c.deref.ensures.value) at c.in_err-addresses.ensures.reads in
    rw (p.1, p.2) (no_addresses g authority c.in_err-addresses.field-0.0 first unread)

pub returns-then-not-branch : goal.returns-then-not-branch
returns-then-not-branch c =
    let g = genesis_view c.args.g.now in
    let authority = option_map bytes_view c.in_ok-authority.authority in
    let addresses = names c.in_ok-addresses.addresses.items in
    let has : HasAddresses g authority addresses = record {
      first = rw c.as_str.ensures.value at c.in_ok-authority.ensures.reads;
      others = rw (c.as_str-2.ensures.value, c.deref.ensures.value) at c.in_ok-addresses.ensures.reads;
    } in
    let unlike = rw c.deref-2.ensures.value at c.in_ok-are_unlike.ensures in
    alike g authority addresses has (sym unlike ∙ c.if-not-branch.true)

pub returns-in_err-coins : goal.returns-in_err-coins
returns-in_err-coins c =
    let g = genesis_view c.args.g.now in
    let p = err_from_is_err_and c.from_residual-in_err-coins.result c.from_residual-in_err-coins.ensures.1 in
    let authority = option_map bytes_view c.in_ok-authority.authority in
    let addresses = names c.in_ok-addresses.addresses.items in
    let has : HasAddresses g authority addresses = record {
      first = rw c.as_str.ensures.value at c.in_ok-authority.ensures.reads;
      others = rw (c.as_str-2.ensures.value, c.deref.ensures.value) at c.in_ok-addresses.ensures.reads;
    } in
    let unlike = rw c.deref-2.ensures.value at c.in_ok-are_unlike.ensures in
    let unread = rw c.deref-3.ensures.value at c.in_err-coins.ensures.reads in
    rw (p.1, p.2) (no_coins g authority addresses c.in_err-coins.field-0.0 has (sym unlike ∙ c.if-not-branch.false) unread)

pub returns : goal.returns
returns c =
    let g = genesis_view c.args.g.now in
    let authority = option_map bytes_view c.in_ok-authority.authority in
    let addresses = names c.in_ok-addresses.addresses.items in
    let coins = map coins_view c.in_ok-coins.coins.items in
    let unlike = rw c.deref-2.ensures.value at c.in_ok-are_unlike.ensures in
    let has : HasAccounts g authority addresses coins = record {
      first = record {
        first = rw c.as_str.ensures.value at c.in_ok-authority.ensures.reads;
        others = rw (c.as_str-2.ensures.value, c.deref.ensures.value) at c.in_ok-addresses.ensures.reads;
      };
      unlike = sym unlike ∙ c.if-not-branch.false;
      others = rw c.deref-3.ensures.value at c.in_ok-coins.ensures.reads;
    } in
    let credits = rw (c.deref-4.ensures.value, c.deref-5.ensures.value) at c.records_of.ensures in
    opens g authority addresses coins (plain_facts c.in_ok-facts.facts) c.records_of.result has c.in_ok-facts.ensures credits
