use Rattle.std.proofs.Common.{sym, ◌∙◌}
use Rattle.chain_records.specs.Records.{plain_facts}
use Rattle.submsg_dispatch.specs.Failures.{not_authority}
use Rattle.submsg_dispatch.proofs.Leading.{fails_from}
use Rattle.submsg_dispatch.proofs.Seeing.{authority_seen, no_authority_seen}
use Rattle.submsg_dispatch.proofs.commands.need_authority.Goals as goal

pub returns-then-not-is_the : goal.returns-then-not-is_the
returns-then-not-is_the g c = λ tally left.
    no_authority_seen c.args.sender.now (plain_facts c.in_ok-chain.chain) c.stop_of.result c.in_ok-chain.ensures (sym c.is_the.ensures ∙ c.if-not-is_the.true) (fails_from c.stop_of.result c.not_authority.result not_authority c.stop_of.ensures c.not_authority.ensures)

pub returns : goal.returns
returns g c = λ tally left. authority_seen c.args.sender.now (plain_facts c.in_ok-chain.chain) c.in_ok-chain.ensures (sym c.is_the.ensures ∙ c.if-not-is_the.false)
