use Rattle.std.proofs.Common.{sym, ap, subst}
use Rattle.chain_addr.specs.Letters.{IsPrefix}
use Rattle.chain_records.specs.Records.{PlainFacts}
use Rattle.query_router.proofs.records.prefix_of.Goals as goal

pub returns-clause-prefix : goal.returns-clause-prefix
returns-clause-prefix g c = λ m s stands spelled. ap (λ (f : PlainFacts). f.prefix) (c.in_ok-chain.ensures m s stands spelled)

pub returns-clause-letters : goal.returns-clause-letters
returns-clause-letters g c =
    let t = c.requires in
    subst IsPrefix (sym (ap (λ (f : PlainFacts). f.prefix) (c.in_ok-chain.ensures t.map t.state t.stands t.spelled))) t.holds.prefix
