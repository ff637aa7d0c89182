use Rattle.std.proofs.Common.{Some, None}
use Rattle.chain_records.specs.Records.{plain_facts}
use Rattle.code_registry.specs.Codes.{is_authority, first_unknown}
use Rattle.code_registry.proofs.Refusing.{authority_is, outside_is, not_the_authority, the_authority}
use Rattle.code_registry.proofs.authority.may_unpin.Goals as goal

pub returns-then-not-is_the-clause-stop : goal.returns-then-not-is_the-clause-stop
returns-then-not-is_the-clause-stop g c = λ m s stands spelled lawful.
    not_the_authority (is_authority s c.args.sender.now) _ (authority_is s (plain_facts c.in_ok-chain.chain) c.args.sender.now _ _ (c.in_ok-chain.ensures m s stands spelled) c.is_the.ensures c.if-not-is_the.true)

pub returns-in-Some-clause-stop : goal.returns-in-Some-clause-stop
returns-in-Some-clause-stop g c = λ m s stands spelled lawful.
    the_authority (is_authority s c.args.sender.now) (first_unknown s c.args.ids.now) (Some c.in-Some.id)
    (authority_is s (plain_facts c.in_ok-chain.chain) c.args.sender.now _ _ (c.in_ok-chain.ensures m s stands spelled) c.is_the.ensures c.if-not-is_the.false)
    (outside_is s c.in_ok-given.given c.args.ids.now (Some c.in-Some.id) lawful (c.in_ok-given.ensures m s stands spelled) c.in-Some.ensures)

pub returns-clause-ok : goal.returns-clause-ok
returns-clause-ok g c = λ m s stands spelled lawful.
    the_authority (is_authority s c.args.sender.now) (first_unknown s c.args.ids.now) None
    (authority_is s (plain_facts c.in_ok-chain.chain) c.args.sender.now _ _ (c.in_ok-chain.ensures m s stands spelled) c.is_the.ensures c.if-not-is_the.false)
    (outside_is s c.in_ok-given.given c.args.ids.now None lawful (c.in_ok-given.ensures m s stands spelled) c.in-None.ensures)
