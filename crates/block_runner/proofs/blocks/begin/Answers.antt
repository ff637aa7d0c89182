use Rattle.std.proofs.Common.{refl, subst}
use Rattle.kv_layers.specs.Layers.{HasCurrent}
use Rattle.chain_records.specs.Records.{PlainFacts}
use Rattle.chain_records.specs.State.{Spells}
use Rattle.submsg_dispatch.specs.Blocks.{next_facts}
use Rattle.block_runner.proofs.Beginning.{typed}
use Rattle.block_runner.proofs.blocks.begin.Goals as goal

pub facts-requires : goal.facts-requires
facts-requires g c = typed (HasCurrent g.B.Base.stands_for c.args.layers.now) c.requires

pub returns-clause-ok : goal.returns-clause-ok
returns-clause-ok g c = λ maps s stands spelled.
    let same = c.in_ok-chain.ensures maps.current s (maps, stands, refl) spelled in
    let written = c.in_ok-set_facts.ensures.ok maps s stands spelled in
    (written.0, written.1, subst (λ (f : PlainFacts). Spells written.0 (record s { facts = next_facts f c.args.time })) same written.2)
