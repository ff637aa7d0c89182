use Rattle.std.proofs.Common.{sym, subst, ap, ◌∙◌}
use Rattle.std.specs.FinMap.{insert}
use Rattle.chain_records.specs.Records.{plain_facts}
use Rattle.chain_records.specs.State.{Bytes, Spells}
use Rattle.bank_ledger.specs.Minted.{opening}
use Rattle.bank_ledger.proofs.Opening.{spelled_first, opening_lawful}
use Rattle.bank_ledger.proofs.minting.opened.Goals as goal

pub returns : goal.returns
returns c =
    let first = c.in_ok-insert.ensures.ok ∙ ap (λ (m : Bytes). insert m c.in_ok-key.key.items c.in_ok-stored_bytes.field-0.items) c.new-plain.ensures in
    let second = c.in_ok-insert-2.ensures.ok ∙ ap (λ (m : Bytes). insert m c.in_ok-key-2.key.items c.in_ok-stored_bytes-2.field-0.items) first in
    let there = spelled_first c.facts_and_counters_begin_a_chain.ensures _ _ c.in_ok-key.key.items c.in_ok-stored_bytes.field-0.items c.in_ok-key-2.key.items c.in_ok-stored_bytes-2.field-0.items c.in_ok-key.ensures c.in_ok-stored_bytes.ensures c.in_ok-key-2.ensures c.in_ok-stored_bytes-2.ensures in
    let spelled = subst (λ (m : Bytes). Spells m (opening (plain_facts c.args.facts))) (sym second) there in
    let lawful = opening_lawful (plain_facts c.args.facts) _ in
    record { spelled = spelled; lawful = lawful; records = record { state = opening (plain_facts c.args.facts); spelled = spelled; lawful = lawful } }
