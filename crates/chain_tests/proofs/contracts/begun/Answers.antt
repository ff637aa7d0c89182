use Rattle.std.proofs.Common.{ap, ◌∙◌}
use Rattle.std.specs.FinMap.{insert}
use Rattle.chain_records.specs.State.{Bytes}
use Rattle.chain_tests.proofs.ListedCodes.{begun_map}
use Rattle.chain_tests.proofs.contracts.begun.Goals as goal

pub returns : goal.returns
returns c =
    let first = c.in_ok-insert.ensures.ok ∙ ap (λ (m : Bytes). insert m c.in_ok-key.key.items c.in_ok-stored_bytes.field-0.items) c.new-plain.ensures in
    let second = c.in_ok-insert-2.ensures.ok ∙ ap (λ (m : Bytes). insert m c.in_ok-key-2.key.items c.in_ok-stored_bytes-2.field-0.items) first in
    begun_map c.facts_and_counters_begin_a_chain.ensures _ c.args.given c.in_ok-key.key.items c.in_ok-stored_bytes.field-0.items c.in_ok-key-2.key.items c.in_ok-stored_bytes-2.field-0.items c.insert-2.new.self c.in_ok-key.ensures c.in_ok-stored_bytes.ensures c.in_ok-key-2.ensures c.in_ok-stored_bytes-2.ensures second
