use Rattle.std.proofs.Common.{ap, ◌∙◌}
use Rattle.std.specs.FinMap.{insert}
use Rattle.chain_records.specs.State.{Bytes}
use Rattle.chain_tests.proofs.ListedCodes.{stored_map}
use Rattle.chain_tests.proofs.contracts.put_code.Goals as goal

pub returns-clause-lawful : goal.returns-clause-lawful
returns-clause-lawful c =
    let first = c.in_ok-insert.ensures.ok in
    let second = c.in_ok-insert-2.ensures.ok ∙ ap (λ (m : Bytes). insert m c.in_ok-key-2.key.items c.in_ok-stored_bytes-2.field-0.items) first in
    let third = c.in_ok-insert-3.ensures.ok ∙ ap (λ (m : Bytes). insert m c.in_ok-key-3.key.items c.in_ok-stored_bytes-3.field-0.items) second in
    stored_map c.codes_are_stored_whole.ensures c.contracts_stay_lawful.ensures.stored c.args.given _ _ c.in_ok-key.key.items c.in_ok-stored_bytes.field-0.items c.in_ok-key-2.key.items c.in_ok-stored_bytes-2.field-0.items c.in_ok-key-3.key.items c.in_ok-stored_bytes-3.field-0.items c.args.plain.now c.insert-3.new.self c.requires.few
    c.in_ok-key.ensures c.in_ok-stored_bytes.ensures c.in_ok-key-2.ensures c.in_ok-stored_bytes-2.ensures c.in_ok-key-3.ensures c.in_ok-stored_bytes-3.ensures third c.requires.lawful
