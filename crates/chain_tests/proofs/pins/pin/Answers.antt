use Rattle.chain_tests.proofs.Pinning.{pinned_map}
use Rattle.chain_tests.proofs.pins.pin.Goals as goal

pub returns : goal.returns
returns c = pinned_map c.one_record_changes.ensures.written c.args.id c.in_ok-key.key.items c.in_ok-mark.mark.items c.args.plain.now c.insert.new.self c.in_ok-key.ensures c.in_ok-mark.ensures c.in_ok-insert.ensures.ok c.requires.typed
