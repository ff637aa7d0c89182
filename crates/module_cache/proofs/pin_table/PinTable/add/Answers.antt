use Rattle.std.proofs.Common.{◌≡◌, is_ok}
use Rattle.gatekeeper.specs.CodeBytes.{code_bytes}
use Rattle.module_cache.proofs.Pins.{added_are_right, added_differ}
use Rattle.module_cache.proofs.pin_table.PinTable.add.Goals as goal

pub invariant_of-self : goal.invariant_of-self
invariant_of-self c =
    let was = c.args.self.now in
    let key = c.in_ok-key.key in
    let same : code_bytes key ≡ code_bytes c.args.code.now = c.in_ok-key.ensures in
    record {
      right = added_are_right code_bytes was.list.items c.push.new.self.items (key, c.args.made) (is_ok c.push.result) c.push.ensures.items was.right (rw same c.requires.right);
      differ = added_differ code_bytes was.list.items c.push.new.self.items (key, c.args.made) (is_ok c.push.result) c.push.ensures.items was.differ (rw same c.requires.other);
    }
