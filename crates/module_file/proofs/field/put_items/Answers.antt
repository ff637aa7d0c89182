use Rattle.module_file.proofs.Items.{each_holds}
use Rattle.module_file.proofs.field.put_items.Goals as goal

pub put-requires : goal.put-requires
put-requires g c = each_holds g.T.Field.holds g.T.Field.shown c.args.items.now c.loop-item.item-index c.item-item.result c.loop-item-test.true c.item-item.is c.requires
