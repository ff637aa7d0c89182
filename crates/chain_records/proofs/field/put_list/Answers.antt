use Rattle.std.proofs.Common.{◌≡◌, ◌+◌, ◌∷◌, map, drop, sym, ap, ◌∙◌}
use Rattle.std.proofs.lemmas.List.{drop_more, length-map}
use Rattle.std.proofs.Math.ListN.{drop_of_length-le}
use Rattle.chain_records.proofs.Items.{remains_all, remains_more, remains_none}
use Rattle.chain_records.proofs.field.put_list.Goals as goal

pub loop-item-init : goal.loop-item-init
loop-item-init g c =
    remains_all c.args.bytes.now.items c.put_number.new.bytes.items _ (sym (length-map c.args.items.now g.T.Field.shown)) c.in_ok-put_number.ensures.after

pub loop-item-preserved : goal.loop-item-preserved
loop-item-preserved g c =
    let xs = c.args.items.now in
    let i = c.loop-item.item-index in
    let item = c.item-item.result in
    let e : drop i xs ≡ item ∷ drop (i + 1) xs = drop_more xs i item c.loop-item-test.true ∙ ap (λ y. y ∷ drop (i + 1) xs) (sym c.item-item.is) in
    remains_more (g.T.Field.shown item) (map g.T.Field.shown (drop (i + 1) xs)) (map g.T.Field.shown (drop i xs)) c.loop-item.bytes.items c.put.new.bytes.items c.in_ok-put.ensures (ap (map g.T.Field.shown) e) c.loop-item.invariant

pub returns : goal.returns
returns g c =
    remains_none c.args.bytes.now.items c.loop-item.bytes.items (map g.T.Field.shown (drop c.loop-item.item-index c.args.items.now)) (ap (map g.T.Field.shown) (drop_of_length-le c.args.items.now c.loop-item-test.false)) (rw (length-map c.args.items.now g.T.Field.shown) c.in_ok-put_number.ensures.is) c.loop-item.invariant
