use Rattle.std.proofs.Common.{sym, ap, ◌∙◌, subst}
use Rattle.std.specs.FinMap.{get}
use Rattle.std.specs.Option.{option_copied}
use Rattle.std.proofs.lemmas.Result.{IfOk-weaker}
use Rattle.kv_layers.specs.Next.{IsNext}
use Rattle.kv_layers.specs.Plain.{bytes_view}
use Rattle.kv_layers.specs.Sorted.{value_at}
use Rattle.kv_layers.proofs.Maps.{get-map_of, IsNext-view, shown-views}
use Rattle.kv_layers.proofs.plain.PlainBase.next_in.Goals as goal

pub returns : goal.returns
returns c =
    let entries = c.self.inside.entries in
    let next = rw (c.in_ok-bounds.ensures.lo, c.in_ok-bounds.ensures.hi) at c.next_entry.ensures in
    IfOk-weaker c.owned_entry.result _ _ (λ found e map same.
    subst (IsNext (get map) (option_copied c.args.lo) (option_copied c.args.hi) c.args.order) (shown-views c.next_entry.result ∙ sym e)
    (IsNext-view bytes_view (value_at entries) (get map) (λ q. ap (λ m. get m q) (sym (c.self.view_is ∙ same)) ∙ get-map_of entries q) _ _ _ _ next)) c.owned_entry.ensures
