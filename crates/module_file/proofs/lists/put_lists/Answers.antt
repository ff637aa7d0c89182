use Rattle.std.proofs.lemmas.List.{map-id}
use Rattle.module_file.specs.ModuleFile.{later_lists, lists}
use Rattle.module_file.proofs.Joining.{joined}
use Rattle.module_file.proofs.lists.put_lists.Goals as goal

pub returns : goal.returns
unfolding lists later_lists
returns c =
    joined c.args.bytes.now.items _ _ _ _ _ _ _ _ _ _ _ _ _ _ _ _ _ _ _ _
    (rw c.deref.ensures.value at c.in_ok-put_list.ensures)
    (rw c.deref-2.ensures.value at c.in_ok-put_list-2.ensures)
    (rw (c.deref-3.ensures.value, map-id) at c.in_ok-put_list-3.ensures)
    (rw (c.deref-4.ensures.value, map-id) at c.in_ok-put_list-4.ensures)
    (rw (c.deref-5.ensures.value, map-id) at c.in_ok-put_list-5.ensures)
    (rw (c.deref-6.ensures.value, map-id) at c.in_ok-put_list-6.ensures)
    (rw c.deref-7.ensures.value at c.in_ok-put_list-7.ensures)
    (rw c.deref-8.ensures.value at c.in_ok-put_list-8.ensures)
    (rw c.deref-9.ensures.value at c.in_ok-put_list-9.ensures)
    (rw c.deref-10.ensures.value at c.in_ok-put_list-10.ensures)
