use Rattle.std.proofs.Common.{◌≡◌, ◌%◌, ◌*◌, ◌^◌, ap, refl, arith}
use Rattle.std.proofs.lemmas.Nat.{shr_below, one_shl}
use Rattle.chain_addr.proofs.Grouping.{moves, All-push}
use Rattle.chain_addr.proofs.groups.push_group.Goals as goal

pub overflow_cast-waiting : goal.overflow_cast-waiting
overflow_cast-waiting c = omega (arith, shr_below c.args.waiting 5 c.args.more c.requires.waiting)

pub returns : goal.returns
returns c =
    let unit : 1 * 2 ^ c.args.more % 2 ^ 32 ≡ 2 ^ c.args.more = one_shl c.args.more 32 (omega arith) in
    let below = shr_below c.args.waiting 5 c.args.more c.requires.waiting in
    let items = c.in_ok-push.ensures.items in
    moves c.args.groups.now.items c.push.new.self.items c.args.waiting c.args.more _ _ refl (ap (λ u. c.args.waiting % u) unit) items
    (λ small. rw items (All-push c.args.groups.now.items _ small below))
