use Rattle.std.proofs.Common.{◌≡◌, ◌%◌, ◌*◌, ◌^◌, ◌+◌, ◌-◌, ◌++◌, ◌∷◌, [], take, sym, ◌∙◌, ap, subst, arith}
use Rattle.std.proofs.lemmas.List.{take_more, take_all}
use Rattle.chain_addr.specs.Groups.{MovesOut}
use Rattle.chain_addr.proofs.Grouping.{Holding, byte_waits, byte_in, group_out, filled, grouped_end, grouped_whole}
use Rattle.chain_addr.proofs.groups.grouped.Goals as goal
use Rattle.chain_addr.proofs.groups.grouped.Goals.{then-bits-ge5+in_ok-waiting-2, else-bits-ge5, then-bits-gt0+in_ok-push_group, else-bits-gt0}

pub push_group-requires-clause-waiting : goal.push_group-requires-clause-waiting
push_group-requires-clause-waiting c =
    byte_waits c.loop-byte.waiting c.loop-byte.bits c.from.result c.loop-byte.invariant.holds.waits (omega (arith, c.from.ensures, c.type_inv.bytes c.loop-byte.byte-index))

pub loop-byte-preserved : goal.loop-byte-preserved
loop-byte-preserved c =
    let bytes = c.args.bytes.now in
    let i = c.loop-byte.byte-index in
    let bits = c.loop-byte.bits in
    let pushed = c.push_group.new.groups.items in
    let once = byte_in c.loop-byte.groups.items pushed c.loop-byte.waiting bits c.from.result c.in_ok-waiting.waiting (take i bytes) c.loop-byte.invariant.holds c.in_ok-waiting.ensures in
    let taken : take i bytes ++ c.from.result ∷ [] ≡ take (i + 1) bytes = ap (λ b. take i bytes ++ b ∷ []) c.from.ensures ∙ sym (take_more bytes i 0 c.loop-byte-test.true) in
    let holds = subst (λ bs. Holding pushed c.in_ok-waiting.waiting (bits + 3) bs) taken once in
    let few = c.loop-byte.invariant.few in
    elim c.if-bits-ge5.branch [
      | then-bits-ge5+in_ok-waiting-2 w ↦
          let more : bits + 3 ≡ 5 + (bits + 3 - 5) = omega arith in
          let out = group_out pushed w.push_group-then-bits-ge5.new.groups.items c.in_ok-waiting.waiting (bits + 3) (bits + 3 - 5) w.in_ok-waiting-2.waiting (take (i + 1) bytes) more holds w.in_ok-waiting-2.ensures in
          record { few = omega arith; holds = rw (w.bits-is, w.waiting-is, w.groups-is) out }
      | else-bits-ge5 w ↦ record { few = omega arith; holds = rw (w.bits-is, w.waiting-is, w.groups-is) holds }
    ]

pub push_group-requires-then-bits-gt0-clause-waiting : goal.push_group-requires-then-bits-gt0-clause-waiting
push_group-requires-then-bits-gt0-clause-waiting c = omega (arith, filled c.loop-byte.waiting c.loop-byte.bits c.loop-byte.invariant.few c.loop-byte.invariant.holds.waits)

pub returns : goal.returns
returns c =
    let bytes = c.args.bytes.now in
    let bits = c.loop-byte.bits in
    let waiting = c.loop-byte.waiting in
    let all : take c.loop-byte.byte-index bytes ≡ bytes = take_all c.loop-byte.byte-index bytes c.loop-byte-test.false in
    let holds = subst (λ bs. Holding c.loop-byte.groups.items waiting bits bs) all c.loop-byte.invariant.holds in
    let small = filled waiting bits c.loop-byte.invariant.few c.loop-byte.invariant.holds.waits in
    let shifted : waiting * 2 ^ (5 - bits) % 2 ^ 32 ≡ waiting * 2 ^ (5 - bits) = omega arith in
    elim c.if-bits-gt0.branch [
      | then-bits-gt0+in_ok-push_group w ↦
          let out = subst (λ x. MovesOut c.loop-byte.groups.items w.push_group-then-bits-gt0.new.groups.items x 0 w.in_ok-push_group.field-0) shifted w.in_ok-push_group.ensures in
          (5 - bits, rw w.groups-is (grouped_end c.loop-byte.groups.items w.push_group-then-bits-gt0.new.groups.items waiting bits w.in_ok-push_group.field-0 bytes c.loop-byte.invariant.few holds out w.if-bits-gt0.true))
      | else-bits-gt0 w ↦ (0, rw w.groups-is (grouped_whole c.loop-byte.groups.items waiting bits bytes (omega (arith, w.if-bits-gt0.false)) holds))
    ]
