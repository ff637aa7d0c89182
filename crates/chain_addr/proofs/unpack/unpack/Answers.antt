use Rattle.std.proofs.Common.{◌≡◌, ◌+◌, ◌-◌, ◌*◌, ◌/◌, ◌%◌, ◌^◌, ◌<◌, ◌++◌, ◌∷◌, [], map, take, length, get_or, slice_set, sym, ◌∙◌, ap, subst, arith}
use Rattle.std.proofs.lemmas.List.{take_more, take_all, take_more_set, map-append}
use Rattle.std.proofs.lemmas.Nat.{shr_below, one_shl, pow-add}
use Rattle.chain_addr.specs.Reading.{value_of}
use Rattle.chain_addr.proofs.Ungrouping.{Unpacking, group_in, byte_out, unpacked, too_many, not_zero, values_small}
use Rattle.chain_addr.proofs.unpack.unpack.Goals as goal
use Rattle.chain_addr.proofs.unpack.unpack.Goals.{then-bits-ge8, else-bits-ge8, then-bits-ge5-via-then-bits-ge5, then-bits-ge5-via-else-bits-ge5+then-waiting-ne0}

pub overflow_cast-bytes : goal.overflow_cast-bytes
overflow_cast-bytes c =
    let x = c.loop-c.waiting * 32 + c.from.result in
    let more = c.loop-c.bits + 5 - 8 in
    let w = c.loop-c.invariant.holds.waits in
    let bound : x < 2 ^ (c.loop-c.bits + 5) = rw pow-add (omega (arith, c.from.ensures, c.value_of.ensures.small)) in
    let e : c.loop-c.bits + 5 ≡ 8 + more = omega arith in
    omega (arith, shr_below x 8 more (subst (λ k. x < 2 ^ k) e bound))

pub loop-c-preserved : goal.loop-c-preserved
loop-c-preserved c =
    let chars = c.args.characters.now in
    let i = c.loop-c.c-index in
    let bytes = c.loop-c.bytes in
    let count = c.loop-c.count in
    let bits = c.loop-c.bits in
    let waiting = c.loop-c.waiting in
    let group = c.from.result in
    let groups = map value_of (take i chars) in
    let small : group < 32 = omega (arith, c.from.ensures, c.value_of.ensures.small) in
    let next : groups ++ group ∷ [] ≡ map value_of (take (i + 1) chars) =
    ap (λ g. groups ++ g ∷ []) (c.from.ensures ∙ c.value_of.ensures.value)
    ∙ sym (ap (map value_of) (take_more chars i 0 c.loop-c-test.true) ∙ map-append value_of (take i chars) (get_or chars i 0 ∷ [])) in
    elim c.if-bits-ge8.branch [
      | then-bits-ge8 w ↦
          let more = bits + 5 - 8 in
          let few = c.loop-c.invariant.holds.few in
          let e : bits + 5 ≡ 8 + more = omega arith in
          let unit : 1 * 2 ^ more % 2 ^ 32 ≡ 2 ^ more = one_shl more 32 (omega arith) in
          let fits : count < length bytes = omega arith in
          let x = waiting * 32 + group in
          let byte = x / 2 ^ more in
          let out = byte_out (take count bytes) waiting bits more group groups e few c.loop-c.invariant.holds in
          let written : take (count + 1) (slice_set bytes count byte) ≡ take count bytes ++ byte ∷ [] = take_more_set bytes count byte fits in
          let at_bytes = subst (λ bs. Unpacking bs (x % 2 ^ more) more (groups ++ group ∷ [])) (sym written) out in
          let at_groups = subst (λ gs. Unpacking (take (count + 1) (slice_set bytes count byte)) (x % 2 ^ more) more gs) next at_bytes in
          let holds = subst (λ u. Unpacking (take (count + 1) (slice_set bytes count byte)) (x % u) more (map value_of (take (i + 1) chars))) (sym unit) at_groups in
          record { counted = omega arith; room = omega arith; holds = rw (w.count-is, w.bytes-is, w.waiting-is, w.bits-is) holds }
      | else-bits-ge8 w ↦
          let holds = subst (λ gs. Unpacking (take count bytes) (waiting * 32 + group) (bits + 5) gs) next (group_in (take count bytes) waiting bits group groups small (omega arith) c.loop-c.invariant.holds) in
          record { counted = omega arith; room = omega arith; holds = rw (w.count-is, w.bytes-is, w.waiting-is, w.bits-is) holds }
    ]

pub returns-then-bits-ge5 : goal.returns-then-bits-ge5
returns-then-bits-ge5 c =
    let chars = c.args.characters.now in
    let bytes = take c.loop-c.count c.loop-c.bytes in
    let whole = take_all c.loop-c.c-index chars c.loop-c-test.false in
    let holds = subst (λ cs. Unpacking bytes c.loop-c.waiting c.loop-c.bits (map value_of cs)) whole c.loop-c.invariant.holds in
    elim c.then-bits-ge5.branch [
      | then-bits-ge5-via-then-bits-ge5 w ↦ too_many bytes c.loop-c.waiting c.loop-c.bits (map value_of chars) w.if-bits-ge5.true holds
      | then-bits-ge5-via-else-bits-ge5+then-waiting-ne0 w ↦ not_zero bytes c.loop-c.waiting c.loop-c.bits (map value_of chars) (omega arith) w.if-waiting-ne0.true holds
    ]

pub returns : goal.returns
returns c =
    let chars = c.args.characters.now in
    let bytes = take c.loop-c.count c.loop-c.bytes in
    let whole = take_all c.loop-c.c-index chars c.loop-c-test.false in
    let holds = subst (λ cs. Unpacking bytes c.loop-c.waiting c.loop-c.bits (map value_of cs)) whole c.loop-c.invariant.holds in
    (c.loop-c.bits, unpacked bytes c.loop-c.waiting c.loop-c.bits (map value_of chars) (values_small chars) (omega arith) c.if-waiting-ne0.false holds, c.loop-c.invariant.room)
