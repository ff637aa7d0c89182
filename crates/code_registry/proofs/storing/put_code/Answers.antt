use Rattle.std.specs.FinMap.{insert}
use Rattle.chain_records.specs.Records.{plain_code_info}
use Rattle.kv_layers.specs.Maps.{changed}
use Rattle.code_registry.proofs.StoredCode.{spelled_code}
use Rattle.code_registry.proofs.storing.put_code.Goals as goal

pub returns-clause-ok : goal.returns-clause-ok
returns-clause-ok g c = λ maps s stands spelled same.
    let kb = c.in_ok-bytes_key.bytes_key.items in
    let ki = c.in_ok-info_key.info_key.items in
    let vi = c.in_ok-info_bytes.info_bytes.items in
    let kc = c.in_ok-counters_key.counters_key.items in
    let vc = c.in_ok-counters_bytes.counters_bytes.items in
    let first = insert maps.current kb c.args.code.now in
    let second = insert first ki vi in
    let one = rw c.deref.ensures.value at (c.in_ok-set.ensures.ok maps stands) in
    let two = rw (c.deref-2.ensures.value, c.deref-3.ensures.value) at (c.in_ok-set-2.ensures.ok (changed maps first) one) in
    let three = rw (c.deref-4.ensures.value, c.deref-5.ensures.value) at (c.in_ok-set-3.ensures.ok (changed maps second) two) in (
      insert second kc vc,
      three,
      spelled_code c.codes_are_stored_whole.ensures maps.current s c.args.given (record { bytes = c.args.code.now; info = plain_code_info c.args.info }) kb ki vi kc vc c.in_ok-bytes_key.ensures c.in_ok-info_key.ensures c.in_ok-info_bytes.ensures
          c.in_ok-counters_key.ensures c.in_ok-counters_bytes.ensures c.requires same spelled,
    )
