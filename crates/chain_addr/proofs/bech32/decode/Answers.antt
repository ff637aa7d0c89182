use Rattle.chain_addr.proofs.Addressing.{decoded, has_none}
use Rattle.chain_addr.proofs.bech32.decode.Goals as goal

pub returns-in-Ok-clause-address : goal.returns-in-Ok-clause-address
returns-in-Ok-clause-address c =
    decoded c.args.prefix.now c.args.text.now _ c.owned.result (rw (← c.as_bytes.ensures.value, ← c.as_bytes-2.ensures.value) c.in-Ok.ensures) c.owned.ensures.bytes c.owned.ensures.ok c.owned.ensures.err

pub returns-in-Err-clause-address : goal.returns-in-Err-clause-address
returns-in-Err-clause-address c = has_none c.args.prefix.now c.args.text.now c.in-Err.field-0 (rw (← c.as_bytes.ensures.value, ← c.as_bytes-2.ensures.value) c.in-Err.ensures)
