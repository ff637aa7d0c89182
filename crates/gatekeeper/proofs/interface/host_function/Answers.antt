use Rattle.std.proofs.Common.{drop, None, Some, refl}
use Rattle.std.specs.Prelude.{codes}
use Rattle.wasm_types.specs.declared.value.ValType.TheVariants.{I32, I64}
use Rattle.wasm_types.specs.Interface.{takes, host_functions}
use Rattle.gatekeeper.proofs.Named.{skips}
use Rattle.gatekeeper.proofs.interface.host_function.Goals as goal

pub returns-in_default : goal.returns-in_default
returns-in_default c =
    let name = c.args.name.now in
    skips (codes "db_read") name (takes 1 (Some I32)) (drop 1 host_functions) None c.in_default.not-db_read
    (skips (codes "db_write") name (takes 2 None) (drop 2 host_functions) None c.in_default.not-db_write
    (skips (codes "db_remove") name (takes 1 None) (drop 3 host_functions) None c.in_default.not-db_remove
    (skips (codes "db_scan") name (takes 3 (Some I32)) (drop 4 host_functions) None c.in_default.not-db_scan
    (skips (codes "db_next") name (takes 1 (Some I32)) (drop 5 host_functions) None c.in_default.not-db_next
    (skips (codes "addr_validate") name (takes 1 (Some I32)) (drop 6 host_functions) None c.in_default.not-addr_validate
    (skips (codes "addr_canonicalize") name (takes 2 (Some I32)) (drop 7 host_functions) None c.in_default.not-addr_canonicalize
    (skips (codes "addr_humanize") name (takes 2 (Some I32)) (drop 8 host_functions) None c.in_default.not-addr_humanize
    (skips (codes "debug") name (takes 1 None) (drop 9 host_functions) None c.in_default.not-debug
    (skips (codes "query_chain") name (takes 1 (Some I32)) (drop 10 host_functions) None c.in_default.not-query_chain
    (skips (codes "abort") name (takes 1 None) (drop 11 host_functions) None c.in_default.not-abort
    (skips (codes "secp256k1_verify") name (takes 3 (Some I32)) (drop 12 host_functions) None c.in_default.not-secp256k1_verify
    (skips (codes "ed25519_verify") name (takes 3 (Some I32)) (drop 13 host_functions) None c.in_default.not-ed25519_verify
    (skips (codes "ed25519_batch_verify") name (takes 3 (Some I32)) (drop 14 host_functions) None c.in_default.not-ed25519_batch_verify
    (skips (codes "secp256k1_recover_pubkey") name (takes 3 (Some I64)) (drop 15 host_functions) None c.in_default.not-secp256k1_recover_pubkey
    refl))))))))))))))
