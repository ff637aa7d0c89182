use Rattle.std.proofs.Common.{drop, None, refl}
use Rattle.std.specs.Prelude.{codes}
use Rattle.host_imports.specs.declared.request.Request.TheVariants.{DbScan, Signature}
use Rattle.host_imports.specs.Requests.{with_three}
use Rattle.host_imports.proofs.Named.{skips}
use Rattle.host_imports.proofs.request.with_three.Goals as goal

pub returns-in_default : goal.returns-in_default
returns-in_default c =
    let name = c.args.name.now in
    let all = with_three c.args.a c.args.b c.args.c in
    skips (codes "db_scan") name (DbScan c.args.a c.args.b c.args.c) (drop 1 all) None c.in_default.not-db_scan
    (skips (codes "secp256k1_verify") name (Signature) (drop 2 all) None c.in_default.not-secp256k1_verify
    (skips (codes "ed25519_verify") name (Signature) (drop 3 all) None c.in_default.not-ed25519_verify
    (skips (codes "ed25519_batch_verify") name (Signature) (drop 4 all) None c.in_default.not-ed25519_batch_verify
    (skips (codes "secp256k1_recover_pubkey") name (Signature) (drop 5 all) None c.in_default.not-secp256k1_recover_pubkey
    refl))))
