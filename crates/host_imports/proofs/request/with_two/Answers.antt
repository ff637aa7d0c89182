use Rattle.std.proofs.Common.{drop, None, refl}
use Rattle.std.specs.Prelude.{codes}
use Rattle.host_imports.specs.declared.request.Request.TheVariants.{AddrCanonicalize, AddrHumanize, DbWrite}
use Rattle.host_imports.specs.Requests.{with_two}
use Rattle.host_imports.proofs.Named.{skips}
use Rattle.host_imports.proofs.request.with_two.Goals as goal

pub returns-in_default : goal.returns-in_default
returns-in_default c =
    let name = c.args.name.now in
    let all = with_two c.args.a c.args.b in
    skips (codes "db_write") name (DbWrite c.args.a c.args.b) (drop 1 all) None c.in_default.not-db_write
    (skips (codes "addr_canonicalize") name (AddrCanonicalize c.args.a c.args.b) (drop 2 all) None c.in_default.not-addr_canonicalize
    (skips (codes "addr_humanize") name (AddrHumanize c.args.a c.args.b) (drop 3 all) None c.in_default.not-addr_humanize
    refl))
