use Rattle.std.proofs.Common.{drop, None, refl}
use Rattle.std.specs.Prelude.{codes}
use Rattle.host_imports.specs.declared.request.Request.TheVariants.{Abort, AddrValidate, DbNext, DbRead, DbRemove, Debug, QueryChain}
use Rattle.host_imports.specs.Requests.{with_one}
use Rattle.host_imports.proofs.Named.{skips}
use Rattle.host_imports.proofs.request.with_one.Goals as goal

pub returns-in_default : goal.returns-in_default
returns-in_default c =
    let name = c.args.name.now in
    let all = with_one c.args.a in
    skips (codes "db_read") name (DbRead c.args.a) (drop 1 all) None c.in_default.not-db_read
    (skips (codes "db_remove") name (DbRemove c.args.a) (drop 2 all) None c.in_default.not-db_remove
    (skips (codes "db_next") name (DbNext c.args.a) (drop 3 all) None c.in_default.not-db_next
    (skips (codes "addr_validate") name (AddrValidate c.args.a) (drop 4 all) None c.in_default.not-addr_validate
    (skips (codes "debug") name (Debug c.args.a) (drop 5 all) None c.in_default.not-debug
    (skips (codes "query_chain") name (QueryChain c.args.a) (drop 6 all) None c.in_default.not-query_chain
    (skips (codes "abort") name (Abort c.args.a) (drop 7 all) None c.in_default.not-abort
    refl))))))
