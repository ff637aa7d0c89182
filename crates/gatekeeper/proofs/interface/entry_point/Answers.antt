use Rattle.std.proofs.Common.{drop, None, Some, refl}
use Rattle.std.specs.Prelude.{codes}
use Rattle.wasm_types.specs.declared.value.ValType.TheVariants.{I32}
use Rattle.wasm_types.specs.Interface.{takes, entry_points}
use Rattle.gatekeeper.proofs.Named.{skips}
use Rattle.gatekeeper.proofs.interface.entry_point.Goals as goal

pub returns-in_default : goal.returns-in_default
returns-in_default c =
    let name = c.args.name.now in
    skips (codes "interface_version_8") name (takes 0 None) (drop 1 entry_points) None c.in_default.not-interface_version_8
    (skips (codes "allocate") name (takes 1 (Some I32)) (drop 2 entry_points) None c.in_default.not-allocate
    (skips (codes "deallocate") name (takes 1 None) (drop 3 entry_points) None c.in_default.not-deallocate
    (skips (codes "instantiate") name (takes 3 (Some I32)) (drop 4 entry_points) None c.in_default.not-instantiate
    (skips (codes "execute") name (takes 3 (Some I32)) (drop 5 entry_points) None c.in_default.not-execute
    (skips (codes "migrate") name (takes 2 (Some I32)) (drop 6 entry_points) None c.in_default.not-migrate
    (skips (codes "sudo") name (takes 2 (Some I32)) (drop 7 entry_points) None c.in_default.not-sudo
    (skips (codes "reply") name (takes 2 (Some I32)) (drop 8 entry_points) None c.in_default.not-reply
    (skips (codes "query") name (takes 2 (Some I32)) (drop 9 entry_points) None c.in_default.not-query
    refl))))))))
