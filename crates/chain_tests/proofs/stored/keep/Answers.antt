use Rattle.std.proofs.Common.{◌≡◌, List, ℕ, subst}
use Rattle.gas_store.specs.Storage.{HasOthers}
use Rattle.chain_tests.proofs.Keeping.{after_kept}
use Rattle.chain_tests.proofs.stored.keep.Goals as goal

pub returns-clause-lawful : goal.returns-clause-lawful
returns-clause-lawful c =
    after_kept (λ plain map. plain ≡ map) c.args.layers.now c.set.new.layers c.bytes_tell_keys.ensures c.storages_change_alone.ensures c.args.addr.now c.requires.address
    (λ maps at. let one = c.in_ok-set.ensures.step maps at in (one.0, one.1, subst (λ (a : List ℕ). HasOthers a maps.current one.0) c.in_ok-scoped.ensures.addr one.2)) c.requires.lawful
