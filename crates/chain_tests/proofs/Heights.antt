-- A block can follow on a state whose height isn't the last one.
use Rattle.std.proofs.Common.{◌≡◌, ◌<◌, ap, arith}
use Rattle.chain_records.specs.Records.{PlainFacts}
use Rattle.chain_records.specs.Spelled.{OfEach}
use Rattle.chain_records.specs.State.{Bytes}
use Rattle.query_router.specs.Lawful.{HasLawful}
use Rattle.block_runner.specs.Delivering.{HasNextHeight}

pub next_height : (S : Bytes → Type 0) (f : PlainFacts) → HasLawful S → OfEach S (λ s. f ≡ s.facts) → f.height < 1000 → HasNextHeight S
next_height S f some found low =
    let same : f.height ≡ some.state.facts.height = ap (λ (g : PlainFacts). g.height) (found some.map some.state some.stands some.spelled) in
    record { map = some.map; state = some.state; stands = some.stands; spelled = some.spelled; holds = (some.holds, omega (arith, same, low)) }
