use Rattle.std.proofs.Common.{◌≤◌, ℕ, List, sym, subst, arith}
use Rattle.chain_records.specs.State.{Bytes, Spells}
use Rattle.state_runs.specs.Runs.{Run}
use Rattle.wasmnode.specs.History.{newest, state_of}
use Rattle.wasmnode.specs.Standing.{Shows}
use Rattle.wasmnode.proofs.Keeping.{newest_back}
use Rattle.wasmnode.proofs.chain.Chain.base.Goals as goal

pub returns-clause-shows : goal.returns-clause-shows
returns-clause-shows c = λ keep h stands.
    let P : ℕ → List Run → Type 0 = λ height x. Shows x (state_of h height) in
    let shows = newest_back P keep (newest h) c.args.self.now.heights c.in-Some.snapshot.now stands.kept c.in-Some.ensures in
    let made = c.in_ok-base_of-in-Some.ensures in
    record {
      spelled = subst (λ (m : Bytes). Spells m (state_of h (newest h))) (sym made.map) shows.spelled;
      lawful = shows.lawful;
      few = omega (arith, made.few);
    }

pub returns-clause-merged : goal.returns-clause-merged
returns-clause-merged c = (c.in-Some.snapshot.now, sym c.in-Some.ensures, c.in_ok-base_of-in-Some.ensures.merged)
