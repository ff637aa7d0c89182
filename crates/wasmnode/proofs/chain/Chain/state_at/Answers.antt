use Rattle.std.proofs.Common.{◌≡◌, ℕ, ◌+◌, ◌-◌, ◌≤◌, List, arith}
use Rattle.state_runs.specs.Runs.{Run}
use Rattle.wasmnode.specs.Chain.{oldest}
use Rattle.wasmnode.specs.History.{newest, state_of}
use Rattle.wasmnode.specs.Standing.{Shows}
use Rattle.wasmnode.proofs.Keeping.{found_back, missed_back}
use Rattle.wasmnode.proofs.Replies.{is_pruned, is_asked}
use Rattle.wasmnode.proofs.chain.Chain.state_at.Goals as goal

pub returns-in-Some : goal.returns-in-Some
returns-in-Some c = λ keep h stands.
    let P : ℕ → List Run → Type 0 = λ height x. Shows x (state_of h height) in
    let height = c.args.height in
    let back = c.args.self.now.height - height in
    let sum : height + back ≡ newest h = omega (arith, c.if-height-newest.false, stands.height) in
    let found = found_back P keep (newest h) back height c.args.self.now.heights c.in-Some.snapshot.now stands.kept sum c.in-Some.ensures in
    let low : height ≤ newest h = omega (arith, sum) in
    (found.0, low, λ q. is_asked keep h height q low found.1)

pub returns-in-None : goal.returns-in-None
returns-in-None c = λ keep h stands q.
    let P : ℕ → List Run → Type 0 = λ height x. Shows x (state_of h height) in
    let height = c.args.height in
    let top = c.args.self.now.height in
    let sum : height + (top - height) ≡ newest h = omega (arith, c.if-height-newest.false, stands.height) in
    let missed = missed_back P keep (newest h) (top - height) height c.args.self.now.heights stands.kept sum c.in-None.ensures in
    let old : top - (c.len.result - 1) ≡ oldest keep (newest h) = omega (arith, missed.1, stands.height, c.len.ensures.len, stands.kept.some, stands.kept.count) in
    is_pruned keep h height top (top - (c.len.result - 1)) q stands.height c.if-height-newest.false missed.0 old
