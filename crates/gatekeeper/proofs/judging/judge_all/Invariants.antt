use Rattle.std.proofs.Common.{◌≡◌, ◌-◌, ◌≤◌, length, map}
use Rattle.wasm_types.specs.Gate.{first_refused}
use Rattle.gatekeeper.proofs.Each.{from}
use Rattle.gatekeeper.proofs.judging.judge_all.Given as goal

abbrev pub invariant-loop-at : goal.invariant-loop-at
invariant-loop-at g l = record {
  within : l.at ≤ length l.fn.items;
  refusal : first_refused (g.R.Judge.refused l.fn.rule) 0 (map g.R.Judge.shown l.fn.items) ≡ from (g.R.Judge.refused l.fn.rule) (map g.R.Judge.shown l.fn.items) l.at;
}

abbrev pub decreases-loop-at : goal.decreases-loop-at
decreases-loop-at g l = length l.fn.items - l.at
