use Rattle.std.proofs.Common.{◌≡◌, ◌+◌, ◌++◌, take, vec_len}
use Rattle.state_runs.specs.Views.{runs_view}
use Rattle.state_runs.proofs.runs.shared.Given as goal

abbrev pub invariant-loop-run : goal.invariant-loop-run
invariant-loop-run l = record {
  view : runs_view l.shares.items ≡ runs_view l.fn.shares.items ++ runs_view (take l.run-index l.runs);
  len : vec_len l.shares ≡ vec_len l.fn.shares + l.run-index;
}
