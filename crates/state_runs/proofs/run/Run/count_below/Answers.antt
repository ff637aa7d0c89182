use Rattle.std.proofs.Common.{rules}
use Rattle.std.proofs.lemmas.List.Sorted.{IsPartitionPoint-from_clause}
use Rattle.state_runs.proofs.Places.{is_before, partitioned, count-partition}
use Rattle.state_runs.proofs.run.Run.count_below.Goals as goal

pub returns : goal.returns
returns c =
    let key = c.args.key.now in
    let changes = c.args.self.now.changes.items in
    let clauses = rw c.deref.ensures.value at c.partition_point.ensures in
    let point = IsPartitionPoint-from_clause (is_before key) changes c.partition_point.result clauses.partitioned (partitioned key changes c.args.self.now.rising) (λ a r q k. search rules) in
    count-partition key changes c.partition_point.result clauses.bound point.0 point.1
