use Rattle.std.proofs.Common.{leb, rules}
use Rattle.std.proofs.lemmas.List.Sorted.{IsPartitionPoint-from_clause, IsPartitionedBy-leb}
use Rattle.rbc_steps.proofs.PlaceLemmas.{starts_sorted, some_begun, value_begun}
use Rattle.rbc_steps.proofs.rows.at.Goals as goal

pub overflow_sub-result : goal.overflow_sub-result
overflow_sub-result g c =
    let rows = c.args.rows.now in
    let point = IsPartitionPoint-from_clause (λ row. leb row.0 c.args.x) rows _ c.partition_point-begun.ensures.partitioned (IsPartitionedBy-leb (λ row. row.0) rows c.args.x (starts_sorted rows c.requires)) (λ a r q k. search rules) in
    some_begun rows c.args.x c.partition_point-begun.result c.requires c.partition_point-begun.ensures.bound point

pub returns : goal.returns
returns g c =
    let rows = c.args.rows.now in
    let point = IsPartitionPoint-from_clause (λ row. leb row.0 c.args.x) rows _ c.partition_point-begun.ensures.partitioned (IsPartitionedBy-leb (λ row. row.0) rows c.args.x (starts_sorted rows c.requires)) (λ a r q k. search rules) in
    value_begun rows c.args.x c.partition_point-begun.result c.requires c.partition_point-begun.ensures.bound point c.index-rows-begun.result
