use Rattle.std.proofs.Common.{◌-◌, leb, arith, rules}
use Rattle.std.proofs.lemmas.Bool.{leb-true, leb-false}
use Rattle.std.proofs.lemmas.List.Sorted.{IsPartitionPoint-from_clause, IsPartitionedBy-leb}
use Rattle.rbc_steps.proofs.PlaceLemmas.{starts_sorted, some_begun}
use Rattle.rbc_line.proofs.along.run_at.Goals as goal

pub overflow_sub-result : goal.overflow_sub-result
overflow_sub-result g c =
    let runs = c.args.runs.now in
    let point = IsPartitionPoint-from_clause (λ run. leb run.0 c.args.offset) runs _ c.partition_point.ensures.partitioned (IsPartitionedBy-leb (λ run. run.0) runs c.args.offset (starts_sorted runs c.requires)) (λ a r q k. search rules) in
    some_begun runs c.args.offset c.partition_point.result c.requires c.partition_point.ensures.bound point

pub returns-clause-begun : goal.returns-clause-begun
returns-clause-begun g c = λ d.
    let runs = c.args.runs.now in
    let point = IsPartitionPoint-from_clause (λ run. leb run.0 c.args.offset) runs _ c.partition_point.ensures.partitioned (IsPartitionedBy-leb (λ run. run.0) runs c.args.offset (starts_sorted runs c.requires)) (λ a r q k. search rules) in
    let some = some_begun runs c.args.offset c.partition_point.result c.requires c.partition_point.ensures.bound point in
    leb-true _ c.args.offset (point.0 (c.partition_point.result - 1) d (omega arith) (omega (arith, c.partition_point.ensures.bound)))

pub returns-clause-later : goal.returns-clause-later
returns-clause-later g c = λ k d h l.
    let runs = c.args.runs.now in
    let point = IsPartitionPoint-from_clause (λ run. leb run.0 c.args.offset) runs _ c.partition_point.ensures.partitioned (IsPartitionedBy-leb (λ run. run.0) runs c.args.offset (starts_sorted runs c.requires)) (λ a r q k. search rules) in
    let some = some_begun runs c.args.offset c.partition_point.result c.requires c.partition_point.ensures.bound point in
    leb-false _ c.args.offset (point.1 k d (omega arith) l)
