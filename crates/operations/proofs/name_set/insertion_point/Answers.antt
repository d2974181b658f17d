use Rattle.std.proofs.Common.{rules}
use Rattle.std.proofs.lemmas.List.Sorted.{IsPartitionPoint-from_clause}
use Rattle.operations.specs.NameSet.{comes_before}
use Rattle.operations.proofs.WithName.{IsPartitionedBy-before, before, before_only}
use Rattle.operations.proofs.name_set.insertion_point.Goals as goal

pub returns-clause-point : goal.returns-clause-point
returns-clause-point c =
    let point =
    IsPartitionPoint-from_clause (λ r. comes_before r c.args.range) _ _
    c.partition_point.ensures.partitioned (IsPartitionedBy-before _ c.args.range c.requires)
    (λ a r q k. search rules) in (
      λ k d low lt. before _ c.args.range (point.0 k d low lt),
      λ k d low lt. before_only _ c.args.range
          (point.1 k d low lt),
    )
