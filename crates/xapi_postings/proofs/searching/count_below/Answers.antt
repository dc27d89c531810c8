use Rattle.std.proofs.Common.{nat_lt, ltb-false, ltb-true, rules}
use Rattle.std.proofs.lemmas.List.Sorted.{IsPartitionPoint-from_clause}
use Rattle.xapi_postings.proofs.Searches.{parted}
use Rattle.xapi_postings.proofs.searching.count_below.Goals as goal

pub returns-clause-counted : goal.returns-clause-counted
returns-clause-counted c =
    let point = IsPartitionPoint-from_clause (λ j. nat_lt j c.args.end) _ _ c.partition_point.ensures.partitioned (parted c.args.end c.args.list.now c.requires) (λ a r q k. search rules) in
    (λ n d low high. ltb-true _ _ (point.0 n d low high), λ n d low high. ltb-false _ _ (point.1 n d low high))
