use Rattle.std.proofs.Common.{rules, of_calls, nat_le, ◌∙◌, arith}
use Rattle.std.proofs.lemmas.Bool.{leb-true, leb-false}
use Rattle.std.proofs.lemmas.List.Sorted.{IsPartitionPoint-from_clause}
use Rattle.nfs_entries.specs.Listing.{PlaceValue}
use Rattle.nfs_entries.proofs.Places.{rest_of, at_most_first, after_point}
use Rattle.nfs_entries.proofs.directory_entries.places_after.Goals as goal

pub returns : goal.returns
returns c =
    let point = IsPartitionPoint-from_clause (λ (p : PlaceValue). nat_le p.cookie c.args.cookie) c.args.places.now c.partition_point-first.result c.partition_point-first.ensures.partitioned (at_most_first c.args.cookie c.requires.0 c.args.places.now c.requires.1) (λ a r f k. search (rules, of_calls)) in
    rest_of c.partition_point-first.result c.args.places.now
    ∙ after_point c.args.cookie c.args.places.now c.partition_point-first.result c.partition_point-first.ensures.bound (λ k d less. leb-true _ _ (point.0 k d (omega (arith)) less)) (λ k d from within. leb-false _ _ (point.1 k d from within))
