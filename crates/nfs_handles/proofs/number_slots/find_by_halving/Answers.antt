use Rattle.std.proofs.Common.{nat_lt, true≢false, sym, ap, ◌∙◌, rules, of_calls, arith}
use Rattle.std.proofs.lemmas.Bool.{ltb-true, ltb-false}
use Rattle.std.proofs.lemmas.List.Sorted.{IsPartitionPoint-from_clause}
use Rattle.nfs_handles.specs.Placed.{Place}
use Rattle.nfs_handles.proofs.Rising.{below_first, none_at, same_read}
use Rattle.nfs_handles.proofs.number_slots.find_by_halving.Goals as goal

pub returns-else-stands_at-clause-none : goal.returns-else-stands_at-clause-none
returns-else-stands_at-clause-none c =
    let places = c.args.places.now in
    let at = c.partition_point-at.result in
    let point = IsPartitionPoint-from_clause (λ (p : Place). nat_lt p.number c.args.number) places at c.partition_point-at.ensures.partitioned (below_first c.args.number c.requires.0 places c.requires.1) (λ a r f k. search (rules, of_calls)) in
    none_at c.args.number c.requires.0 places at c.requires.1
    (λ k d less within. ltb-true _ _ (point.0 k d (omega arith) less)) (λ k d from within. ltb-false _ _ (point.1 k d from within))
    (λ d within same. true≢false (sym (c.stands_at.ensures.1 (within, λ e. ap (λ (p : Place). p.number) (same_read places at e d within) ∙ same)) ∙ c.if-stands_at.false))
