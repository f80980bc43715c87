use Rattle.std.proofs.Common.{sym, subst, rules}
use Rattle.std.specs.List.Sorted.{IsStrictlySortedBy}
use Rattle.nfs_handles.specs.Placed.{Placed}
use Rattle.nfs_handles.specs.Slotted.{IsKept}
use Rattle.nfs_handles.proofs.files.Files.new.Goals as goal

pub invariant_of-result : goal.invariant_of-result
unfolding IsStrictlySortedBy
invariant_of-result g c = subst (λ (p : Placed). IsKept c.new.result p.entries p.next c.args.key) (sym c.new-2.ensures) (search rules)
