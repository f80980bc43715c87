use Rattle.std.proofs.Common.{◌<◌, ◌≤◌, ◌^◌, max, sym, subst, arith}
use Rattle.nfs_handles.specs.NumberedFiles.{NumberedFiles}
use Rattle.nfs_inodes.specs.declared.stored_file.StoredFile.{StoredFile}
use Rattle.nfs_inodes.specs.Counts.{Agrees}
use Rattle.nfs_inodes.specs.Storage.{counted_tree_of}
use Rattle.nfs_inodes.proofs.law.Opened.{agrees_opened, key_of}
use Rattle.nfs_inodes.proofs.tree.Tree.raise_next.Goals as goal

pub invariant_of-self : goal.invariant_of-self
invariant_of-self c =
    let k = counted_tree_of c.self.inside.limits c.self.inside.files c.self.inside.volumes.items in
    let last : k.next < 2 ^ 64 = c.self.invariant.law.numbers.last in
    let more : k.next ≤ max k.next c.args.next = omega arith in
    let fits : max k.next c.args.next < 2 ^ 64 = omega (arith, last, c.ranges.next.fits) in
    subst (λ (files : NumberedFiles StoredFile). Agrees (counted_tree_of c.self.inside.limits files c.self.inside.volumes.items)) (sym c.raise_next.ensures)
    (agrees_opened k (max k.next c.args.next) k.key more fits (key_of k c.self.invariant) c.self.invariant)
