use Rattle.std.proofs.Common.{◌≡◌, ◌<◌, ◌^◌, ℕ, length, sym, subst, arith, rules}
use Rattle.std.specs.Prelude.{slice_index}
use Rattle.nfs_handles.specs.NumberedFiles.{NumberedFiles}
use Rattle.nfs_inodes.specs.declared.stored_file.StoredFile.{StoredFile}
use Rattle.nfs_inodes.specs.Counts.{Agrees}
use Rattle.nfs_inodes.specs.Storage.{counted_tree_of}
use Rattle.nfs_inodes.proofs.law.Opened.{IsKey, agrees_opened}
use Rattle.nfs_inodes.proofs.tree.Tree.set_key.Goals as goal

pub invariant_of-self : goal.invariant_of-self
invariant_of-self c =
    let k = counted_tree_of c.self.inside.limits c.self.inside.files c.self.inside.volumes.items in
    let len : length c.args.key ≡ 8 = search rules in
    let bytes : (i : ℕ) → slice_index c.args.key i < 256 = search rules in
    let is : IsKey c.args.key = record { len = len; bytes = bytes } in
    let last : k.next < 2 ^ 64 = c.self.invariant.law.numbers.last in
    subst (λ (files : NumberedFiles StoredFile). Agrees (counted_tree_of c.self.inside.limits files c.self.inside.volumes.items)) (sym c.set_key.ensures)
    (agrees_opened k k.next c.args.key (omega arith) last is c.self.invariant)
