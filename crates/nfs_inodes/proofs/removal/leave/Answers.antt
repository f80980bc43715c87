use Rattle.std.proofs.Common.{refl, subst}
use Rattle.nfs_inodes.specs.declared.stored_file.StoredFile.{StoredFile}
use Rattle.nfs_inodes.specs.Tree.{one_when}
use Rattle.nfs_inodes.specs.Removals.{Leaves}
use Rattle.nfs_inodes.proofs.StoredFiles.{value_found}
use Rattle.nfs_inodes.proofs.removal.leave.Goals as goal

pub returns : goal.returns
returns c = record {
  was = c.requires.dir;
  at_was = c.requires.at_dir;
  value = c.remove_entry.new.stored_file;
  from = subst (λ (i : StoredFile). Leaves c.args.name.now (one_when c.args.subdirectory) c.args.now i c.remove_entry.new.stored_file)
      (value_found c.args.files.now c.args.dir.0 c.requires.dir c.in-Some.parent.now c.requires.at_dir c.in-Some.ensures.value)
      (record { file = c.remove_entry.ensures.file; nlink = c.remove_entry.ensures.nlink; room = c.remove_entry.ensures.room });
  new_is = refl;
}
