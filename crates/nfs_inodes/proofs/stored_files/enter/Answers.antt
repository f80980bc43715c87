use Rattle.std.proofs.Common.{refl, subst}
use Rattle.nfs_inodes.specs.declared.stored_file.StoredFile.{StoredFile}
use Rattle.nfs_inodes.specs.Tree.{one_when}
use Rattle.nfs_inodes.specs.StoredFiles.{Enters}
use Rattle.nfs_inodes.proofs.StoredFiles.{value_found}
use Rattle.nfs_inodes.proofs.stored_files.enter.Goals as goal

pub returns : goal.returns
returns c = record {
  was = c.requires.dir.dir;
  at_was = c.requires.dir.at_dir;
  value = c.add_entry.new.stored_file;
  from = subst (λ (i : StoredFile). Enters c.args.name c.args.number.0 (one_when c.args.subdirectory) c.args.now i c.add_entry.new.stored_file)
      (value_found c.args.files.now c.args.dir.0 c.requires.dir.dir c.in-Some.parent.now c.requires.dir.at_dir c.in-Some.ensures.value)
      (record { file = c.add_entry.ensures.file; nlink = c.add_entry.ensures.nlink });
  new_is = refl;
}
