use Rattle.std.proofs.Common.{refl, subst}
use Rattle.nfs_inodes.specs.declared.stored_file.StoredFile.{StoredFile}
use Rattle.nfs_inodes.specs.Renamings.{MovesTo}
use Rattle.nfs_inodes.proofs.StoredFiles.{value_found}
use Rattle.nfs_inodes.proofs.renaming.move_to.Goals as goal

pub returns : goal.returns
returns c = record {
  was = c.requires.file;
  at_was = c.requires.at_file;
  value = c.set_parent.new.stored_file;
  from = subst (λ (i : StoredFile). MovesTo c.args.dir.0 c.args.now i c.set_parent.new.stored_file)
      (value_found c.args.files.now c.args.number.0 c.requires.file c.in-Some.stored_file.now c.requires.at_file c.in-Some.ensures.value)
      (record { file = c.set_parent.ensures.file; nlink = c.set_parent.ensures.nlink; room = c.set_parent.ensures.room });
  new_is = refl;
}
