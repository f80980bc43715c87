use Rattle.std.proofs.Common.{refl, subst}
use Rattle.nfs_inodes.specs.declared.stored_file.StoredFile.{StoredFile}
use Rattle.nfs_inodes.specs.StoredFiles.{SetsAttributes}
use Rattle.nfs_inodes.proofs.StoredFiles.{value_found}
use Rattle.nfs_inodes.proofs.stored_files.set.Goals as goal

pub returns : goal.returns
returns c = record {
  was = c.requires.file;
  at_was = c.requires.at_file;
  value = c.set_attributes.new.stored_file;
  from = subst (λ (i : StoredFile). SetsAttributes c.args.given.now c.args.now i c.set_attributes.new.stored_file)
      (value_found c.args.files.now c.args.number.0 c.requires.file c.in-Some.stored_file.now c.requires.at_file c.in-Some.ensures.value)
      (record { file = c.set_attributes.ensures.file; nlink = c.set_attributes.ensures.nlink });
  new_is = refl;
}
