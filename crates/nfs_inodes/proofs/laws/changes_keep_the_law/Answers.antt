use Rattle.nfs_inodes.proofs.law.Operations.{law_after_link, law_after_write_at}
use Rattle.nfs_inodes.proofs.law.NewFiles.{law_after_make_file, law_after_mkdir, law_after_make_link, law_after_add_volume}
use Rattle.nfs_inodes.proofs.law.Settings.{law_after_resize, law_after_set}
use Rattle.nfs_inodes.proofs.law.Unlinks.{law_after_unlink}
use Rattle.nfs_inodes.proofs.law.Renames.{law_after_rename}
use Rattle.nfs_inodes.proofs.laws.changes_keep_the_law.Goals as goal

pub returns : goal.returns
returns c = record {
  files = law_after_make_file;
  directories = law_after_mkdir;
  links = law_after_make_link;
  names = law_after_link;
  bytes = law_after_write_at;
  sizes = law_after_resize;
  attributes = law_after_set;
  removals = law_after_unlink;
  renames = law_after_rename;
  volumes = law_after_add_volume;
}
