use Rattle.nfs_inodes.proofs.StoredFiles.{gains}
use Rattle.nfs_inodes.proofs.stored_files.gain_link.Goals as goal

pub returns : goal.returns
returns c = gains c.args.files.now c.args.number.0 c.requires.file c.in-Some.stored_file.now c.args.now c.requires.at_file c.in-Some.ensures.value
