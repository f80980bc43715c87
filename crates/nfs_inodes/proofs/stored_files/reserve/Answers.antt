use Rattle.std.proofs.Common.{Some, option_map, sym, ap, ◌∙◌}
use Rattle.nfs_inodes.specs.declared.stored_file.StoredFile.{StoredFile}
use Rattle.nfs_inodes.specs.Tree.{File}
use Rattle.nfs_inodes.proofs.StoredFiles.{reserved, room_there}
use Rattle.nfs_inodes.proofs.stored_files.reserve.Goals as goal

pub returns-in_err-reserve_entry-in-Some-clause-same : goal.returns-in_err-reserve_entry-in-Some-clause-same
returns-in_err-reserve_entry-in-Some-clause-same c = reserved c.args.files.now c.args.dir.0 c.requires c.in-Some.parent.now c.reserve_entry.new.stored_file c.in-Some.ensures.value c.reserve_entry.ensures.file c.reserve_entry.ensures.nlink

pub returns-clause-same : goal.returns-clause-same
returns-clause-same c = reserved c.args.files.now c.args.dir.0 c.requires c.in-Some.parent.now c.reserve_entry.new.stored_file c.in-Some.ensures.value c.reserve_entry.ensures.file c.reserve_entry.ensures.nlink

pub returns-clause-index : goal.returns-clause-index
returns-clause-index c = ap (option_map (λ (i : StoredFile). i.volume)) (sym c.in-Some.ensures.value) ∙ ap (λ (f : File). Some f.volume) (sym c.reserve_entry.ensures.file)

pub returns-clause-ok : goal.returns-clause-ok
returns-clause-ok c = room_there c.args.files.now c.args.dir.0 c.requires.dir c.reserve_entry.new.stored_file c.requires.at_dir c.in_ok-reserve_entry-in-Some.ensures.ok
