use Rattle.nfs_inodes.proofs.StoredFiles.{on_err, unwritten}
use Rattle.nfs_inodes.proofs.SizeChanges.{resized, takes_growth}
use Rattle.nfs_inodes.proofs.stored_files.resize.Goals as goal

pub returns-in_err-resize_bytes-in-Some-clause-err :
    goal.returns-in_err-resize_bytes-in-Some-clause-err
returns-in_err-resize_bytes-in-Some-clause-err c = on_err c.from_residual.result (unwritten c.args.files.now c.args.number.0 c.requires.file c.in-Some.stored_file.now c.resize_bytes.new.stored_file c.requires.at_file c.in-Some.ensures.value c.in_err-resize_bytes-in-Some.ensures.err c.resize_bytes.ensures.nlink)

pub returns-in_err-resize_bytes-in-Some-clause-full :
    goal.returns-in_err-resize_bytes-in-Some-clause-full
returns-in_err-resize_bytes-in-Some-clause-full c = on_err c.from_residual.result (takes_growth c.args.files.now c.args.number.0 c.args.size c.requires c.in-Some.stored_file.now c.in-Some.ensures.value c.in_err-resize_bytes-in-Some.ensures.full)

pub returns-clause-ok : goal.returns-clause-ok
returns-clause-ok c = resized c.args.files.now c.args.number.0 c.args.size c.size-before.result c.args.now c.requires c.in-Some.stored_file.now c.resize_bytes.new.stored_file c.in-Some.ensures.value c.in_ok-resize_bytes-in-Some.ensures.ok c.resize_bytes.ensures.nlink c.size-before.ensures
