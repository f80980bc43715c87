use Rattle.std.proofs.Common.{refl, sym, ap, subst}
use Rattle.nfs_handles.specs.NumberedFiles.{NumberedFiles}
use Rattle.nfs_inodes.specs.declared.stored_file.StoredFile.{StoredFile}
use Rattle.nfs_inodes.specs.Tree.{one_when}
use Rattle.nfs_inodes.specs.StoredFiles.{SameFiles}
use Rattle.nfs_inodes.proofs.StoredFiles.{on_err, takes_still, room_still, fresh_still, added}
use Rattle.nfs_inodes.proofs.stored_files.add.Goals as goal

pub returns-in_err-number-clause-err : goal.returns-in_err-number-clause-err
returns-in_err-number-clause-err c = on_err _ (subst (λ (u : NumberedFiles StoredFile). SameFiles c.args.files.now u) (sym c.in_err-number.ensures.err) (record { files = refl; next = refl; key = refl }))

pub enter-requires-clause-dir : goal.enter-requires-clause-dir
enter-requires-clause-dir c = takes_still c.args.files.now c.add.new.self c.args.dir.0 c.args.stored_file c.requires.dir c.in_ok-number.ensures.adds

pub enter-requires-clause-room : goal.enter-requires-clause-room
enter-requires-clause-room c = room_still c.args.files.now c.add.new.self c.args.dir.0 c.args.stored_file c.requires.dir c.in_ok-number.ensures.adds c.requires.room

pub enter-requires-clause-fresh : goal.enter-requires-clause-fresh
enter-requires-clause-fresh c = fresh_still c.args.files.now c.add.new.self c.args.dir.0 c.args.stored_file c.requires.dir c.in_ok-number.ensures.adds c.args.name c.requires.fresh

pub returns-clause-ok : goal.returns-clause-ok
returns-clause-ok c = added c.args.files.now c.add.new.self c.args.dir.0 c.args.stored_file c.requires.dir c.in_ok-number.ensures.adds c.enter.new.files c.args.name c.in_ok-number.number.0 (one_when c.is_directory-subdirectory.result) c.args.now c.enter.ensures c.in_ok-number.ensures.number (ap one_when c.is_directory-subdirectory.ensures)
