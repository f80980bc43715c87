use Rattle.nfs_inodes.proofs.StoredFiles.{on_err, same_files, takes_link_twice, dir_for_link, room_for_link, fresh_for_link, linked_files}
use Rattle.nfs_inodes.proofs.stored_files.link.Goals as goal

pub returns-in_err-reserve-clause-err : goal.returns-in_err-reserve-clause-err
returns-in_err-reserve-clause-err c = on_err c.from_residual.result (same_files c.args.files.now c.reserve.new.files c.args.dir.0 c.reserve.ensures.same)

pub gain_link-requires : goal.gain_link-requires
gain_link-requires c = takes_link_twice c.args.files.now c.reserve.new.files c.reserve.new.files c.args.number.0 c.args.dir.0 c.args.now c.requires.dir c.requires.file c.reserve.ensures.same

pub enter-requires-clause-dir : goal.enter-requires-clause-dir
enter-requires-clause-dir c = dir_for_link c.args.files.now c.reserve.new.files c.gain_link.new.files c.args.number.0 c.args.dir.0 c.args.now c.requires.dir c.requires.file c.reserve.ensures.same c.gain_link.ensures

pub enter-requires-clause-room : goal.enter-requires-clause-room
enter-requires-clause-room c = room_for_link c.args.files.now c.reserve.new.files c.gain_link.new.files c.args.number.0 c.args.dir.0 c.args.now c.requires.dir c.requires.file c.reserve.ensures.same c.gain_link.ensures c.in_ok-reserve.ensures.ok

pub enter-requires-clause-fresh : goal.enter-requires-clause-fresh
enter-requires-clause-fresh c = fresh_for_link c.args.files.now c.reserve.new.files c.gain_link.new.files c.args.number.0 c.args.dir.0 c.args.now c.requires.dir c.requires.file c.reserve.ensures.same c.gain_link.ensures c.args.name c.requires.fresh

pub returns-clause-ok : goal.returns-clause-ok
returns-clause-ok c = linked_files c.args.files.now c.reserve.new.files c.gain_link.new.files c.args.number.0 c.args.dir.0 c.args.now c.requires.dir c.requires.file c.reserve.ensures.same c.gain_link.ensures c.enter.new.files c.args.name c.enter.ensures
