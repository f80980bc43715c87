use Rattle.nfs_inodes.proofs.KeptLeavings.{loses_entry, is_there_still}
use Rattle.nfs_inodes.proofs.KeptCarries.{names, not_source, takes_entry_there, room_there_still, fresh_there, has_carried}
use Rattle.nfs_inodes.proofs.renaming.carry.Goals as goal

pub leave-requires : goal.leave-requires
leave-requires c = loses_entry c.args.files.now c.requires.1 c.args.route.from.0 c.args.name.now c.args.route.number.0 c.requires.2.agree (names c.args.files.now c.requires.1 c.args.route c.args.name.now c.args.new_name c.requires.2) c.is_directory-subdirectory.result c.is_directory-subdirectory.ensures

pub move_to-requires : goal.move_to-requires
move_to-requires c = is_there_still c.args.files.now c.requires.1 c.args.route.from.0 c.args.name.now c.args.route.number.0 c.requires.2.agree (names c.args.files.now c.requires.1 c.args.route c.args.name.now c.args.new_name c.requires.2)
    (not_source c.args.files.now c.requires.1 c.args.route c.args.name.now c.args.new_name c.requires.2) c.args.now c.leave.new.files c.is_directory-subdirectory.result c.is_directory-subdirectory.ensures c.leave.ensures

pub enter-requires-clause-dir : goal.enter-requires-clause-dir
enter-requires-clause-dir c = takes_entry_there c.args.files.now c.requires.1 c.args.route c.args.name.now c.args.new_name c.requires.2 c.args.now c.leave.new.files c.is_directory-subdirectory.result c.is_directory-subdirectory.ensures c.leave.ensures c.move_to.new.files c.move_to.ensures

pub enter-requires-clause-room : goal.enter-requires-clause-room
enter-requires-clause-room c = room_there_still c.args.files.now c.requires.1 c.args.route c.args.name.now c.args.new_name c.requires.2 c.args.now c.leave.new.files c.is_directory-subdirectory.result c.is_directory-subdirectory.ensures c.leave.ensures c.move_to.new.files c.move_to.ensures

pub enter-requires-clause-fresh : goal.enter-requires-clause-fresh
enter-requires-clause-fresh c = fresh_there c.args.files.now c.requires.1 c.args.route c.args.name.now c.args.new_name c.requires.2 c.args.now c.leave.new.files c.is_directory-subdirectory.result c.is_directory-subdirectory.ensures c.leave.ensures c.move_to.new.files c.move_to.ensures

pub returns : goal.returns
returns c = λ limits stored_volumes carries. has_carried c.args.files.now stored_volumes c.args.route c.args.name.now c.args.new_name carries c.args.now c.leave.new.files c.is_directory-subdirectory.result c.is_directory-subdirectory.ensures c.leave.ensures c.move_to.new.files c.move_to.ensures c.enter.new.files c.enter.ensures
