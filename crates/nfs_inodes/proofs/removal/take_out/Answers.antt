use Rattle.nfs_inodes.proofs.KeptLeavings.{loses_entry}
use Rattle.nfs_inodes.proofs.KeptRemovals.{names, has_entries, totals_there, done, room_after}
use Rattle.nfs_inodes.proofs.removal.take_out.Goals as goal

pub leave-requires : goal.leave-requires
leave-requires c = loses_entry c.args.files.now c.args.volumes.now.items c.args.removal.dir.0 c.args.name.now c.args.removal.number.0 c.requires.removes.agree (names c.args.files.now c.args.volumes.now.items c.args.removal.dir.0 c.args.name.now c.args.removal.number.0 c.requires.removes) c.args.removal.file.directory c.requires.stands.directory

pub release-freed-requires : goal.release-freed-requires
release-freed-requires c = has_entries c.args.files.now c.args.volumes.now.items c.args.removal.dir.0 c.args.name.now c.args.removal.number.0 c.requires.removes c.args.now c.leave.new.files c.args.removal.file.directory c.requires.stands.directory c.leave.ensures c.args.removal.file.last c.requires.stands.last

pub discount-requires : goal.discount-requires
discount-requires c = totals_there c.args.files.now c.args.volumes.now.items c.args.removal.dir.0 c.args.name.now c.args.removal.number.0 c.requires.removes c.args.now c.leave.new.files c.args.removal.file.directory c.requires.stands.directory c.leave.ensures
    c.release-freed.result c.release-freed.new.files c.release-freed.ensures

pub returns-clause-agree : goal.returns-clause-agree
returns-clause-agree c = (done c.args.files.now c.args.volumes.now.items c.args.removal.dir.0 c.args.name.now c.args.removal.number.0 c.requires.removes c.args.now c.leave.new.files c.args.removal.file.directory c.requires.stands.directory c.leave.ensures
    c.release-freed.result c.release-freed.new.files c.discount.new.volumes.items c.discount.ensures c.release-freed.ensures).0

pub returns-clause-done : goal.returns-clause-done
returns-clause-done c = (done c.args.files.now c.args.volumes.now.items c.args.removal.dir.0 c.args.name.now c.args.removal.number.0 c.requires.removes c.args.now c.leave.new.files c.args.removal.file.directory c.requires.stands.directory c.leave.ensures
    c.release-freed.result c.release-freed.new.files c.discount.new.volumes.items c.discount.ensures c.release-freed.ensures).1

pub returns-clause-room : goal.returns-clause-room
returns-clause-room c = room_after c.args.files.now c.args.volumes.now.items c.args.removal.dir.0 c.args.name.now c.args.removal.number.0 c.requires.removes c.args.now c.leave.new.files c.args.removal.file.directory c.requires.stands.directory c.leave.ensures
    c.release-freed.result c.release-freed.new.files c.release-freed.ensures
