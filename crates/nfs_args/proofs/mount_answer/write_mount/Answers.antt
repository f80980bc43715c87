use Rattle.nfs_args.proofs.Writes.{null_written, unmount_written, unmount_all_written}
use Rattle.nfs_args.proofs.mount_answer.write_mount.Goals as goal

pub returns-in-Null-clause-encoded : goal.returns-in-Null-clause-encoded
returns-in-Null-clause-encoded c = null_written c.args.answer.now c.in-Null.is

pub returns-in-Unmount-clause-encoded : goal.returns-in-Unmount-clause-encoded
returns-in-Unmount-clause-encoded c = unmount_written c.args.answer.now c.in-Unmount.is

pub returns-in-UnmountAll-clause-encoded : goal.returns-in-UnmountAll-clause-encoded
returns-in-UnmountAll-clause-encoded c = unmount_all_written c.args.answer.now c.in-UnmountAll.is
