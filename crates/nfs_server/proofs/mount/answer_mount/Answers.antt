use Rattle.std.proofs.Common.{length, ap}
use Rattle.nfs_rpc.specs.Calls.{call_of}
use Rattle.nfs_server.proofs.Mounted.{denied_mount, granted_mount, refused_mount}
use Rattle.nfs_server.proofs.Room.{adds, adds_then, after_is, given_up, reply_text}
use Rattle.nfs_server.proofs.mount.answer_mount.Goals as goal

pub returns-in-Granted-clause-answers : goal.returns-in-Granted-clause-answers
returns-in-Granted-clause-answers c = granted_mount c.args.tree.now c.args.table.now c.args.addr (call_of c.args.head.now) _ _ _ _ _ _ c.args.args.now _ c.requires.line c.in-Granted.is c.mount.ensures.mounts
    (λ text written. reply_text c.args.out.now c.write_accepted.new.out c.mount.new.out _ text c.write_accepted.ensures written)

pub returns-in-Denied-clause-answers : goal.returns-in-Denied-clause-answers
returns-in-Denied-clause-answers c = denied_mount c.args.tree.now c.args.table.now c.args.addr (call_of c.args.head.now) _ _ _ _ _ _ c.args.args.now _ _ c.in-Denied.is c.mount.ensures.mounts
    (λ text written. reply_text c.args.out.now c.write_accepted.new.out c.mount.new.out _ text c.write_accepted.ensures written) c.of.ensures

pub returns-in-Memory-clause-answers : goal.returns-in-Memory-clause-answers
returns-in-Memory-clause-answers c = refused_mount c.args.tree.now c.args.table.now c.args.addr (call_of c.args.head.now) _ _ _ _ _ _ c.args.args.now _ _ c.in-Memory.is c.mount.ensures.mounts
    (after_is c.args.out.now c.give_up.new.out _ (given_up c.args.out.now c.mount.new.out c.give_up.new.out (length c.bytes-start.result.now) _
    (adds_then c.args.out.now c.write_accepted.new.out c.mount.new.out (adds _ c.args.out.now c.write_accepted.new.out c.write_accepted.ensures) c.mount.ensures.adds)
    (ap length c.bytes-start.ensures) c.give_up.ensures.bytes c.give_up.ensures.room).bytes) c.of-in-Memory.ensures
