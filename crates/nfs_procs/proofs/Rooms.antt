-- The room of the largest result is room for each.
use Rattle.std.proofs.Common.{◌≤◌, arith}
use Rattle.nfs_args.specs.declared.args.NfsArgs.{NfsArgs}
use Rattle.nfs_args.specs.declared.args.NfsArgs.TheVariants as nfs
use Rattle.nfs_args.specs.declared.procedure.Procedure.TheVariants as proc
use Rattle.nfs_args.specs.Sizes.{largest_of}
use Rattle.nfs_procs.specs.Procedures.{doing_of, room_for}

pub within_largest : (args : NfsArgs) → room_for (doing_of args) ≤ largest_of proc.Read
within_largest nfs.Null = omega arith
within_largest (nfs.Getattr a) = omega arith
within_largest (nfs.Setattr a) = omega arith
within_largest (nfs.Lookup a) = omega arith
within_largest (nfs.Access a) = omega arith
within_largest (nfs.Readlink a) = omega arith
within_largest (nfs.Read a) = omega arith
within_largest (nfs.Write a) = omega arith
within_largest (nfs.Create a) = omega arith
within_largest (nfs.Mkdir a) = omega arith
within_largest (nfs.Symlink a) = omega arith
within_largest (nfs.Mknod a) = omega arith
within_largest (nfs.Remove a) = omega arith
within_largest (nfs.Rmdir a) = omega arith
within_largest (nfs.Rename a) = omega arith
within_largest (nfs.Link a) = omega arith
within_largest (nfs.Readdir a) = omega arith
within_largest (nfs.Readdirplus a) = omega arith
within_largest (nfs.Fsstat a) = omega arith
within_largest (nfs.Fsinfo a) = omega arith
within_largest (nfs.Pathconf a) = omega arith
within_largest (nfs.Commit a) = omega arith
