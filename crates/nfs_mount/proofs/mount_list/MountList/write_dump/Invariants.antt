use Rattle.std.proofs.Common.{◌+◌, ◌*◌, ◌≤◌, take}
use Rattle.nfs_xdr.specs.Written.{Appends}
use Rattle.nfs_args.specs.Chains.{Each, links_text}
use Rattle.nfs_args.specs.MountAnswers.{IsMounted, mounted_text}
use Rattle.nfs_mount.specs.MountAnswers.{client}
use Rattle.nfs_mount.proofs.mount_list.MountList.write_dump.Given as goal

abbrev pub invariant-loop-mount : goal.invariant-loop-mount
invariant-loop-mount l = record {
  text : Appends (links_text (λ m. mounted_text (client l.tree m)) (take l.mount-index l.mount-items)) l.fn.out l.out;
  encoded : Each (λ m. IsMounted (client l.tree m) (mounted_text (client l.tree m))) (take l.mount-index l.mount-items);
  room : l.fn.out.room ≤ l.out.room + 284 * l.mount-index;
}
