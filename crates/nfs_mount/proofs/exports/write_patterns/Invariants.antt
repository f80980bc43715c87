use Rattle.std.proofs.Common.{◌+◌, ◌*◌, ◌≤◌, take}
use Rattle.nfs_xdr.specs.Encoding.{opaque_text}
use Rattle.nfs_xdr.specs.Written.{Appends}
use Rattle.nfs_args.specs.Chains.{Each, links_text}
use Rattle.nfs_args.specs.Encoding.{IsString}
use Rattle.nfs_mount.specs.MountAnswers.{group}
use Rattle.nfs_mount.proofs.exports.write_patterns.Given as goal

abbrev pub invariant-loop-export : goal.invariant-loop-export
invariant-loop-export l = record {
  text : Appends (links_text (λ e. opaque_text (group e)) (take l.export-index l.exports)) l.fn.out l.out;
  encoded : Each (λ e. IsString (group e) (opaque_text (group e))) (take l.export-index l.exports);
  room : l.fn.out.room ≤ l.out.room + 28 * l.export-index;
}
