use Rattle.std.proofs.Common.{◌+◌, ◌*◌, ◌≤◌, map, take}
use Rattle.std.specs.List.{range_with_len}
use Rattle.nfs_xdr.specs.Written.{Appends}
use Rattle.nfs_args.specs.Chains.{AreEncoded, links_text}
use Rattle.nfs_args.specs.MountAnswers.{IsExported, exported_text}
use Rattle.nfs_exports.specs.Tables.{pattern_count}
use Rattle.nfs_mount.specs.MountAnswers.{exported_at}
use Rattle.nfs_mount.proofs.exports.write_export.Given as goal

abbrev pub invariant-loop-index : goal.invariant-loop-index
invariant-loop-index l = record {
  text : Appends (links_text exported_text (map (exported_at l.tree l.table) (range_with_len 0 l.index))) l.fn.out l.out;
  encoded : AreEncoded IsExported exported_text (map (exported_at l.tree l.table) (range_with_len 0 l.index));
  room : l.fn.out.room ≤ l.out.room + (268 * l.index + 28 * pattern_count (take l.index l.table));
}
