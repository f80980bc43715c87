use Rattle.std.proofs.Common.{◌≡◌, None, drop, option_map}
use Rattle.nfs_client.specs.Places.{way_from}
use Rattle.nfs_client.specs.Ways.{way_seen}
use Rattle.nfs_client.proofs.resolved_path.find_way.Given as goal

abbrev pub invariant-loop-index : goal.invariant-loop-index
invariant-loop-index l = way_from None l.tree.volumes l.fn.path ≡ way_from (option_map way_seen l.found) (drop l.index l.tree.volumes) l.fn.path
